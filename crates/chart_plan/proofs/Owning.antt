-- Own columns, channel after channel. Assumes nothing.
use Rattle.counting.proofs.Prelude.{◌≡◌, refl, sym, ap, ◌∙◌, List, ℕ, ◌+◌, ◌≤◌, ◌<◌, arith, set, replicate, length, get_or, take}
use Rattle.std.proofs.lemmas.List.{get_or-take, length-take-le}
use Rattle.specification.specs.Count.{sum}
use Rattle.counting.proofs.Sums.{sum_more}
use Rattle.counting.proofs.Classes.{sum_longer}
use Rattle.specification.specs.Geometry.{Widths, even_gaps, block_width, block_start, own_column}
use Rattle.chart_plan.specs.Steps.{Owns, blocks_of}
use Rattle.chart_plan.proofs.Spacing.{start-same, own_same}
use Rattle.chart_plan.proofs.Tabling.{tabled_none, tabled_more}

pub owns_none : (W : Widths) → Owns W 0 (replicate 128 0) 0
unfolding block_start sum
owns_none W = record { columns = tabled_none (replicate 128 0) (own_column W); end = refl }

module _ (tracks : ℕ → ℕ) (j : ℕ) where
  -- the next block
  block_more : block_start (even_gaps tracks) (j + 1) ≡ block_start (even_gaps tracks) j + tracks j + 1 + 1 + 1
  unfolding block_start
  block_more = omega (arith, sum_more j (block_width (even_gaps tracks)))

  pub block_within : (channels : ℕ) → j < channels
      → block_start (even_gaps tracks) j + tracks j + 1 + 1 + 1 ≤ block_start (even_gaps tracks) channels
  unfolding block_start
  block_within channels h =
      omega (arith, sum_more j (block_width (even_gaps tracks)), sum_longer (j + 1) channels (block_width (even_gaps tracks)) (omega arith))

  pub owns_more : {own : List ℕ} {start : ℕ} → j < 128 → Owns (even_gaps tracks) j own start
      → Owns (even_gaps tracks) (j + 1) (set own j (start + tracks j + 1)) (start + tracks j + 1 + 1 + 1)
  unfolding own_column
  owns_more {own} {start} h o = record {
    columns = tabled_more (start + tracks j + 1) h o.columns (ap (λ (x : ℕ). x + tracks j + 1) o.end);
    end = ap (λ (x : ℕ). x + tracks j + 1 + 1 + 1) o.end ∙ sym block_more;
  }

-- ---- the blocks of the first channels, by their tracks alone

module _ (tracks : List ℕ) (channels : ℕ) (room : channels ≤ length tracks) where
  first_tracks : (l : ℕ) → l < channels → get_or (take channels tracks) l 0 ≡ get_or tracks l 0
  first_tracks l h = get_or-take channels tracks l 0 h

  counted : length (take channels tracks) ≡ channels
  counted = length-take-le channels tracks room

  pub start_part : (length (take channels tracks) ≡ channels)
      × (block_start (blocks_of (take channels tracks)) (length (take channels tracks)) ≡ block_start (blocks_of tracks) channels)
  start_part =
      (counted, rw counted (start-same (λ l. get_or (take channels tracks) l 0) (λ l. get_or tracks l 0) channels first_tracks))

  pub owns_part : {own : List ℕ} {width : ℕ} → Owns (blocks_of (take channels tracks)) (length (take channels tracks)) own width
      → Owns (blocks_of tracks) channels own width
  owns_part {own} {width} o =
      let n = counted in
      record {
        columns = record {
          long = o.columns.long;
          made = λ i l.
              o.columns.made i (omega arith)
              ∙ own_same (λ j. get_or (take channels tracks) j 0) (λ j. get_or tracks j 0) channels i l first_tracks;
          past = λ i l. o.columns.past i (omega arith);
        };
        end = o.end ∙ start_part.1;
      }
