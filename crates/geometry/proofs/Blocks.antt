-- The layout by blocks is a placement, and how wide it is. Assumes nothing.
use Rattle.counting.proofs.Prelude.{◌≡◌, refl, ap, ◌∙◌, ⊎_elim, ℕ, zero, suc, ◌+◌, ◌*◌, ◌-◌, ◌≤◌, ◌<◌, arith}
use native.Mathlib.Nat.{mul-le-mul_left}
use Rattle.specification.specs.Count.{sum}
use Rattle.specification.specs.Geometry.{Point, Widths, block_width, block_start, own_column}
use Rattle.counting.proofs.Truth.{lt-or-le}
use Rattle.counting.proofs.Sums.{sum_more, sum_split}
use Rattle.geometry.specs.Placement.{Placement}

-- what holds of the lower of two numbers, of equal ones and of the higher
pub lower-or_higher : {X : Type 0} (c d : ℕ) → (c < d → X) → (c ≡ d → X) → (d < c → X) → X
lower-or_higher {X} c d f g h = ⊎_elim f (λ k. ⊎_elim h (λ l. g (omega arith)) (lt-or-le d c)) (lt-or-le c d)

module _ (W : Widths) where
  -- a later block begins past an earlier one
  start_past : (c d : ℕ) → c < d → block_start W c + block_width W c ≤ block_start W d
  unfolding block_start
  start_past c d h =
      let whole : d ≡ c + 1 + (d - (c + 1)) = omega arith in
      omega (
        arith,
        ap (λ (k : ℕ). sum k (block_width W)) whole,
        sum_split (c + 1) (d - (c + 1)) (block_width W),
        sum_more c
            (block_width W),
      )

  -- between two own columns stand the gaps and the later channel's tracks
  pub own-apart : (c d : ℕ) → c < d → own_column W c + 1 + W.right_gap c + W.tracks d + W.left_gap d ≤ own_column W d
  unfolding own_column
  own-apart c d h = omega (arith, start_past c d h)

  own_room : (c : ℕ) → W.tracks c + W.left_gap c ≤ own_column W c
  unfolding own_column
  own_room c = omega arith

  module _ (c d : ℕ) where
    own_differ : own_column W c ≡ own_column W d → c ≡ d
    own_differ e =
        lower-or_higher c d (λ l. absurd (omega (arith, own-apart c d l))) (λ p. p) (λ l. absurd (omega (arith, own-apart d c l)))

    -- a column that is free of own columns: not past the right gap, not one's own, not before the left gap
    free : (x : ℕ) → x ≤ own_column W c + W.right_gap c → (own_column W c ≡ x → ⊥) → own_column W c ≤ x + W.left_gap c + W.tracks c
        → own_column W d ≡ x → ⊥
    free x low ne high e =
        lower-or_higher c d (λ l. omega (arith, own-apart c d l)) (λ p. ne (ap (own_column W) p ∙ e)) (λ l. omega (arith, own-apart d c l))

  module _ (n : ℕ) (at : ℕ → Point) (channel position : ℕ → ℕ) where
    -- The layout by blocks is a placement.
    pub blocks-placement :
        ((v : ℕ) → v < n → (at v).column ≡ own_column W (channel v))
        → ((u v : ℕ) → u < n → v < n → channel u ≡ channel v → position u ≡ position v → u ≡ v)
        → ((u v : ℕ) → u < n → v < n → channel u ≡ channel v → position u < position v → (at u).row < (at v).row)
        → Placement n at channel position (own_column W) W
    blocks-placement stand alone rise = record {
      on_own = stand;
      alone = alone;
      rows_rise = rise;
      own_differ = λ u v h k. own_differ (channel u) (channel v);
      right_free = λ u v d h k l. free (channel u) (channel v) _ (omega arith) (λ q. omega arith) (omega arith);
      left_free = λ u v d h k l e. free (channel u) (channel v) _ (omega arith) (λ q. omega arith) (omega arith) refl;
      tracks_free = λ u v j h k l.
          let r = own_room (channel u) in
          free (channel u) (channel v) _ (omega arith) (λ q. omega arith) (omega arith);
      room = λ v h. own_room (channel v);
    }

  -- every column of a block, up to the end of its right gap, is below the width
  pub own-within : (channels c : ℕ) → c < channels → own_column W c + W.right_gap c < block_start W channels
  unfolding own_column
  own-within channels c h = omega (arith, start_past c channels h)

  -- The width, where each channel has at most two tracks a vertex and its own column with the gaps takes at most g columns.
  pub width_bound : (channels g : ℕ) (size : ℕ → ℕ)
      → ((c : ℕ) → c < channels → W.tracks c ≤ 2 * size c)
      → ((c : ℕ) → c < channels → W.left_gap c + 1 + W.right_gap c ≤ g)
      → block_start W channels ≤ 2 * sum channels size + g * channels
  unfolding block_start sum
  width_bound zero g size few narrow = omega arith
  width_bound (suc k) g size few narrow =
      let h = width_bound k g size (λ c l. few c (omega arith)) (λ c l. narrow c (omega arith)) in
      omega (arith, few k (omega arith), narrow k (omega arith))

-- channels of at least one vertex each are at most as many as vertices
pub channels-bound : (channels : ℕ) (size : ℕ → ℕ) → ((c : ℕ) → c < channels → 0 < size c) → channels ≤ sum channels size
unfolding sum
channels-bound zero size filled = omega arith
channels-bound (suc k) size filled = omega (arith, channels-bound k size (λ c l. filled c (omega arith)), filled k (omega arith))

-- So with n vertices the last column of each block, where its right gap ends, is below (g + 2) n.
pub column_bound : (W : Widths) (channels g n : ℕ) (size : ℕ → ℕ)
    → ((c : ℕ) → c < channels → W.tracks c ≤ 2 * size c)
    → ((c : ℕ) → c < channels → W.left_gap c + 1 + W.right_gap c ≤ g)
    → ((c : ℕ) → c < channels → 0 < size c)
    → sum channels size ≤ n
    → (c : ℕ) → c < channels → own_column W c + W.right_gap c < (g + 2) * n
column_bound W channels g n size few narrow filled most c h =
    let fewer : channels ≤ n = omega (arith, channels-bound channels size filled) in
    omega (arith, own-within W channels c h, width_bound W channels g size few narrow, mul-le-mul_left g fewer)
