-- Floors of 0 count as none (SPECIFICATION.md, 4.2): a record with them is answered as the one without the field, and rows without
-- floors are levels, which go by the edges alone. Assumes nothing.
use Rattle.counting.proofs.Prelude.{◌≡◌, refl, sym, ap, ◌∙◌, ◌↔◌, Bool, true, false, not, List, [], ℕ, ◌<◌, arith, ltb}
use Rattle.counting.proofs.Prelude.{length}
use Rattle.counting.proofs.Prelude.{get_or, eq-eqb, le-ltb}
use mathlib.Core.List.{map}
use Rattle.counting.proofs.Falsity.{neither}
use Rattle.counting.proofs.Somes.{some_none}
use Rattle.specification.specs.Count.{choose}
use Rattle.specification.specs.Graph.{edge?}
use Rattle.specification.specs.Channels.{lines_of, given_lines}
use Rattle.specification.specs.Checks.{Content, content, unfloored?, floor_at, size?, floor?, stranger?, double?, ring?, repeated?, unled?}
use Rattle.specification.specs.Checks.{loose_checks, later_checks, first_of, connection_in}
use Rattle.specification.specs.Writing.{Draft, floor_field, written, Writable}
use Rattle.specification.specs.Chart.{leads?, channels_of, floor_of, row_of, row_count}
use Rattle.specification.specs.Drawn.{broad?, chart_checks, chart_refusal, judged, record_drawn}
use Rattle.specification.specs.declared.ChartCounts.{ChartCounts}
use Rattle.specification.proofs.Written.{written-length, written_reads_back}
use Rattle.rows.specs.Levels.{level, levels_used}
use Rattle.rows.proofs.Levels.{row-level, used_level}
use Rattle.chart_numbers.specs.Chart.{HandedFlat}
use Rattle.demands.specs.Demands.{Flat, floorless}
use Rattle.demands.proofs.Alike.{left-same}
use Rattle.demands.proofs.Drafts.{meant, draft_content, drawn-written}

-- rows without floors are levels: 0 where no edge enters, else one more than the highest level of the tails
module _ (c : Content) (flat : (v : ℕ) → v < c.vertices → floor_of c v ≡ 0) where
  pub flat_rows : (v : ℕ) → v < c.vertices → row_of c v ≡ level (edge? c.tails c.heads) c.vertices v
  unfolding row_of
  flat_rows = row-level (edge? c.tails c.heads) (floor_of c) c.vertices flat

  pub flat-count : row_count c ≡ levels_used (edge? c.tails c.heads) c.vertices
  unfolding row_count
  flat-count = used_level (edge? c.tails c.heads) (floor_of c) c.vertices flat

-- floors of 0 pass
flat-passes : (n : ℕ) (p : Bool) (floors : List ℕ) → length floors ≡ n → ((v : ℕ) → get_or floors v 0 ≡ 0) → unfloored? n p floors ≡ false
unfolding unfloored?
flat-passes n true floors long zero =
    neither _ _ (ap not (eq-eqb _ _ long))
    (some_none (length floors) (λ v. ltb 127 (get_or floors v 0)) (λ v h. le-ltb 127 (get_or floors v 0) (omega (arith, zero v))))
flat-passes n false floors long zero = refl

none_passes : (n : ℕ) → unfloored? n false [] ≡ false
unfolding unfloored?
none_passes n = refl

-- two graphs that differ in floors that pass and in the bytes of the same given channels
module _ (n : ℕ) (tails heads : List ℕ) (g : Bool) (f k : List ℕ) (p : Bool) (floors : List ℕ) (same : lines_of f ≡ lines_of k)
    (passes : unfloored? n p floors ≡ false) where
  flat-refusal : chart_refusal (content n tails heads g f p floors) ≡ chart_refusal (content n tails heads g k false [])
  unfolding chart_refusal first_of loose_checks later_checks chart_checks size? floor? stranger? double? ring? repeated? unled?
      broad? connection_in channels_of leads? given_lines
  flat-refusal = rw (passes, none_passes n, same) refl

module _ (x : Draft) (w : Writable x) (flat : Flat x) where
  -- it is shorter without the field
  bare_writable : Writable (floorless x)
  unfolding floor_field
  bare_writable = record {
    vertices = w.vertices;
    edges = w.edges;
    channels = w.channels;
    bare = w.bare;
    floors = λ i. omega arith;
    floorless = λ _. refl;
    short = omega (arith, w.short, written-length x, written-length (floorless x));
  }

  abbrev tails : List ℕ
  tails = map (λ e. e.0) x.edges

  abbrev heads : List ℕ
  heads = map (λ e. e.1) x.edges

  -- both have the same given channels
  lines_same : lines_of (meant x w).field ≡ lines_of (meant (floorless x) bare_writable).field
  lines_same = (written_reads_back x w).channels ∙ sym (written_reads_back (floorless x) bare_writable).channels

  given-same : given_lines x.given (meant x w).field ≡ given_lines x.given (meant (floorless x) bare_writable).field
  unfolding given_lines
  given-same = ap (λ ls. choose x.given (λ _. ls) (λ _. [])) lines_same

  all_0 : (v : ℕ) → floor_at x.floored x.floors v ≡ floor_at false [] v
  all_0 v = go x.floored
    where
      go : (p : Bool) → floor_at p x.floors v ≡ 0
      go true = flat.1 v
      go false = refl

  abbrev number : ℕ
  number = chart_refusal (draft_content x w)

  drawn-bare : record_drawn (written (floorless x)) ≡ judged number (draft_content (floorless x) bare_writable)
  drawn-bare =
      drawn-written (floorless x) bare_writable
      ∙ ap (λ k. judged k (draft_content (floorless x) bare_writable))
      (sym (flat-refusal x.vertices tails heads x.given _ _ x.floored x.floors lines_same
      (flat-passes x.vertices x.floored x.floors flat.0 flat.1)))

  -- the record with floors of 0, and the one without floors, are answered alike
  pub flat_as_none : (ws es bs : List ℕ) (r : ChartCounts) (ws' es' bs' : List ℕ)
      → HandedFlat (written x) ws es bs r ws' es' bs' ↔ HandedFlat (written (floorless x)) ws es bs r ws' es' bs'
  flat_as_none ws es bs r ws' es' bs' = (
    (λ a. rw drawn-bare
        (left-same x.vertices tails heads x.given x.given _ _ x.floored false x.floors [] given-same all_0 ws es bs r ws' es'
        bs' number _ _ _ (rw (← drawn-written x w) a))),
    λ a. rw (drawn-written x w)
        (left-same x.vertices tails heads x.given x.given _ _ false x.floored [] x.floors (sym given-same)
        (λ v. sym (all_0 v)) ws es bs r ws' es' bs' number _ _ _ (rw (← drawn-bare) a)),
  )
