-- What the loop of `search::augment` keeps, by the laws of `proofs/Going.antt`. Assumes nothing.
use Rattle.counting.proofs.Prelude.{refl, sym, ◌∙◌, ℕ, ◌<◌, arith}
use Rattle.masks.proofs.Tables.{pair_row}
use Rattle.search.specs.Steps.Search.{NextOpen}
use Rattle.search.proofs.Going.{going_start, gives_missed, gives_free, gives_moved, shut, going_stuck, nearer, falls}
use Rattle.search.proofs.Open.{row_open, opens_some, opens_none, opens_shut}
use Rattle.search.proofs.+augment.Goals as goal
use Rattle.search.proofs.+augment.Goals.{In-Some, then-k-via-then-k, then-k-via-else-k+then-augment, then-is_some, else-is_some}

-- v is the next vertex to try
tried : (t : ℕ) (c : In-Some t) → NextOpen c.args.table.now c.args.h c.loop-v.visited 0 c.in-Some.v × (c.in-Some.v < c.args.n)
tried t c =
    opens_some _ _ _ _ _ (row_open _ _ _ _ _ _ _ (pair_row _ _ _ _ c.mask_at-low.ensures c.mask_at-high.ensures) c.in-Some.ensures)

pub loop-v-init : goal.loop-v-init
loop-v-init t c = going_start _ _ _ _ _ c.requires c.told-visited

pub visit-requires : goal.visit-requires
visit-requires t c = omega (arith, (tried t (goal.at.visit-requires t c).In-Some).1, c.requires)

pub bounds-predecessor-v : goal.bounds-predecessor-v
bounds-predecessor-v t c =
    omega (arith, (tried t (goal.at.bounds-predecessor-v t c).In-Some).1, c.requires)

pub augment-requires : goal.augment-requires
augment-requires t c =
    let g = c.loop-v.invariant in
    let o = tried t (goal.at.augment-requires t c).In-Some in (
      omega (arith, c.decreases, falls _ _ _ g o.0 o.1 _ c.visit.ensures),
      g.few,
    )

pub bounds-predecessor-v-then-k : goal.bounds-predecessor-v-then-k
bounds-predecessor-v-then-k t c =
    omega (arith, (tried t (goal.at.bounds-predecessor-v-then-k t c).In-Some).1, c.requires)

pub returns-then-k : goal.returns-then-k
returns-then-k t c =
    let g = c.loop-v.invariant in
    let o = tried t (goal.at.returns-then-k t c).In-Some in
    elim c.then-k.branch [
      | then-k-via-then-k w ↦ rw (w.predecessor-is, w.visited-is) (gives_free _ _ _ g o.0 o.1 _ c.visit.ensures w.if-k.true)
      | then-k-via-else-k+then-augment w ↦
          elim w.if-is_some.branch [
            | then-is_some m ↦
                rw (w.predecessor-is, w.visited-is, m.predecessor-is, m.visited-is) (gives_moved _ _ _ g o.0 o.1 _ c.visit.ensures _ _ _
                w.if-k.false m.augment.ensures (sym m.value-is ∙ w.if-augment.true))
            | else-is_some m ↦ absurd (cc (m.value-is, w.if-augment.true, m.if-is_some.false))
          ]
    ]

pub loop-v-smaller : goal.loop-v-smaller
loop-v-smaller t c =
    let g = c.loop-v.invariant in
    let o = tried t (goal.at.loop-v-smaller t c).In-Some in
    elim c.if-is_some.branch [
      | then-is_some m ↦
          rw (m.predecessor-is, m.visited-is) (nearer _ _ _ g o.0 o.1 _ c.visit.ensures _ _ _ c.if-k.false m.augment.ensures)
      | else-is_some m ↦
          rw (m.predecessor-is, m.visited-is) (nearer _ _ _ g o.0 o.1 _ c.visit.ensures _ _ _ c.if-k.false
          (shut _ _ _ _ _ _ c.next_open.ensures.found
          (opens_shut _ _ _ _ _ c.next_open.ensures (sym c.is_some.ensures ∙ m.if-is_some.false))))
    ]

pub loop-v-preserved : goal.loop-v-preserved
loop-v-preserved t c =
    let g = c.loop-v.invariant in
    let o = tried t (goal.at.loop-v-preserved t c).In-Some in
    elim c.if-is_some.branch [
      | then-is_some m ↦
          rw (m.predecessor-is, m.visited-is) (going_stuck _ _ _ g o.0 o.1 _ c.visit.ensures _ _ _ c.if-k.false m.augment.ensures
          (sym m.value-is ∙ c.if-augment.false) m.augment.array_long2)
      | else-is_some m ↦
          rw (m.predecessor-is, m.visited-is) (going_stuck _ _ _ g o.0 o.1 _ c.visit.ensures _ _ _ c.if-k.false
          (shut _ _ _ _ _ _ c.next_open.ensures.found
          (opens_shut _ _ _ _ _ c.next_open.ensures (sym c.is_some.ensures ∙ m.if-is_some.false))) refl c.visit.array_long)
    ]

pub returns : goal.returns
returns t c =
    let o = row_open _ _ _ _ _ _ _ (pair_row _ _ _ _ c.mask_at-low.ensures c.mask_at-high.ensures) c.in_default.ensures in
    gives_missed _ _ _ c.loop-v.invariant o.found (opens_none _ _ _ _ o)
