use Rattle.counting.proofs.Prelude.{◌≡◌, sym, ap, ◌∙◌, subst, ℕ, List, ◌*◌, ◌+◌, ◌/◌, ◌<◌, ◌++◌, min}
use Rattle.counting.proofs.Prelude.{arith, drop, length, get_or, replicate, rules}
use Rattle.specification.specs.Lent.{Filled}
use Rattle.counting.specs.Quads.{quad}
use Rattle.counting.proofs.Quads.{spot-sum}
use Rattle.prefixes.specs.Prefixes.{Prefixes}
use Rattle.prefixes.proofs.Stages.{Putting, filled_part, put_none, put-more, put_past}
use Rattle.prefixes.proofs.sets_by.Goals as goal
use Rattle.prefixes.proofs.sets_by.Goals.{After-min-v-end, then-k-last, else-k-last}

-- the sets are cleared, as far as there are masks
cleared : (c : After-min-v-end) → Filled c.args.sets.now (λ i. 0)
    (min (2 * c.min-last.result + 2) (length c.args.sets.now)) (c.fill.new.self ++ drop c.min-end.result c.args.sets.now)
cleared c =
    let a = c.args in
    let end = c.min-end.result in
    let part : c.fill.new.self ≡ replicate end 0 = search rules in
    subst (λ (x : ℕ). Filled a.sets.now (λ i. 0) x (c.fill.new.self ++ drop end a.sets.now)) c.min-end.ensures
    (filled_part 0 a.sets.now c.fill.new.self end (omega (arith, c.min-end.ensures)) part)

pub loop-v-init : goal.loop-v-init
loop-v-init c = put_none _ _ _ _ (omega (arith, c.min-last.ensures, c.saturating_sub.ensures)) (cleared c)

pub loop-v-preserved : goal.loop-v-preserved
loop-v-preserved c =
    let a = c.args in
    let l = c.loop-v in
    let few : l.v < 128 = omega (arith, c.loop-v-test.true, c.min-v-end.ensures, c.min-2.ensures) in
    let key : get_or a.places.now (4 * l.v + a.key) 0 ≡ quad a.key a.places.now l.v =
    ap (λ (i : ℕ). get_or a.places.now i 0) (sym (spot-sum a.key l.v)) in
    let was = c.fill.new.self ++ drop c.min-end.result a.sets.now in
    elim c.if-k-last.branch [
      | then-k-last w ↦ put-more _ _ _ _ _ _ few key l.invariant _ w.if-k-last.true (w.sets-is ∙ w.insert.ensures.1)
      | else-k-last w ↦ subst
          (λ (s : List ℕ). Putting (quad a.key a.places.now) c.min-last.result (l.v + 1) was s)
          (sym w.sets-is)
          (put_past _ _ _ _ _ _ few key l.invariant w.if-k-last.false)
    ]

pub returns : goal.returns
returns c =
    let l = c.loop-v in
    let a = c.args in
    let key = quad a.key a.places.now in
    let full : l.v ≡ min (min a.n 128) (length a.places.now / 4) =
    omega (arith, c.loop-v-test.false, l.auto.v-end, c.min-v-end.ensures, c.min-2.ensures) in
    let made = c.join.ensures in
    let clear = cleared (goal.at.returns c).After-min-v-end in (
      omega (arith, c.min-last.ensures, c.min.ensures, c.saturating_sub.ensures),
      subst (λ (x : ℕ). Prefixes 2 x key c.min-last.result c.join.new.sets) full (made.0 l.v key l.invariant.stage),
      c.join.auto.sets ∙ l.invariant.long ∙ clear.as_long,
      λ i h. made.1 i h ∙ l.invariant.kept i h ∙ clear.kept i 0 (omega arith),
    )
