use Rattle.counting.proofs.Prelude.{sym, ◌∙◌, arith}
use Rattle.planning.proofs.Following.{lay_none, lay_ready, lay_chain, lay_held, lay_pass, lay_few, lay_all}
use Rattle.planning.proofs.chains.Goals as goal
use Rattle.planning.proofs.chains.Goals.{then-predecessor-v+then-not-contains, else-predecessor-v}
use Rattle.planning.proofs.chains.Goals.{else-predecessor-v-via-then-predecessor-v+else-not-contains}
use Rattle.planning.proofs.chains.Goals.{else-predecessor-v-via-else-predecessor-v}

pub loop-v-init : goal.loop-v-init
loop-v-init c = lay_none _ _ _ _ _ c.requires.3

pub with_chain-requires : goal.with_chain-requires
with_chain-requires c =
    let e = c.successors-successor.ensures in
    let l = c.loop-v-test.true in (
      c.requires.0,
      l,
      lay_ready _ _ _ _ _ c.requires.3 _ _ _ c.loop-v.invariant l c.requires.0 _ e c.if-predecessor-v.true c.requires.1
          (omega (arith, c.requires.2, c.loop-v.invariant.added.long)),
    )

pub overflow_add-count : goal.overflow_add-count
overflow_add-count c =
    omega (arith, c.requires.0, c.requires.1, lay_few _ _ _ _ _ c.requires.3 _ _ _ c.loop-v.invariant)

pub loop-v-preserved : goal.loop-v-preserved
loop-v-preserved c =
    let g = c.loop-v.invariant in
    let l = c.loop-v-test.true in
    elim c.if-predecessor-v.branch [
      | then-predecessor-v+then-not-contains w ↦
          rw (w.places-is, w.count-is) (lay_chain _ _ _ _ _ c.requires.3 _ _ _ g l c.requires.0 _ c.successors-successor.ensures
          w.if-predecessor-v.true (sym w.contains.ensures ∙ w.if-not-contains.true) _ w.with_chain.ensures)
      | else-predecessor-v w ↦
          rw (w.places-is, w.count-is) (elim w.else-predecessor-v.branch [
            | else-predecessor-v-via-then-predecessor-v+else-not-contains o ↦
                lay_held _ _ _ _ _ c.requires.3 _ _ _ g l (sym o.contains.ensures ∙ o.if-not-contains.false)
            | else-predecessor-v-via-else-predecessor-v o ↦
                lay_pass _ _ _ _ _ c.requires.3 _ _ _ g l o.if-predecessor-v.false
          ])
    ]

pub overflow_cast-result : goal.overflow_cast-result
overflow_cast-result c =
    omega (arith, c.requires.0, c.requires.1, lay_few _ _ _ _ _ c.requires.3 _ _ _ c.loop-v.invariant)

pub returns : goal.returns
returns c = lay_all _ _ _ _ _ c.requires.3 _ _ _ c.loop-v.invariant (omega arith)
