use Rattle.counting.proofs.Prelude.{sym, ◌∙◌, subst, List, ℕ, arith}
use Rattle.planning.proofs.Clearing.{Clearing, clearing_none, clearing_held, clearing_row}
use Rattle.planning.proofs.without.Goals as goal
use Rattle.planning.proofs.without.Goals.{then-not-contains, else-not-contains}

pub loop-u-init : goal.loop-u-init
loop-u-init c =
    let a = c.args in
    subst (λ (x : List ℕ). Clearing a.table.now a.held.now 0 x) (sym c.requires.1) (clearing_none _ _)

pub loop-u-preserved : goal.loop-u-preserved
loop-u-preserved c =
    let g = c.loop-u.invariant in
    elim c.if-not-contains.branch [
      | then-not-contains w ↦
          rw w.left-is (clearing_row _ _ _ _ g (omega arith) (sym c.contains.ensures ∙ w.if-not-contains.true) _ _ _ _
          w.mask_at.ensures w.mask_at-then-not-contains.ensures c.mask_at-low.ensures c.mask_at-high.ensures
          (λ i. (c.type_inv.held i).fits))
      | else-not-contains w ↦ rw w.left-is (clearing_held _ _ _ _ g (sym c.contains.ensures ∙ w.if-not-contains.false))
    ]
