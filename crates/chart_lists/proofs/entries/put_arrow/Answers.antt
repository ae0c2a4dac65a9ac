use Rattle.counting.proofs.Prelude.{refl, ap, ◌∙◌, arith, length-set}
use Rattle.specification.specs.Numbers.{code_of}
use Rattle.chart_lists.specs.Steps.Numbers.{given}
use Rattle.chart_lists.proofs.Passing.{arrow_next, kind-here, mark-low}
use Rattle.chart_lists.proofs.entries.put_arrow.Goals as goal

pub overflow_sub-result : goal.overflow_sub-result
overflow_sub-result c = let low = mark-low _ _ _ _ c.mark_at-mark.ensures in omega arith

pub overflow_add-result : goal.overflow_add-result
overflow_add-result c = record { fits = omega (arith, c.requires) }

pub shape_of-out : goal.shape_of-out
shape_of-out c = rw c.put_five.ensures (simp length-set refl)

pub returns : goal.returns
returns c =
    let a = c.args in
    let g = given a.ends.now a.longer.now a.places.now a.number.now a.columns.now a.below.now a.left.now in
    arrow_next g a.e _ a.firm _ _ _ (c.from-kind.ensures ∙ ap code_of (kind-here g a.e _ c.kind_at.ensures))
    c.mark_at-mark.ensures c.put_five.ensures
