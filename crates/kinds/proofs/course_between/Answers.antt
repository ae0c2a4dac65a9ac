use Rattle.counting.proofs.Prelude.{sym, ap₂, ◌∙◌, ◌+◌, ◌≤◌, arith, leb-true}
use Rattle.std.specs.Int.Bits.{bit_and}
use Rattle.counting.specs.Quads.{quad}
use Rattle.specification.proofs.Cases.{same-course}
use Rattle.geometry.proofs.Among.{among-low}
use Rattle.kinds.proofs.Betweens.{course-masked, course-next}
use Rattle.kinds.proofs.course_between.Goals as goal

-- `kinds::course_between` meets its contract. Assumes nothing.
pub returns-then-low_rise : goal.returns-then-low_rise
returns-then-low_rise c =
    let a = c.args in
    let l : c.row_at-b.result ≤ c.row_at-a.result + 1 = leb-true _ _ (sym c.low_rise.ensures ∙ c.if-low_rise.true) in
    let p = c.row_at-a.ensures in
    let q = c.row_at-b.ensures in
    sym (among-low _ _ _ _ _ (let h : quad 2 a.places.now a.v ≤ quad 2 a.places.now a.u + 1 = omega arith in h))

pub returns-then-to-from : goal.returns-then-to-from
returns-then-to-from c =
    let a = c.args in
    sym (course-next _ _ _ _ a.c a.d _ _ _ _ (omega (arith, c.if-to-from.true, c.min.ensures, c.max.ensures)))

pub returns : goal.returns
returns c =
    let a = c.args in
    same-course _ _ c.course_among.ensures ∙ course-masked a.below.now a.left.now
    (λ i. (c.type_inv.below i).fits) (λ i. (c.type_inv.left i).fits)
    _ _ _ _ _ _ _ _ _ _
    c.row_at-a.ensures c.row_at-b.ensures c.min.ensures c.max.ensures
    (ap₂ bit_and c.less.ensures c.less-2.ensures) (ap₂ bit_and c.less-3.ensures c.less-4.ensures) _ _ _ _
