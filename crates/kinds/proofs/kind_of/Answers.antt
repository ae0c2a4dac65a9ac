use Rattle.counting.proofs.Prelude.{sym, ap, ◌∙◌}
use Rattle.specification.specs.Chart.{crossing}
use Rattle.specification.specs.declared.Kind.TheVariants.{PathTransitive}
use Rattle.kinds.proofs.Coding.{one_apart, not_one_apart, between-path, between_bundle, between_across}
use Rattle.kinds.proofs.kind_of.Goals as goal

-- `kinds::kind_of` meets its contract. Assumes nothing.
pub returns-then-abs_diff-eq1 : goal.returns-then-abs_diff-eq1
returns-then-abs_diff-eq1 c =
    sym (between-path _ _ _ _ _ _ _ _ _ _ _ _ c.if-c-d.true (one_apart _ _ (sym c.abs_diff.ensures ∙ c.if-abs_diff-eq1.true)))

pub returns-then-c-d : goal.returns-then-c-d
returns-then-c-d c =
    ap PathTransitive c.min.ensures
    ∙ sym
    (between_bundle _ _ _ _ _ _ _ _ _ _ _ _ c.if-c-d.true
    (not_one_apart _ _ (λ e. c.if-abs_diff-eq1.false (c.abs_diff.ensures ∙ e))))

pub returns-in-Straight : goal.returns-in-Straight
returns-in-Straight c =
    ap crossing (sym c.in-Straight.is ∙ c.course_between.ensures)
    ∙ sym (between_across _ _ _ _ _ _ _ _ _ _ _ _ c.if-c-d.false)

pub returns-in-Bent : goal.returns-in-Bent
returns-in-Bent c =
    ap crossing (sym c.in-Bent.is ∙ c.course_between.ensures)
    ∙ sym (between_across _ _ _ _ _ _ _ _ _ _ _ _ c.if-c-d.false)
