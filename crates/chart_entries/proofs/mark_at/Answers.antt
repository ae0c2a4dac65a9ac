-- `chart_entries::mark_at` meets its contract: the mark is that of the mask that holds v, read back. Assumes nothing.
use Rattle.counting.proofs.Prelude.{refl, ap, ◌∙◌, ℕ, eqb}
use Rattle.reduction.specs.Reduction.{marked?}
use Rattle.reduction.proofs.Marks.{transitive_mask}
use Rattle.lists.proofs.Marking.{mark_back}
use Rattle.chart_entries.proofs.mark_at.Goals as goal

pub returns : goal.returns
returns c =
    let a = c.args in
    ap (λ (x : ℕ). eqb x 1) c.mark_in.ensures ∙ mark_back _ ∙ ap (λ (x : ℕ). marked? x a.v) c.mask_at-mask.ensures
    ∙ transitive_mask _ a.u a.v _ refl
