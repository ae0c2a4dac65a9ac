use Rattle.counting.proofs.Prelude.{refl, ap, ◌∙◌}
use Rattle.specification.specs.Count.{indicator}
use Rattle.reduction.proofs.Marks.{transitive_mask}
use Rattle.chart_lists.proofs.entries.mark_at.Goals as goal

-- `chart_lists::entries::mark_at` meets its contract: the mask is the one that holds v. Assumes nothing.
pub returns : goal.returns
returns c =
    let a = c.args in
    c.mark_in.ensures ∙ ap indicator (transitive_mask a.longer.now a.u a.v _ refl)
