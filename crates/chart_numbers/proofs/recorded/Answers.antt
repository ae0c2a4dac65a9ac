use Rattle.counting.proofs.Prelude.{ap, ◌∙◌}
use Rattle.std.proofs.lemmas.Result.{err_from_is_err_and}
use Rattle.chart_lists.specs.Chart.{no_counts}
use Rattle.chart_lists.proofs.Leaving.{refused-left}
use Rattle.specification.specs.declared.Refusal.{Refusal}
use Rattle.specification.specs.Refusals.{refusal_number}
use Rattle.fields.proofs.Parting.{parted_bad}
use Rattle.chart_plan.proofs.Judging.{record_unread, record_read}
use Rattle.chart_numbers.proofs.recorded.Goals as goal

pub returns-in_err-g : goal.returns-in_err-g
returns-in_err-g c =
    let told = err_from_is_err_and c.from_residual.result c.from_residual.ensures.1 in
    rw told.1
    (refused-left _ _ _ _ _ _ _ (record_unread _ _ c.in_err-g.ensures)
    (ap (λ (k : Refusal). no_counts (refusal_number k)) (told.2 ∙ (parted_bad _ _ _ c.in_err-g.ensures).1)) c.requires)

pub returns : goal.returns
returns c = rw (record_read _ c.in_ok-g.g c.in_ok-g.ensures) c.graphed.ensures
