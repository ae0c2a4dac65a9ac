-- The chart of the graph that the record says, or a refusal. Assumes nothing.
use Rattle.counting.proofs.Prelude.{refl, ap, ◌∙◌, []}
use Rattle.fields.proofs.Parting.{parted_bad}
use Rattle.chart_plan.proofs.Judging.{record_unread, record_read}
use Rattle.specification.specs.declared.Refusal.{Refusal}
use Rattle.specification.specs.Refusals.{refusal_number}
use Rattle.chart_entries.specs.Steps.Sheet.{blank_of}
use Rattle.chart_entries.specs.Steps.Sheets.{summary_of}
use Rattle.chart_entries.proofs.Sheets.{refused-sheet}
use Rattle.chart_entries.proofs.Handing.{refused_handed}
use Rattle.chart_entries.proofs.chart_record.Goals as goal

pub returns-in-Ok : goal.returns-in-Ok
returns-in-Ok c = rw (record_read _ c.in-Ok.g c.in-Ok.ensures) c.draw.ensures

pub returns-in-Err : goal.returns-in-Err
returns-in-Err c =
    refused_handed _ _ _ _ _ _ (blank_of 1) _ _ [] [] 1 refl (refused-sheet _ _ _ _ _ _ _ 1 (record_unread _ _ c.in-Err.ensures) refl)
    (c.refused.ensures ∙ ap (λ (k : Refusal). summary_of (blank_of (refusal_number k)) 0) (parted_bad _ _ _ c.in-Err.ensures).1)
    refl refl refl
