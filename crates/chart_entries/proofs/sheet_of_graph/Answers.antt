-- `chart_entries::sheet_of_graph` meets its contract: each return by the law of its case (`Sheets.antt`). Assumes nothing.
use Rattle.counting.proofs.Prelude.{refl, ap}
use Rattle.std.proofs.lemmas.Result.{err_from_is_err_and}
use Rattle.specification.specs.declared.Refusal.{Refusal}
use Rattle.specification.specs.Refusals.{refusal_number}
use Rattle.chart_entries.specs.Steps.Sheet.{blank_of}
use Rattle.specification.proofs.Cases.{refusal_numbered}
use Rattle.chart_entries.proofs.Sheets.{graph_unplanned, short_vertices, short_edges, short_bundles, graph_drafted}
use Rattle.chart_entries.proofs.sheet_of_graph.Goals.{then-vertices-n-via-then-vertices-n}
use Rattle.chart_entries.proofs.sheet_of_graph.Goals.{then-vertices-n-via-else-vertices-n+then-edges-m}
use Rattle.chart_entries.proofs.sheet_of_graph.Goals.{then-vertices-n-via-else-vertices-n+else-edges-m+then-bundles-p}
use Rattle.chart_entries.proofs.sheet_of_graph.Goals as goal

pub returns-in_err-p : goal.returns-in_err-p
returns-in_err-p c =
    let told = err_from_is_err_and c.from_residual.result c.from_residual.ensures.1 in
    rw told.1
    (graph_unplanned _ _ _ _ _ _ _ _ c.in_err-p.ensures _ _ _ _ (refusal_numbered c.in_err-p.field-0.0)
    (ap (λ (k : Refusal). blank_of (refusal_number k)) told.2))

pub returns-then-vertices-n : goal.returns-then-vertices-n
returns-then-vertices-n c =
    elim c.then-vertices-n.branch [
      | then-vertices-n-via-then-vertices-n w ↦
          short_vertices _ _ _ _ _ _ _ _ c.in_ok-p.ensures _ _ _ _ refl w.if-vertices-n.true refl
      | then-vertices-n-via-else-vertices-n+then-edges-m w ↦
          short_edges _ _ _ _ _ _ _ _ c.in_ok-p.ensures _ _ _ _ refl w.if-vertices-n.false w.if-edges-m.true refl
      | then-vertices-n-via-else-vertices-n+else-edges-m+then-bundles-p w ↦
          short_bundles _ _ _ _ _ _ _ _ c.in_ok-p.ensures _ _ _ _ refl w.if-vertices-n.false w.if-edges-m.false w.if-bundles-p.true refl
    ]

pub returns : goal.returns
returns c =
    graph_drafted _ _ _ _ _ _ _ _ c.in_ok-p.ensures _ _ _ _ refl c.if-vertices-n.false c.if-edges-m.false c.if-bundles-p.false
    (c.drafted.ensures _ _)
