-- The graph's chart, by what `hand_over` leaves of its sheet, or a refusal. Assumes nothing.
use Rattle.counting.proofs.Prelude.{refl}
use Rattle.specification.specs.Parts.{present?, bytes_of}
use Rattle.chart_entries.proofs.Handing.{of_graph, refused_handed}
use Rattle.chart_entries.proofs.draw.Goals as goal

pub hand_over-requires : goal.hand_over-requires
hand_over-requires c = c.in-Ok.ensures.room

pub returns-in-Ok : goal.returns-in-Ok
returns-in-Ok c =
    let a = c.args in let g = a.g.now in let left = c.hand_over.new in
    of_graph a.vertices.now left.vertices a.edges.now left.edges a.bundles.now left.bundles _ c.hand_over.result
    g.vertices g.ends.now (present? g.given) (bytes_of g.given) (present? g.floors) (bytes_of g.floors) c.floors_of.result.now
    c.in-Ok.ensures c.floors_of.ensures c.hand_over.ensures

pub returns-in-Err : goal.returns-in-Err
returns-in-Err c = refused_handed _ _ _ _ _ _ _ _ _ _ _ _ refl c.in-Err.ensures c.refused.ensures refl refl refl
