use Rattle.counting.proofs.Prelude.{ap, arith}
use Rattle.fields.specs.Parts.{start_of, size_of}
use Rattle.fields.proofs.Standing.{spans_laid, spans_held}
use Rattle.fields.proofs.graph_of.Goals as goal

pub part-requires : goal.part-requires
part-requires c = (spans_held _ _ c.in-Some.ensures.laid c.in-Some.ensures.paired).edges

-- whichever part it is, it lies within the record
pub map-requires : goal.map-requires
map-requires c =
    let h = spans_laid _ _ c.in-Some.ensures.laid in
    λ s e _ _ _ _ _ _. omega (arith, h.lines, h.floors, ap start_of e, ap size_of e)

pub map-requires-2 : goal.map-requires-2
map-requires-2 c =
    let h = spans_laid _ _ c.in-Some.ensures.laid in
    λ s e _ _ _ _ _ _. omega (arith, h.lines, h.floors, ap start_of e, ap size_of e)
