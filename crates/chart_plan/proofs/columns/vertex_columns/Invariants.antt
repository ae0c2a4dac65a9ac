use Rattle.counting.proofs.Prelude.{get_or}
use Rattle.counting.specs.Quads.{quad}
use Rattle.chart_plan.specs.Steps.{Tabled}
use Rattle.chart_plan.proofs.columns.vertex_columns.Given as goal

abbrev pub invariant-loop-v : goal.invariant-loop-v
invariant-loop-v l = Tabled l.initial.columns (λ x. get_or l.own (quad 0 l.places x) 0) l.v l.columns
