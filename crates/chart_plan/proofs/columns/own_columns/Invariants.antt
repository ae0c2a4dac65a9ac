use Rattle.counting.proofs.Prelude.{get_or}
use Rattle.specification.specs.Geometry.{even_gaps}
use Rattle.chart_plan.specs.Steps.{Owns}
use Rattle.chart_plan.proofs.columns.own_columns.Given as goal

abbrev pub invariant-loop-l : goal.invariant-loop-l
invariant-loop-l l = Owns (even_gaps (λ k. get_or l.tracks k 0)) l.l l.own l.start
