use Rattle.counting.proofs.Prelude.{arith}
use Rattle.std.proofs.lemmas.Grind.{common_steps}
use Rattle.chart_plan.specs.Steps.{roomy?}
use Rattle.chart_plan.proofs.is_roomy.Goals as goal

pub returns-then-used-ge-MOST : goal.returns-then-used-ge-MOST
unfolding roomy?
returns-then-used-ge-MOST c = grind (arith, common_steps)

pub returns-else-used-ge-MOST : goal.returns-else-used-ge-MOST
unfolding roomy?
returns-else-used-ge-MOST c = grind (arith, common_steps)
