use Rattle.counting.proofs.Prelude.{eq-eqb, ne_eqb}
use Rattle.specification.specs.Checks.{unfloored?}
use Rattle.floors.specs.Steps.{too_high?}
use Rattle.floors.proofs.is_unfloored.Goals as goal

pub returns-then-floors-n : goal.returns-then-floors-n
unfolding unfloored?
returns-then-floors-n c = simp (ne_eqb _ _ c.if-floors-n.true)

pub returns-else-floors-n : goal.returns-else-floors-n
unfolding unfloored? too_high?
returns-else-floors-n c = simp (eq-eqb _ _ c.if-floors-n.false) c.is_too_high.ensures
