use Rattle.record.proofs.Checking.{given_laid, planned_laid}
use Rattle.record.proofs.checks.laid.Goals as goal

pub returns-in-Some : goal.returns-in-Some
returns-in-Some c = given_laid _ _ _ _ _ _ _ _ _ c.in-Some.is c.given.ensures

pub returns-in-None : goal.returns-in-None
returns-in-None c = planned_laid _ _ _ _ _ _ _ _ c.in-None.is c.plan.ensures
