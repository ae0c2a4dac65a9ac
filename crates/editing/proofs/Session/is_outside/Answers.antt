use Rattle.counting.proofs.Prelude.{rules}
use Rattle.editing.specs.Promise.{outside?}
use Rattle.editing.proofs.Session.is_outside.Goals as goal

pub returns-then-n-tail : goal.returns-then-n-tail
unfolding outside?
returns-then-n-tail c = search rules

pub returns-else-n-tail : goal.returns-else-n-tail
unfolding outside?
returns-else-n-tail c = search rules
