use Rattle.counting.proofs.Prelude.{ap, ◌∙◌}
use Rattle.specification.specs.Sets.{at, has?}
use Rattle.specification.specs.Connection.{leading?}
use Rattle.specification.specs.declared.Connection.{Connection}
use Rattle.channels.proofs.follows.Goals as goal

-- `channels::follows` meets its contract. Assumes nothing.
pub returns-in-Some : goal.returns-in-Some
unfolding has? at
returns-in-Some c = rw c.in-Some.is (c.is_leading.ensures ∙ ap (λ (x : Connection). leading? x) c.between.ensures)
