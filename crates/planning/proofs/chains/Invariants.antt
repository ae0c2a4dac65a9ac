use Rattle.specification.specs.Sets.{member?}
use Rattle.planning.proofs.Following.{Begun}
use Rattle.planning.proofs.chains.Given as goal

abbrev pub invariant-loop-v : goal.invariant-loop-v
invariant-loop-v l =
    Begun (member? l.held 0) l.n l.first l.predecessor l.initial.places l.v l.count l.places
