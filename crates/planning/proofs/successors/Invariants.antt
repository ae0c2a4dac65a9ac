use Rattle.planning.proofs.Following.{Seeking}
use Rattle.planning.proofs.successors.Given as goal

abbrev pub invariant-loop-v : goal.invariant-loop-v
invariant-loop-v l = Seeking l.n l.predecessor l.v l.successor
