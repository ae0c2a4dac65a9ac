use Rattle.planning.proofs.Clearing.{Clearing}
use Rattle.planning.proofs.without.Given as goal

abbrev pub invariant-loop-u : goal.invariant-loop-u
invariant-loop-u l = Clearing l.table l.held l.u l.left
