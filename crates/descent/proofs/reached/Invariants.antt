use Rattle.descent.proofs.Skipping.{First}
use Rattle.descent.proofs.reached.Given as goal

abbrev pub invariant-loop-x : goal.invariant-loop-x
invariant-loop-x l = First l.table l.set.low l.set.high l.low l.high l.x

abbrev pub decreases-loop-x : goal.decreases-loop-x
decreases-loop-x l = l.x
