use Rattle.descent.proofs.Skipping.{Second}
use Rattle.descent.proofs.with_second.Given as goal

abbrev pub invariant-loop-x : goal.invariant-loop-x
invariant-loop-x l = Second l.table l.mask l.initial.low l.initial.high l.low l.high l.x

abbrev pub decreases-loop-x : goal.decreases-loop-x
decreases-loop-x l = l.x
