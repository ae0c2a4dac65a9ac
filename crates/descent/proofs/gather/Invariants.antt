use Rattle.descent.proofs.Gathering.{Gathering}
use Rattle.descent.proofs.gather.Given as goal

abbrev pub invariant-loop-x : goal.invariant-loop-x
invariant-loop-x l =
    Gathering l.table l.mask l.base l.initial.low l.initial.high l.low l.high l.x

abbrev pub decreases-loop-x : goal.decreases-loop-x
decreases-loop-x l = l.x
