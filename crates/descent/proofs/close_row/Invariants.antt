use Rattle.descent.proofs.Rowing.{Closing}
use Rattle.descent.proofs.close_row.Given as goal

abbrev pub invariant-loop-x : goal.invariant-loop-x
invariant-loop-x l =
    Closing l.edges l.mask l.base l.initial.table l.initial.longer l.initial.places l.table l.longer l.places l.x

abbrev pub decreases-loop-x : goal.decreases-loop-x
decreases-loop-x l = l.x
