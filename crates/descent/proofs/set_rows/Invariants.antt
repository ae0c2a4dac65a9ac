use Rattle.descent.proofs.Rowing.{Writing}
use Rattle.descent.proofs.set_rows.Given as goal

abbrev pub invariant-loop-x : goal.invariant-loop-x
invariant-loop-x l = Writing l.mask l.base l.r l.initial.places l.places l.x

abbrev pub decreases-loop-x : goal.decreases-loop-x
decreases-loop-x l = l.x
