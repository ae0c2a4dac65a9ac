use Rattle.floors.proofs.Members.{Lifting}
use Rattle.floors.proofs.lift_members.Given as goal

abbrev pub invariant-loop-x : goal.invariant-loop-x
invariant-loop-x l = Lifting l.mask l.base l.r l.initial.places l.places l.x

abbrev pub decreases-loop-x : goal.decreases-loop-x
decreases-loop-x l = l.x
