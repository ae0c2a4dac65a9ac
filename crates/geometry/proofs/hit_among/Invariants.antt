use Rattle.geometry.specs.Segment.{point_of}
use Rattle.masks.proofs.Visiting.{Visited}
use Rattle.geometry.proofs.Among.{Missed}
use Rattle.geometry.proofs.hit_among.Given as goal

abbrev pub invariant-loop-x : goal.invariant-loop-x
invariant-loop-x l = Visited l.mask l.x (Missed l.mask l.base (point_of l.columns l.places) l.n l.tail l.head)

abbrev pub decreases-loop-x : goal.decreases-loop-x
decreases-loop-x l = l.x
