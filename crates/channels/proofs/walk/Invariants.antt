use Rattle.specification.specs.Refusals.{number_in}
use Rattle.reach.specs.Closure.{connection_by}
use Rattle.planning.specs.Arranged.{Kept}
use Rattle.channels.proofs.Walking.{Walking}
use Rattle.channels.proofs.Tabling.{Tabling}
use Rattle.channels.proofs.walk.Given as goal

abbrev pub invariant-loop-byte : goal.invariant-loop-byte
invariant-loop-byte l =
    Walking (connection_by 2 l.edges l.longer) l.n l.field l.byte-index l.left l.last l.seen l.vertices (number_in l.found)
    × Tabling l.n l.field l.byte-index l.left l.p l.vertices l.count l.places × Kept l.n l.initial.places l.places
