-- The measure of the recursion, and of its loop: the number of unvisited vertices; and the invariant. Assumes nothing.
use Rattle.counting.proofs.Prelude.{false}
use Rattle.search.specs.Steps.Coded.{unvisited}
use Rattle.search.specs.Steps.Search.{state}
use Rattle.search.proofs.Going.{Going}
use Rattle.search.proofs.+augment.Given as goal

abbrev pub decreases-augment : goal.decreases-augment
decreases-augment l = unvisited l.n (state l.predecessor.now l.visited.now false)

abbrev pub invariant-loop-v : goal.invariant-loop-v
invariant-loop-v l = Going l.table l.n l.h l.initial.predecessor l.initial.visited l.predecessor l.visited

abbrev pub decreases-loop-v : goal.decreases-loop-v
decreases-loop-v l = unvisited l.n (state l.predecessor l.visited false)
