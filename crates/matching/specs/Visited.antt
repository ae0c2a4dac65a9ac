-- The vertices that a search has visited, and those that it has left. Assumes nothing.
use Rattle.std.specs.Prelude.{Bool, not, ℕ}
use Rattle.specification.specs.Count.{count}
use Rattle.specification.specs.Channels.{has}
use Rattle.specification.specs.Planning.{State}

abbrev pub seen : ℕ → State → Bool
seen v s = has v s.visited

-- how many of the first n vertices are not visited
unfoldable pub unvisited : ℕ → State → ℕ
unvisited n s = count n (λ v. not (seen v s))
