use Rattle.counting.proofs.Prelude.{◌≡◌, true}
use Rattle.specification.specs.Count.{above}
use Rattle.counting.specs.Quads.{quad}
use Rattle.floors.proofs.rows_used.Given as goal

abbrev pub invariant-loop-v : goal.invariant-loop-v
invariant-loop-v l = l.used ≡ above l.v (λ x. true) (quad 2 l.places)
