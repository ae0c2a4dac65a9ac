use Rattle.counting.proofs.Prelude.{◌≡◌, ℕ, ◌<◌, ◌+◌}
use Rattle.specification.specs.Sets.{bit}
use Rattle.masks.proofs.Visiting.{Visited}
use Rattle.floors.specs.Steps.{Slope, Rising, Stands}
use Rattle.floors.proofs.Pushing.{Pushing}
use Rattle.floors.proofs.push_members.Given as goal

abbrev pub invariant-loop-x : goal.invariant-loop-x
invariant-loop-x l =
    Visited l.mask l.x (λ j. Unit {0})
    × ((n : ℕ) (floor : ℕ → ℕ) → Slope l.edges n floor → Rising l.edges n floor l.initial.places
    → ((j : ℕ) → j < 64 → bit l.mask j ≡ 1 → Stands l.edges n floor l.initial.places (l.base + j))
    → Pushing l.edges n floor l.mask l.base l.initial.places l.places l.x)

abbrev pub decreases-loop-x : goal.decreases-loop-x
decreases-loop-x l = l.x
