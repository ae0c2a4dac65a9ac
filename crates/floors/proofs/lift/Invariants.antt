use Rattle.counting.proofs.Prelude.{◌≡◌, ℕ, ◌<◌}
use Rattle.counting.specs.Quads.{quad}
use Rattle.floors.specs.Steps.{Slope}
use Rattle.floors.proofs.Rising.{Climbing}
use Rattle.floors.proofs.lift.Given as goal

abbrev pub invariant-loop-r : goal.invariant-loop-r
invariant-loop-r l =
    (floor : ℕ → ℕ) → Slope l.edges l.n floor → ((v : ℕ) → v < l.n → quad 2 l.initial.places v ≡ floor v)
    → Climbing l.edges l.n floor l.r l.initial.places l.places
