use Rattle.floors.specs.Steps.{Set}
use Rattle.floors.proofs.set_floors.Given as goal

abbrev pub invariant-loop-v : goal.invariant-loop-v
invariant-loop-v l = Set l.v l.floors l.initial.places l.places
