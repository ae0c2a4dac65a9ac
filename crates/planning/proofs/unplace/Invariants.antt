use Rattle.counting.proofs.Prelude.{[]}
use Rattle.planning.specs.Arranged.{Arranged, Kept}
use Rattle.planning.proofs.unplace.Given as goal

abbrev pub invariant-loop-v : goal.invariant-loop-v
invariant-loop-v l = Arranged l.v [] 0 l.places × Kept l.v l.initial.places l.places
