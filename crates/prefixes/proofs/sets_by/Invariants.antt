use Rattle.counting.specs.Quads.{quad}
use Rattle.prefixes.proofs.Stages.{Putting}
use Rattle.prefixes.proofs.sets_by.Given as goal

abbrev pub invariant-loop-v : goal.invariant-loop-v
invariant-loop-v l = Putting (quad l.key l.places) l.last l.v l.initial.sets l.sets
