use Rattle.descent.proofs.Ranking.{Descended}
use Rattle.descent.proofs.close.Given as goal

abbrev pub invariant-loop-r : goal.invariant-loop-r
invariant-loop-r l = Descended l.edges l.n l.r l.initial.table l.initial.longer l.initial.places l.table l.longer l.places
