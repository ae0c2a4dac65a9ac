use Rattle.counting.proofs.Prelude.{ℕ}
use Rattle.descent.proofs.Gathering.{Gathering}
use Rattle.descent.proofs.gather_first.Given as goal

abbrev pub invariant-loop-x : goal.invariant-loop-x
invariant-loop-x l = (high : ℕ) × Gathering l.table l.mask 0 0 0 l.low high l.x

abbrev pub decreases-loop-x : goal.decreases-loop-x
decreases-loop-x l = l.x
