use Rattle.counting.proofs.Prelude.{ℕ, ◌+◌, ◌*◌}
use Rattle.specification.specs.Lent.{KeptFrom}
use Rattle.prefixes.specs.Steps.{Stage}
use Rattle.prefixes.proofs.join.Given as goal

abbrev pub invariant-loop-k : goal.invariant-loop-k
invariant-loop-k l =
    ((n : ℕ) (key : ℕ → ℕ) → Stage 2 n key l.top 0 l.initial.sets → Stage 2 n key l.top l.k l.sets)
    × KeptFrom (2 * l.top + 2) l.initial.sets l.sets
