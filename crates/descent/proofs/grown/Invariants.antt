use Rattle.counting.proofs.Prelude.{◌+◌, ◌*◌}
use Rattle.descent.specs.Steps.Members.{Below}
use Rattle.specification.specs.Lent.{KeptFrom}
use Rattle.descent.proofs.Rounding.{Round}
use Rattle.descent.proofs.grown.Given as goal

abbrev pub invariant-loop-r : goal.invariant-loop-r
invariant-loop-r l =
    Below l.n l.all.low l.all.high
    × Round l.edges l.n l.r l.left.low l.left.high l.initial.places l.places l.below × KeptFrom (2 * l.r + 2) l.initial.below l.below
