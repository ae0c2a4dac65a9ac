use Rattle.specification.specs.Sets.{United}
use Rattle.masks.proofs.unite.Given as goal

abbrev pub invariant-loop-i : goal.invariant-loop-i
invariant-loop-i l = United l.initial.masks l.first l.other l.i l.masks
