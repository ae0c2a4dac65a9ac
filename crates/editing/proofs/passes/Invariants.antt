use Rattle.counting.proofs.Prelude.{◌≤◌}
use Rattle.masks.proofs.Visiting.{Visited}
use Rattle.editing.proofs.Detours.{Lacks}
use Rattle.editing.proofs.passes.Given as goal

abbrev pub invariant-loop-x : goal.invariant-loop-x
invariant-loop-x l = (l.base ≤ 64) × Visited l.mask l.x (Lacks 2 l.reach l.base l.v)

abbrev pub decreases-loop-x : goal.decreases-loop-x
decreases-loop-x l = l.x
