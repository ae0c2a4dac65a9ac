use Rattle.counting.proofs.Prelude.{◌-◌, ◌≤◌}
use Rattle.specification.specs.Lent.{Filled}
use Rattle.specification.specs.Numbers.{bundles}
use Rattle.chart_lists.specs.Steps.Numbers.{bundle_from}
use Rattle.chart_lists.proofs.entries.put_bundles.Given as goal

abbrev pub invariant-loop-i : goal.invariant-loop-i
invariant-loop-i l = (l.i ≤ l.i-end) × Filled l.initial.out (bundles (bundle_from l.spans)) l.i l.out

abbrev pub decreases-loop-i : goal.decreases-loop-i
decreases-loop-i l = l.i-end - l.i
