use Rattle.std.proofs.Common.{◌≡◌, ◌-◌, ◌≤◌}
use Rattle.specification.specs.Pass.{as_entries, state, after}
use Rattle.chart_entries.specs.Steps.Sheet.{sheet_told}
use Rattle.chart_entries.specs.Steps.Entries.{edge_at}
use Rattle.chart_entries.proofs.fill_edges.Given as goal

-- the pass stands after the first i edges
abbrev pub invariant-loop-i : goal.invariant-loop-i
invariant-loop-i l = (state l.out l.firm ≡ after as_entries (edge_at (sheet_told l.d) l.ends) l.initial.out l.i) × (l.i ≤ l.top)

abbrev pub decreases-loop-i : goal.decreases-loop-i
decreases-loop-i l = l.top - l.i
