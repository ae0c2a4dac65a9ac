use Rattle.std.proofs.Common.{◌-◌, ◌≤◌}
use Rattle.chart_entries.specs.Steps.Sheet.{sheet_told}
use Rattle.chart_entries.specs.Steps.Entries.{vertex_at}
use Rattle.specification.specs.Lent.{Filled}
use Rattle.chart_entries.proofs.fill_vertices.Given as goal

-- the entries before i are written
abbrev pub invariant-loop-i : goal.invariant-loop-i
invariant-loop-i l = Filled l.initial.out (vertex_at (sheet_told l.d) l.floors) l.i l.out × (l.i ≤ l.top)

abbrev pub decreases-loop-i : goal.decreases-loop-i
decreases-loop-i l = l.top - l.i
