-- The next edge is one step of the pass (`entry_more`). Assumes nothing.
use Rattle.std.proofs.Common.{◌≡◌, ◌≤◌, ◌∙◌, refl, ap, arith, Bool, true, false, not, ℕ, ◌+◌}
use mir.Val.{bool_byte}
use Rattle.specification.specs.Count.{indicator}
use Rattle.specification.specs.declared.EdgeEntry.{EdgeEntry}
use Rattle.specification.specs.Pass.{State, as_entries}
use Rattle.chart_entries.specs.Steps.Sheet.{sheet_told}
use Rattle.chart_entries.specs.Steps.Entries.{edge_at}
use Rattle.lists.proofs.Marking.{after_none, entry_more, after-few}
use Rattle.chart_entries.proofs.fill_edges.Goals as goal

-- a flag as a number
flag : (b : Bool) → bool_byte b ≡ indicator b
flag true = refl
flag false = refl

flag-low : (b : Bool) → bool_byte b ≤ 1
flag-low true = omega arith
flag-low false = omega arith

pub loop-i-init : goal.loop-i-init
loop-i-init c = (after_none as_entries _ _, omega arith)

-- the count is within the edges that were passed
pub overflow_add-firm : goal.overflow_add-firm
overflow_add-firm c =
    let few = after-few as_entries (edge_at (sheet_told c.args.d.now) c.args.ends.now) c.args.out.now c.loop-i.i in
    let so_far = ap (λ (s : State EdgeEntry). s.reduced) c.loop-i.invariant.0 in
    let one = flag-low (not c.edge_at-entry.result.transitive) in
    record { fits = omega (arith, few, so_far, one, c.from-one.ensures) }

pub loop-i-preserved : goal.loop-i-preserved
loop-i-preserved c = (
  entry_more _ _ _ _ _ _ _ c.edge_at-entry.ensures
      (ap (λ (x : ℕ). c.loop-i.firm + x) (c.from-one.ensures ∙ flag (not c.edge_at-entry.result.transitive))) c.loop-i.invariant.0,
  omega arith,
)
