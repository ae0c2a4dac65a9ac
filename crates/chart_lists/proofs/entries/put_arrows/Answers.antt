use Rattle.counting.proofs.Prelude.{ap, ◌∙◌, ℕ, arith, length}
use native.Mathlib.Nat.{le_antisymm}
use Rattle.specification.specs.Pass.{State, as_numbers, after}
use Rattle.specification.specs.declared.EdgeEntry.{EdgeEntry}
use Rattle.lists.proofs.Marking.{after_none, after_more, after_long, after-few}
use Rattle.chart_lists.specs.Steps.Numbers.{given, arrow_from}
use Rattle.chart_lists.proofs.entries.put_arrows.Lts as lts
use Rattle.chart_lists.proofs.entries.put_arrows.Reads as reads
use Rattle.chart_lists.proofs.entries.put_arrows.Tie as tie
use Rattle.chart_lists.proofs.entries.put_arrows.Goals as goal

abbrev Start : Type 0
Start = lts.Start tie.the-claims reads.Pre reads.Post goal.the-invariant-loop-e goal.the-decreases-loop-e

-- the places that facts are read from
abbrev start_of : goal.After-put_arrow-arg-1 → Start
start_of c = c.before.before.before.before.before.before.before.before.before.before.before.before

abbrev start_of-2 : goal.After-slice_known-in-loop-e-1 → Start
start_of-2 c = c.before.before.before.before.before.before.before.before.before.before.before.before.before.before.before

abbrev start_of-3 : goal.After-loop-e → Start
start_of-3 c = c.before.before.before.before.before.before.before.before.before.before.before

-- the edges' entries
abbrev edges : Start → ℕ → EdgeEntry
edges c =
    let a = c.args in
    arrow_from (given a.ends.now a.longer.now a.places.now a.number.now a.columns.now a.below.now a.left.now)

pub loop-e-init : goal.loop-e-init
loop-e-init c = (omega arith, after_none _ _ _)

pub put_arrow-firm-requires : goal.put_arrow-firm-requires
put_arrow-firm-requires c =
    let g = edges (start_of c) in let was = c.args.out.now in let inv = c.loop-e.invariant.1 in (
      omega (arith, ap (λ (s : State ℕ). length s.list) inv, after_long as_numbers g was c.loop-e.e),
      omega (arith, ap (λ (s : State ℕ). s.reduced) inv, after-few as_numbers g was c.loop-e.e),
      c.requires.1 _ (omega arith),
    )

pub loop-e-preserved : goal.loop-e-preserved
loop-e-preserved c =
    (omega arith, after_more as_numbers (edges (start_of-2 c)) c.args.out.now _ _ _ c.loop-e.invariant.1 c.put_arrow-firm.ensures)

pub shape_of-out : goal.shape_of-out
shape_of-out c =
    ap (λ (s : State ℕ). length s.list) c.loop-e.invariant.1 ∙ after_long as_numbers (edges (start_of-3 c)) c.args.out.now c.loop-e.e

pub returns : goal.returns
returns c =
    c.loop-e.invariant.1
    ∙ ap (after as_numbers (edges (start_of-3 c)) c.args.out.now) (le_antisymm c.loop-e.invariant.0 (omega arith))
