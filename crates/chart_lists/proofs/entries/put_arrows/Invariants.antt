use Rattle.counting.proofs.Prelude.{◌≡◌, ◌-◌, ◌/◌, ◌≤◌, length}
use Rattle.specification.specs.Pass.{as_numbers, state, after}
use Rattle.chart_lists.specs.Steps.Numbers.{given, arrow_from}
use Rattle.chart_lists.proofs.entries.put_arrows.Given as goal

abbrev pub invariant-loop-e : goal.invariant-loop-e
invariant-loop-e l =
    (l.e ≤ length l.ends / 2)
    × (state l.out l.firm ≡ after as_numbers (arrow_from (given l.ends l.longer l.places l.number l.columns l.below l.left))
    l.initial.out l.e)

abbrev pub decreases-loop-e : goal.decreases-loop-e
decreases-loop-e l = length l.ends / 2 - l.e
