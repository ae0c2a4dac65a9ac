use Rattle.counting.proofs.Prelude.{◌≡◌, ◌-◌, ◌≤◌}
use Rattle.specification.specs.Numbers.{word_number}
use Rattle.chart_lists.specs.Steps.Numbers.{word_from}
use Rattle.specification.specs.Parts.{present?, bytes_of}
use Rattle.lists.proofs.Entered.{entered}
use Rattle.chart_lists.proofs.entries.put_words.Given as goal

abbrev pub invariant-loop-v : goal.invariant-loop-v
invariant-loop-v l =
    (l.v ≤ l.n)
    × (l.out ≡ entered 6 (λ w. word_number (word_from l.places l.column (present? l.floors) (bytes_of l.floors) w)) l.initial.out l.v)

abbrev pub decreases-loop-v : goal.decreases-loop-v
decreases-loop-v l = l.n - l.v
