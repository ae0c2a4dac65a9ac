-- What the call of a record promises. Assumes nothing.
use Rattle.std.specs.Prelude.{List, ℕ, ◌/◌, length}
use Rattle.specification.specs.Drawn.{record_drawn, lent}
use Rattle.specification.specs.declared.ChartCounts.{ChartCounts}
use Rattle.specification.specs.Numbers.{word_numbers, arrow_numbers, bundle_numbers}
use Rattle.chart_lists.specs.Chart.{Left}

-- the record's chart, or why it is refused (`record_drawn`): 8 where a list has room for fewer entries (`lent`)
abbrev pub HandedFlat : List ℕ → List ℕ → List ℕ → List ℕ → ChartCounts → List ℕ → List ℕ → List ℕ → Type 0
HandedFlat b ws es bs =
    Left (lent (length ws / word_numbers) (length es / arrow_numbers) (length bs / bundle_numbers) (record_drawn b)) ws es bs
