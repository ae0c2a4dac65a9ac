-- What a chart drawn by lent work lists promises. Assumes nothing.
use Rattle.std.specs.Prelude.{◌≡◌, Bool, List, ℕ, ◌/◌, length, replicate, take}
use Rattle.specification.specs.Limits.{most_vertices}
use Rattle.specification.specs.Numbers.{word_numbers, arrow_numbers, bundle_numbers}
use Rattle.specification.specs.Drawn.{graph_drawn, lent}
use Rattle.specification.specs.Lent.{Untouched}
use Rattle.chart_plan.specs.Laid.{Lists, lists, Roomy, Long}
use Rattle.chart_lists.specs.Chart.{Counts, Left, whole, no_counts}

-- no side column
abbrev pub blank : Lists → Lists
blank t =
    lists t.edges t.below t.table t.longer t.places t.spans t.number (replicate (length t.used) 0) t.column

-- the chart of the graph, or why it is refused, in the three lists, and in the first 128 of the list of side columns; 8, and nothing
-- changed but that no side column is left, where a work list has no room. Where all have room the others are free, but for their lengths
pub record Draws (n : ℕ) (ends : List ℕ) (given : Bool) (field : List ℕ) (floored : Bool) (floors ws es bs : List ℕ) (t : Lists)
    (r : Counts) (ws' es' bs' : List ℕ) (s : Lists)
    : Type 0 where
  pub left : Roomy n floored t
      → Left (lent (length ws / word_numbers) (length es / arrow_numbers) (length bs / bundle_numbers)
      (graph_drawn n ends given field floored floors)) ws es bs (whole r (take most_vertices s.used)) ws' es' bs'
  pub short : (Roomy n floored t → ⊥)
      → (r ≡ no_counts 8) × Untouched ws ws' × Untouched es es' × Untouched bs bs' × Untouched (blank t) s
  pub long : Long t s
