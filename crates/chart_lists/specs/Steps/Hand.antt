-- What is planned of a graph, handed over, and the answer. Assumes nothing.
use Rattle.std.specs.Prelude.{◌≡◌, ◌≢◌, Bool, ◌||◌, List, ℕ, ◌*◌, ◌/◌, ◌≤◌, ◌<◌, Result, Ok, min, eqb, ltb, length, replicate, take}
use Rattle.specification.specs.Limits.{most_vertices}
use Rattle.specification.specs.Count.{choose}
use Rattle.counting.specs.Quads.{quad}
use Rattle.specification.specs.Drawn.{chart_refusal, graph_content, graph_drawn, lent}
use Rattle.chart_plan.specs.Laid.{lists, Laid}
use Rattle.chart_plan.specs.Laid.{Plan}
use Rattle.chart_plan.specs.declared.Plan as told
use Rattle.specification.specs.declared.Refusal.{Refusal}
use Rattle.specification.specs.Refusals.{number_in}
use Rattle.chart_plan.specs.Laid.{plan_told}
use Rattle.specification.specs.Numbers.{word_numbers, arrow_numbers, bundle_numbers}
use Rattle.prefixes.specs.Prefixes.{last_set, Prefixes}
use Rattle.specification.specs.Lent.{Untouched}
use Rattle.chart_lists.specs.Chart.{Counts, Left, whole, no_counts}

-- ---- a plan handed over

module _ (n : ℕ) (ends : List ℕ) (floored : Bool) (floors : List ℕ) (p : Plan) (below longer places spans number used column : List ℕ) where
  -- the lists are those of the plan of a graph with these ends and floors, with some others
  abbrev LaidOut : Bool → List ℕ → List ℕ → List ℕ → Type 0
  LaidOut given field edges table =
      p.refusal ≡ 0
      → Laid (graph_content n ends given field floored floors) p (lists edges below table longer places spans number used column)

  -- p is the answer on the graph with these ends, floors and given channels, and there is room for all side columns
  pub record Planned (given : Bool) (field : List ℕ) : Type 0 where
    pub edges : List ℕ
    pub table : List ℕ
    pub answer : p.refusal ≡ chart_refusal (graph_content n ends given field floored floors)
    pub laid : LaidOut given field edges table
    pub columns : most_vertices ≤ length used

  -- .. of some graph, and there is room for the sets left of its channels
  pub record Lends (left : ℕ) : Type 0 where
    pub given : Bool
    pub field : List ℕ
    pub edges : List ℕ
    pub table : List ℕ
    pub laid : LaidOut given field edges table
    pub left_room : p.refusal ≡ 0 → 2 * min n most_vertices ≤ left

  -- the promise, of every such graph; what is not planned is refused with its number
  pub record Hands (left ws es bs : List ℕ) (r : Counts) (left' ws' es' bs' used' : List ℕ) : Type 0 where
    pub drawn : (given : Bool) (field : List ℕ) → Planned given field
        → Left (lent (length ws / word_numbers) (length es / arrow_numbers) (length bs / bundle_numbers)
        (graph_drawn n ends given field floored floors)) ws es bs (whole r (take most_vertices used')) ws' es' bs'
    pub refused : p.refusal ≢ 0
        → (r ≡ no_counts p.refusal) × Untouched ws ws' × Untouched es es' × Untouched bs bs' × Untouched left left'
        × (used' ≡ replicate (length used) 0)

-- `left`, as long as `size`, is what `prefixes::by_channel` makes of the channels, where there are more than two
abbrev pub LeftFor : ℕ → ℕ → List ℕ → ℕ → List ℕ → Type 0
LeftFor n count places size left =
    2 < count → Prefixes 2 (min (min n most_vertices) (length places / 4)) (quad 0 places) (last_set count size) left

-- ---- the answer

-- why a chart of n vertices, m edges and b bundles is refused, or 0: as its graph is, or with 8 where there is room for fewer
unfoldable pub room_refusal : ℕ → ℕ → ℕ → ℕ → ℕ → ℕ → ℕ → ℕ
room_refusal refusal n m b words arrows bundles =
    choose (eqb refusal 0) (λ _. choose (ltb words n || (ltb arrows m || ltb bundles b)) (λ _. 8) (λ _. 0)) (λ _. refusal)

-- r is what is planned of n vertices and m edges, or why no chart is drawn of it
pub record Accepts (planned : Result told.Plan Refusal) (n m words arrows bundles : ℕ) (r : Result told.Plan Refusal) : Type 0 where
  pub refusal : number_in r ≡ room_refusal (plan_told planned).refusal n m (plan_told planned).bundles words arrows bundles
  pub same : (p : told.Plan) → r ≡ Ok p → planned ≡ Ok p
