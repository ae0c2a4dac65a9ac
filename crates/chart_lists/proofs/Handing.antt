-- What a plan that is accepted is handed over by. Assumes nothing.
use Rattle.counting.proofs.Prelude.{◌≡◌, Bool, List, ℕ, ◌*◌, ◌/◌, ◌≤◌, ◌<◌, arith, length, take}
use Rattle.std.specs.Prelude.{Result, Ok}
use Rattle.specification.specs.Drawn.{graph_content}
use Rattle.chart_plan.specs.declared.Plan as told
use Rattle.specification.specs.declared.Refusal.{Refusal}
use Rattle.chart_plan.specs.Laid.{plan_told}
use Rattle.chart_plan.specs.Laid.{lists, Laid}
use Rattle.chart_lists.specs.Steps.Hand.{Lends, Accepts, room_refusal}
use Rattle.chart_lists.specs.Steps.Numbers.{given, Ready}
use Rattle.chart_lists.proofs.Charted.{words_fit, bundles_fit, ready}
use Rattle.chart_lists.proofs.Leaving.{told-whole}

module _ (planned r : Result told.Plan Refusal) (n m words arrows bundles : ℕ) (h : Accepts planned n m words arrows bundles r)
    (plan : told.Plan) (is : r ≡ Ok plan) where
  pub told_room : 0 ≡ room_refusal 0 n m plan.bundles words arrows bundles
  told_room = rw (h.same plan is) at (rw is at h.refusal)

  pub roomy : (n ≤ words) × (m ≤ arrows) × (plan.bundles ≤ bundles)
  roomy =
      let w = told-whole 0 n m plan.bundles words arrows bundles 0 told_room (omega arith) in
      (w.1, w.2, w.3)

module _ (n : ℕ) (ends : List ℕ) (floored : Bool) (floors : List ℕ) (planned r : Result told.Plan Refusal)
    (below longer places spans number used column : List ℕ) (left words arrows bundles : ℕ)
    (q : Lends n ends floored floors (plan_told planned) below longer places spans number used column left)
    (h : Accepts planned n (length ends / 2) words arrows bundles r) (plan : told.Plan) (is : r ≡ Ok plan) where
  laid : Laid (graph_content n ends q.given q.field floored floors) (plan_told (Ok plan))
      (lists q.edges below q.table longer places spans number used column)
  laid = (rw (h.same plan is) at q.laid) (omega arith)

  pub words_ready : (n ≤ words) × (n ≤ 128) × (4 * n ≤ length places) × (n ≤ length column)
  words_ready =
      let f = words_fit _ _ _ _ _ _ _ _ laid in
      ((roomy planned r n (length ends / 2) words arrows bundles h plan is).0, f.0, f.1, f.2)

  pub arrows_ready : (made : List ℕ) → (length ends / 2 ≤ arrows)
      × ((e : ℕ) → e < length ends / 2 → Ready (given ends longer places number (take n column) below made) e)
  arrows_ready made =
      ((roomy planned r n (length ends / 2) words arrows bundles h plan is).1, ready _ _ _ _ _ _ _ _ laid made)

  pub bundles_ready : (plan.bundles ≤ bundles) × (plan.bundles ≤ 256) × (plan.bundles * 4 ≤ length spans)
  bundles_ready =
      let f = bundles_fit _ _ _ _ _ _ _ _ laid in
      ((roomy planned r n (length ends / 2) words arrows bundles h plan is).2, f.0, f.1)
