-- What the whole promises, from what is planned and handed over. Assumes nothing.
use Rattle.counting.proofs.Prelude.{ap, ap₂, ◌∙◌, Bool, List, ℕ, arith}
use Rattle.chart_plan.specs.Laid.{Lists, lists, Long, Plans}
use Rattle.chart_plan.specs.Laid.{Plan}
use Rattle.chart_lists.specs.Chart.{Counts, no_counts}
use Rattle.chart_lists.specs.Promise.{blank, Draws}
use Rattle.chart_lists.specs.Steps.Hand.{Hands}

-- s are the lists after the plan, and of these the hand-over changes two
pub draws_handed : (n : ℕ) (ends : List ℕ) (given : Bool) (field : List ℕ) (floored : Bool) (floors ws es bs : List ℕ) (t : Lists)
    (p : Plan) (s : Lists) → Plans n ends given field floored floors t p s → (r : Counts) (left ws' es' bs' used : List ℕ)
    → Hands n ends floored floors p s.below s.longer s.places s.spans s.number s.used s.column s.table ws es bs r
    left ws' es' bs' used
    → Long t (lists s.edges s.below left s.longer s.places s.spans s.number used s.column)
    → Draws n ends given field floored floors ws es bs t r ws' es' bs'
    (lists s.edges s.below left s.longer s.places s.spans s.number used s.column)
draws_handed n ends given field floored floors ws es bs t p s g r left ws' es' bs' used h long = record {
  left = λ roomy.
      h.drawn given field
      (record {
        edges = s.edges;
        table = s.table;
        answer = g.answer roomy;
        laid = g.laid;
        columns = omega (arith, roomy.used, g.long.used);
      });
  short = λ lacks.
      let z = g.short lacks in
      let f = h.refused (λ e. omega (arith, e, z.0)) in
      (f.0 ∙ ap no_counts z.0, f.1, f.2, f.3, ap₂ with_two f.4 f.5 ∙ ap blank z.1);
  long = long;
}
  where
    with_two : List ℕ → List ℕ → Lists
    with_two x y = lists s.edges s.below x s.longer s.places s.spans s.number y s.column
