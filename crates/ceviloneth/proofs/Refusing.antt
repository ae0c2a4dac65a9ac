-- What a caller knows of a refused chart: every list is as it was, and every count is 0. Assumes nothing.
use Rattle.counting.proofs.Prelude.{◌≡◌, refl, subst, ◌∙◌, List, ℕ, ◌/◌, arith, length}
use Rattle.lists.proofs.Written.{untouched}
use Rattle.specification.specs.Checks.{Content}
use Rattle.specification.specs.Chart.{plan_of}
use Rattle.specification.specs.Drawn.{Drawn, lent, Zeroed}
use Rattle.chart_plan.proofs.Nothing.{empty, nothing_zeroed}
use Rattle.chart_plan.proofs.Refusals.{Sound, lent_quiet}
use Rattle.specification.specs.declared.ChartCounts.{ChartCounts}
use Rattle.specification.specs.Lent.{Untouched}
use Rattle.chart_lists.specs.Chart.{Numbered, Left}

pub record Refused (ws es bs : List ℕ) (r : ChartCounts) (ws' es' bs' : List ℕ) : Type 0 where
  pub word_list : Untouched ws ws'
  pub arrow_list : Untouched es es'
  pub bundle_list : Untouched bs bs'
  pub counts : Zeroed r

module _ (d : Drawn) (ok : Sound d) where
  pub refused_untouched : (ws ws' es es' bs bs' : List ℕ) (r : ChartCounts)
      → Left (lent (length ws / 6) (length es / 5) (length bs / 4) d) ws es bs r ws' es' bs' → (r.refusal ≡ 0 → ⊥)
      → Refused ws es bs r ws' es' bs'
  refused_untouched ws ws' es es' bs bs' r h ne =
      let none = lent_quiet d ok (length ws / 6) (length es / 5) (length bs / 4) (λ z. ne (h.refusal ∙ z)) in
      let l = subst (λ (c : Content). Numbered c (plan_of c) ws es bs r ws' es' bs') none h.numbered in
      record {
        word_list = untouched _ _ _ _ refl l.word_list;
        arrow_list = untouched _ _ _ _ (omega (arith, empty.edges)) l.arrow_list;
        bundle_list = untouched _ _ _ _ (omega (arith, empty.bundles)) l.bundle_list;
        counts = nothing_zeroed r l.summary;
      }
