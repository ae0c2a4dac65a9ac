-- A call that refuses leaves the lists as they were and gives no count; 8 'short' just where a list is too short for what is accepted.
-- Assumes nothing.
use Rattle.counting.proofs.Prelude.{◌≡◌, refl, subst, ◌∙◌, ◌↔◌, true, List, length}
use Rattle.lists.proofs.Written.{untouched}
use Rattle.specification.specs.Checks.{Content}
use Rattle.specification.specs.Chart.{plan_of}
use Rattle.specification.specs.declared.VertexEntry.{VertexEntry}
use Rattle.specification.specs.declared.EdgeEntry.{EdgeEntry}
use Rattle.specification.specs.declared.BundleEntry.{BundleEntry}
use Rattle.specification.specs.Drawn.{Drawn, short?, Zeroed}
use Rattle.chart_plan.proofs.Nothing.{empty, nothing_zeroed}
use Rattle.chart_plan.proofs.Refusals.{Sound, lent_quiet, lent-eight}
use Rattle.specification.specs.declared.ChartCounts.{ChartCounts}
use Rattle.specification.specs.Lent.{Untouched}
use Rattle.chart_entries.specs.Promise.{Listed, HandedOver}

pub record Refused (vs : List VertexEntry) (es : List EdgeEntry) (bs : List BundleEntry) (r : ChartCounts) (vs' : List VertexEntry)
    (es' : List EdgeEntry) (bs' : List BundleEntry) : Type 0 where
  pub vertex_list : Untouched vs vs'
  pub edge_list : Untouched es es'
  pub bundle_list : Untouched bs bs'
  pub counts : Zeroed r

module _ (d : Drawn) (ok : Sound d) (vs vs' : List VertexEntry) (es es' : List EdgeEntry) (bs bs' : List BundleEntry) (r : ChartCounts)
    (h : HandedOver d vs es bs r vs' es' bs') where
  pub refused_untouched : (r.refusal ≡ 0 → ⊥) → Refused vs es bs r vs' es' bs'
  refused_untouched ne =
      let none = lent_quiet d ok (length vs) (length es) (length bs) (λ z. ne (h.refusal ∙ z)) in
      let l = subst (λ (c : Content). Listed c (plan_of c) vs es bs r vs' es' bs') none h.listed in
      record {
        vertex_list = untouched _ _ _ _ refl l.vertex_list;
        edge_list = untouched _ _ _ _ empty.edges l.edge_list;
        bundle_list = untouched _ _ _ _ empty.bundles l.bundle_list;
        counts = nothing_zeroed r l.summary;
      }

  pub eight : (r.refusal ≡ 8) ↔ ((d.refusal ≡ 0) × (short? (length vs) (length es) (length bs) d ≡ true))
  eight = rw h.refusal (lent-eight d ok (length vs) (length es) (length bs))
