-- The pass over the edges of what a call draws, by the list that its promise gives. Assumes nothing.
use Rattle.counting.proofs.Prelude.{◌≡◌, sym, ap, subst, List, ℕ, ◌*◌, ◌/◌, ◌≤◌, arith, length}
use native.Mathlib.Nat.{mul-one, div-one, mul-le-mul_right}
use Rattle.specification.specs.Checks.{Content, edges_of}
use Rattle.specification.specs.Chart.{plan_of, edge_entry}
use Rattle.specification.specs.Drawn.{Drawn, lent}
use Rattle.specification.specs.Lent.{Filled}
use Rattle.specification.specs.Pass.{Form, as_numbers, as_entries}
use Rattle.specification.specs.declared.EdgeEntry.{EdgeEntry}
use Rattle.specification.specs.declared.VertexEntry.{VertexEntry}
use Rattle.specification.specs.declared.BundleEntry.{BundleEntry}
use Rattle.specification.specs.declared.ChartCounts.{ChartCounts}
use Rattle.lists.specs.Marking.{Marking}
use Rattle.lists.proofs.Entered.{values}
use Rattle.lists.proofs.Written.{refilled}
use Rattle.lists.proofs.Marking.{Legible, numbers_legible, entries_legible, marking, filled-ends}
use Rattle.chart_entries.specs.Promise.{HandedOver}
use Rattle.chart_lists.specs.Chart.{Left}
use Rattle.demands.specs.Demands.{Entries, entries_in}
use Rattle.demands.specs.Numbers.{entries_from}
use Rattle.demands.proofs.Accepting.{Handed, call_accepted, drawn-whole}
use Rattle.demands.proofs.Handing.{handed-lists, handed-numbers}

-- where 0 is answered, of any form: the list has room for all edges, and what it holds then is the state after the last
module _ {E : Type 0} (f : Form E) (legible : Legible f) (v e b : ℕ) (d : Drawn) (r : ChartCounts) (n : Entries) (h : Handed v e b d r n)
    (es es' : List E) where
  abbrev g : Content
  g = (lent v e b d).graph

  drawn_marking : e * f.width ≤ length es
      → Filled es (values f.width (λ i. f.value (edge_entry g (plan_of g) i))) (edges_of g * f.width) es'
      → r.refusal ≡ 0 → Marking f g (plan_of g) es es' r.firm
  drawn_marking long list z =
      let within : edges_of g ≤ e =
      omega (arith, ap edges_of (drawn-whole v e b d r n h z), ((call_accepted v e b d r n h).0 z).1.edges) in
      let room : edges_of g * f.width ≤ length es = omega (arith, mul-le-mul_right f.width within) in
      marking f legible g (plan_of g) es room es' r.firm
      (filled-ends f legible g (plan_of g) es room es' r.firm list h.summary.firm)

-- ---- the two forms

pub numbers_marking : (d : Drawn) (ws ws' es es' bs bs' : List ℕ) (r : ChartCounts) (c : Content)
    → Left (lent (length ws / 6) (length es / 5) (length bs / 4) d) ws es bs r ws' es' bs'
    → r.refusal ≡ 0 → (lent (length ws / 6) (length es / 5) (length bs / 4) d).graph ≡ c
    → Marking as_numbers c (plan_of c) es es' r.firm
numbers_marking d ws ws' es es' bs bs' r c h z i =
    subst (λ (x : Content). Marking as_numbers x (plan_of x) es es' r.firm) i
    (drawn_marking as_numbers numbers_legible (length ws / 6) (length es / 5) (length bs / 4) d r (entries_from ws' es' bs')
    (handed-numbers d ws ws' es es' bs bs' r h) es es' (omega arith) h.numbered.arrow_list z)

pub entries_marking : (d : Drawn) (vs vs' : List VertexEntry) (es es' : List EdgeEntry) (bs bs' : List BundleEntry) (r : ChartCounts)
    (c : Content) → HandedOver d vs es bs r vs' es' bs' → r.refusal ≡ 0 → (lent (length vs) (length es) (length bs) d).graph ≡ c
    → Marking as_entries c (plan_of c) es es' r.firm
entries_marking d vs vs' es es' bs bs' r c h z i =
    subst (λ (x : Content). Marking as_entries x (plan_of x) es es' r.firm) i
    (drawn_marking as_entries entries_legible (length vs) (length es) (length bs) d r (entries_in vs' es' bs')
    (handed-lists d vs vs' es es' bs bs' r h) es es' (omega arith)
    (refilled _ _ _ _ _ _ (sym (mul-one _)) (λ k l. ap (edge_entry _ _) (sym (div-one k))) h.listed.edge_list) z)
