-- What a call accepts fits the lists, and what it leaves then is the chart of a sound graph. Assumes nothing.
use Rattle.counting.proofs.Prelude.{◌≡◌, sym, ap, ◌∙◌, subst, ◌↔◌, ⊎_elim, false, ◌||◌, ℕ, arith, ltb, length, get_or, get_or-eq_default}
use Rattle.counting.proofs.Prelude.{ltb-false}
use Rattle.counting.proofs.Truth.{lt-or-le, true_or_false, or_neither}
use Rattle.specification.specs.Checks.{Content, edges_of, Sound}
use Rattle.specification.specs.Chart.{plan_of, tracks_in}
use Rattle.specification.specs.Drawn.{Drawn, short?, lent, Summary}
use Rattle.chart_laws.proofs.Channels.{channels-few, vertices_small}
use Rattle.chart_laws.proofs.Bundling.{plan-channels, tracks_past}
use Rattle.chart_plan.proofs.Shortage.{enough, lent-short, lent-whole}
use Rattle.specification.specs.declared.ChartCounts.{ChartCounts}
use Rattle.demands.specs.Demands.{Entries, seen, Faithful, Roomy, Smallest, Carried}
use Rattle.demands.proofs.Agreeing.{Shown, Agrees, seen_agrees}
use Rattle.demands.proofs.Least.{agreed_smallest, agreed_counted}
use Rattle.demands.proofs.Showing.{shown_faithful}

-- ---- counts and entries of the chart of a sound graph

module _ (c : Content) (s : Sound c) (r : ChartCounts) (q : Summary c (plan_of c) r) (n : Entries) (shown : Shown c n) where
  agrees : Agrees c (seen c r n)
  agrees = seen_agrees c s r n shown q.lines q.bundles

  -- past the last line there is no side column
  tracks-all : (p : ℕ) → tracks_in (plan_of c) p ≡ get_or r.side_columns p 0
  tracks-all p = ⊎_elim
      (λ h. sym (q.side_columns p h))
      (λ h.
      tracks_past c s p (omega (arith, channels-few c s, vertices_small c s))
      ∙ sym (get_or-eq_default r.side_columns 0 (omega (arith, q.long))))
      (lt-or-le p 128)

  shown_smallest : Smallest c (seen c r n) × Carried c (seen c r n) r
  shown_smallest =
      let k = agreed_counted c s _ agrees in (
        agreed_smallest c s _ agrees,
        record {
          row_count = k.row_count ∙ sym q.rows;
          line_count = k.line_count ∙ sym (q.lines ∙ ap length (plan-channels c s));
          link-count = k.link-count ∙ sym q.firm;
          bundle_count = k.bundle_count ∙ sym q.bundles;
          side_counts = λ p. k.side_counts p ∙ tracks-all p;
        },
      )

-- ---- every call

-- what a call answers and leaves, of lists of v, e and b entries that are read as the entries n
pub record Handed (v e b : ℕ) (d : Drawn) (r : ChartCounts) (n : Entries) : Type 0 where
  pub refusal : r.refusal ≡ (lent v e b d).refusal
  pub summary : Summary (lent v e b d).graph (plan_of (lent v e b d).graph) r
  pub shown : Shown (lent v e b d).graph n

module _ (v e b : ℕ) (d : Drawn) where
  -- no list is short
  pub roomy : short? v e b d ≡ false → Roomy d.graph v e b
  unfolding short?
  roomy t =
      let x = or_neither (ltb v d.graph.vertices) (ltb e (edges_of d.graph) || ltb b (length (plan_of d.graph).bundles)) t in
      let y = or_neither (ltb e (edges_of d.graph)) (ltb b (length (plan_of d.graph).bundles)) x.1 in
      record { vertices = ltb-false _ _ x.0; edges = ltb-false _ _ y.0; bundles = ltb-false _ _ y.1 }

  pub roomy_enough : Roomy d.graph v e b → short? v e b d ≡ false
  roomy_enough m = enough v e b d m.vertices m.edges m.bundles

  module _ (r : ChartCounts) (n : Entries) (h : Handed v e b d r n) where
    -- where 0 is answered the graph is drawn whole
    whole : r.refusal ≡ 0 → short? v e b d ≡ false
    whole z = ⊎_elim
        (λ t. absurd (omega (arith, h.refusal, ap (λ (x : Drawn). x.refusal) (lent-short v e b d t))))
        (λ t. t)
        (true_or_false (short? v e b d))

    pub call_accepted : (r.refusal ≡ 0) ↔ ((d.refusal ≡ 0) × Roomy d.graph v e b)
    call_accepted = (
      (λ z. let t = whole z in (sym (ap (λ (x : Drawn). x.refusal) (lent-whole v e b d t)) ∙ sym h.refusal ∙ z, roomy t)),
      λ q. h.refusal ∙ ap (λ (x : Drawn). x.refusal) (lent-whole v e b d (roomy_enough q.1)) ∙ q.0,
    )

    -- .. and is what the lists get
    pub drawn-whole : r.refusal ≡ 0 → (lent v e b d).graph ≡ d.graph
    drawn-whole z = ap (λ (x : Drawn). x.graph) (lent-whole v e b d (whole z))

    module _ (z : r.refusal ≡ 0) (c : Content) (i : d.graph ≡ c) (s : Sound c) where
      whole_graph : (lent v e b d).graph ≡ c
      whole_graph = drawn-whole z ∙ i

      pub call_summary : Summary c (plan_of c) r
      call_summary = subst (λ (x : Content). Summary x (plan_of x) r) whole_graph h.summary

      call_shown : Shown c n
      call_shown = subst (λ (x : Content). Shown x n) whole_graph h.shown

      pub call_faithful : Faithful c n
      call_faithful = shown_faithful c s n call_shown

      pub call_smallest : Smallest c (seen c r n) × Carried c (seen c r n) r
      call_smallest = shown_smallest c s r call_summary n call_shown
