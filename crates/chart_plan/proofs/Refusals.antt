-- What is known of a refusal: one of 1 to 7, 11 or 12 and nothing, or 8 'short' just where a list is too short for what is accepted.
-- Assumes nothing.
use Rattle.counting.proofs.Prelude.{◌≡◌, refl, sym, ap, ◌∙◌, ◌≢◌, ◌↔◌, ⊎_elim, Bool, true, false, List, ℕ, ◌<◌, arith, eqb, length}
use Rattle.counting.proofs.Prelude.{eqb-true, eqb-false, ne_eqb}
use Rattle.specification.specs.Count.{choose}
use Rattle.specification.specs.Checks.{Content, edges_of, size?, floor?, stranger?, double?, ring?, repeated?, unled?, loose_checks}
use Rattle.specification.specs.Checks.{later_checks, first_of, nothing, content_of, refusal_in}
use Rattle.specification.specs.Layout.{layout_of}
use Rattle.specification.specs.Layout.{Layout}
use Rattle.specification.specs.Layout.{Good, Bad}
use Rattle.specification.specs.Chart.{plan_of}
use Rattle.specification.specs.Drawn.{broad?, chart_checks, chart_refusal, Drawn, judged, graph_content, record_drawn, graph_drawn, short?}
use Rattle.specification.specs.Drawn.{lent}
use Rattle.chart_plan.proofs.Nothing.{empty}
use Rattle.chart_plan.proofs.Shortage.{lacking, lent-short, lent-whole}

-- ---- what is drawn of a graph or a record: one of 1 to 7, 11 or 12 and nothing, or 0

pub record Sound (d : Drawn) : Type 0 where
  pub quiet : (d.refusal ≡ 0 → ⊥) → d.graph ≡ nothing
  pub unshort : d.refusal ≢ 8

either : (t : Bool) (a b : ℕ) → a ≢ 8 → b ≢ 8 → choose t (λ _. a) (λ _. b) ≢ 8
either true a b h k = h
either false a b h k = k

pub chart_unshort : (c : Content) → chart_refusal c ≢ 8
unfolding chart_refusal loose_checks later_checks chart_checks first_of
chart_unshort c =
    either (size? c) 2 _ (λ e. omega arith) (
    either (floor? c) 12 _ (λ e. omega arith) (
    either (stranger? c) 3 _ (λ e. omega arith) (
    either (double? c) 4 _ (λ e. omega arith) (
    either (ring? c) 5 _ (λ e. omega arith) (
    either (repeated? c) 6 _ (λ e. omega arith) (
    either (unled? c) 7 _ (λ e. omega arith) (
    either (broad? c) 11 0 (λ e. omega arith) (λ e. omega arith))))))))

record_unshort : (b : List ℕ) (l : Layout) → refusal_in chart_refusal b l ≢ 8
record_unshort b Bad = λ e. omega arith
record_unshort b (Good f) = chart_unshort (content_of b f)

judged-nothing : (k : ℕ) (c : Content) → (k ≡ 0 → ⊥) → (judged k c).graph ≡ nothing
unfolding judged
judged-nothing k c ne = simp (ne_eqb _ _ ne)

pub drawn_sound : (c : Content) → Sound (judged (chart_refusal c) c)
unfolding judged
drawn_sound c = record { quiet = judged-nothing _ _; unshort = chart_unshort c }

pub graph_sound : (n : ℕ) (ends : List ℕ) (given : Bool) (field : List ℕ) (floored : Bool) (floors : List ℕ)
    → Sound (graph_drawn n ends given field floored floors)
unfolding graph_drawn
graph_sound n ends given field floored floors = drawn_sound (graph_content n ends given field floored floors)

pub record_sound : (b : List ℕ) → Sound (record_drawn b)
unfolding record_drawn judged
record_sound b = record { quiet = judged-nothing _ _; unshort = record_unshort b (layout_of b) }

-- ---- into lists of given lengths

module _ (d : Drawn) (ok : Sound d) where
  -- what is refused has no graph, short lists too
  pub lent_quiet : (v e b : ℕ) → ((lent v e b d).refusal ≡ 0 → ⊥) → (lent v e b d).graph ≡ nothing
  lent_quiet v e b = go (short? v e b d) refl
    where
      go : (t : Bool) → short? v e b d ≡ t → ((lent v e b d).refusal ≡ 0 → ⊥) → (lent v e b d).graph ≡ nothing
      go true h = rw (lent-short v e b d h) (λ ne. refl)
      go false h = rw (lent-whole v e b d h) ok.quiet

  -- 8 exactly where what is accepted does not fit
  module _ (v e b : ℕ) where
    -- what is refused already has no entry
    short-accepted : short? v e b d ≡ true → d.refusal ≡ 0
    short-accepted h = go (eqb d.refusal 0) refl
      where
        go : (s : Bool) → eqb d.refusal 0 ≡ s → d.refusal ≡ 0
        go true t = eqb-true _ _ t
        go false t =
            let none = ok.quiet (eqb-false _ _ t) in
            let n : d.graph.vertices ≡ 0 = ap (λ (c : Content). c.vertices) none in
            let m : edges_of d.graph ≡ 0 = ap edges_of none ∙ empty.edges in
            let k : length (plan_of d.graph).bundles ≡ 0 = ap (λ (c : Content). length (plan_of c).bundles) none ∙ empty.bundles in
            ⊎_elim (λ l. absurd (omega (arith, n))) (⊎_elim (λ l. absurd (omega (arith, m))) (λ l. absurd (omega (arith, k))))
            (lacking v e b d h)

    eight-short : (lent v e b d).refusal ≡ 8 → short? v e b d ≡ true
    eight-short = go (short? v e b d) refl
      where
        go : (t : Bool) → short? v e b d ≡ t → (lent v e b d).refusal ≡ 8 → t ≡ true
        go true h k = refl
        go false h k = absurd (ok.unshort (ap (λ (y : Drawn). y.refusal) (sym (lent-whole v e b d h)) ∙ k))

    pub lent-eight : ((lent v e b d).refusal ≡ 8) ↔ ((d.refusal ≡ 0) × (short? v e b d ≡ true))
    lent-eight = ((λ k. (short-accepted (eight-short k), eight-short k)), (λ h. ap (λ (y : Drawn). y.refusal) (lent-short v e b d h.1)))

    -- any other refusal is as it was, whatever the lengths
    pub lent-refused : (k : ℕ) → 0 < k → k ≢ 8 → ((lent v e b d).refusal ≡ k) ↔ (d.refusal ≡ k)
    lent-refused k l ne = go (short? v e b d) refl
      where
        go : (t : Bool) → short? v e b d ≡ t → ((lent v e b d).refusal ≡ k) ↔ (d.refusal ≡ k)
        go true h = (
          (λ q. absurd (ne (sym q ∙ ap (λ (y : Drawn). y.refusal) (lent-short v e b d h)))),
          λ q. absurd (omega (arith, short-accepted h)),
        )
        go false h = let same = ap (λ (y : Drawn). y.refusal) (lent-whole v e b d h) in ((λ q. sym same ∙ q), λ q. same ∙ q)
