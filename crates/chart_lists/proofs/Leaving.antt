-- From the lists and the counts to the promise. Assumes nothing.
use Rattle.counting.proofs.Prelude.{◌≡◌, refl, sym, ap, ap₂, subst, ◌∙◌, Bool, true, false, ◌||◌, List, ℕ, ◌*◌, ◌/◌, ◌≤◌, arith}
use Rattle.counting.proofs.Prelude.{ltb, length, replicate, eq-eqb, ne_eqb, ltb-false, ◌∷◌, zero, suc, take, ◌<◌, lt-ltb, le-ltb}
use Rattle.std.specs.Prelude.{Result, Ok, Err}
use Rattle.std.specs.Result.{IsErrAnd}
use Rattle.specification.specs.declared.Refusal.{Refusal}
use Rattle.specification.specs.declared.Refusal.TheVariants.{Short}
use Rattle.chart_plan.specs.declared.Plan as told
use Rattle.specification.specs.Refusals.{refusal_number}
use native.Mathlib.Decide.{ℕ_discrete}
use Rattle.specification.specs.Count.{choose}
use Rattle.specification.specs.Checks.{Content, edges_of, nothing}
use Rattle.specification.specs.Chart.{plan_of}
use Rattle.specification.specs.Drawn.{chart_refusal, Drawn, graph_content, graph_drawn, short?, lent, refused_by}
use Rattle.counting.proofs.Zeros.{zeros}
use Rattle.counting.proofs.Truth.{or_neither}
use Rattle.counting.proofs.Stores.{filled_none, filled_to}
use Rattle.specification.proofs.Cases.{refusal_numbered}
use Rattle.chart_plan.specs.Laid.{Lists, Laid}
use Rattle.chart_plan.specs.Laid.{Plan}
use Rattle.chart_plan.proofs.Entries.{edges-counted}
use Rattle.chart_plan.proofs.Judging.{graph_refused, graph_whole}
use Rattle.chart_plan.proofs.Nothing.{empty}
use Rattle.chart_plan.proofs.Shortage.{enough, lent-short, lent-whole}
use Rattle.specification.specs.declared.ChartCounts.{ChartCounts}
use Rattle.chart_lists.specs.Chart.{Counts, Numbered, Left, whole, no_counts}
use Rattle.chart_lists.specs.Steps.Hand.{room_refusal, Accepts}

-- ---- a refusal

-- the first of a list of zeros are zeros
pub zeros_cut : (m k : ℕ) → m ≤ k → take m (replicate {A = ℕ} k 0) ≡ replicate m 0
zeros_cut zero k l = refl
zeros_cut (suc m) zero l = absurd (omega arith)
zeros_cut (suc m) (suc k) l = ap (λ (x : List ℕ). 0 ∷ x) (zeros_cut m k (omega arith))

module _ (ws es bs : List ℕ) where
  nothing-numbered : (k : ℕ) → Numbered nothing (plan_of nothing) ws es bs (whole (no_counts k) (replicate 128 0)) ws es bs
  nothing-numbered k = record {
    summary = record {
      words = refl;
      arrows = sym empty.edges;
      bundles = sym empty.bundles;
      rows = sym empty.rows;
      lines = sym empty.channels;
      firm = sym empty.reduced;
      width = sym empty.width;
      side_columns = λ l h. zeros 128 l ∙ sym (empty.tracks l h);
      long = refl;
    };
    word_list = filled_none _ _;
    arrow_list = filled_to _ _ 0 _ _ (sym (ap (λ (n : ℕ). n * 5) empty.edges)) (filled_none _ _);
    bundle_list = filled_to _ _ 0 _ _ (sym (ap (λ (n : ℕ). n * 4) empty.bundles)) (filled_none _ _);
  }

  nothing_left : (k : ℕ) (r : Counts) (used : List ℕ) → r ≡ no_counts k → used ≡ replicate 128 0
      → Left (refused_by k) ws es bs (whole r used) ws es bs
  nothing_left k r used h z = subst (λ (x : ChartCounts). Left (refused_by k) ws es bs x ws es bs) (sym (ap₂ whole h z))
      (record { refusal = refl; numbered = nothing-numbered k })

  -- what is refused already is never short
  pub refused-left : (d : Drawn) (k : ℕ) (r : Counts) (used : List ℕ) → d ≡ refused_by k → r ≡ no_counts k → used ≡ replicate 128 0
      → Left (lent (length ws / 6) (length es / 5) (length bs / 4) d) ws es bs (whole r used) ws es bs
  refused-left d k r used e h z =
      rw e (rw (lent-whole (length ws / 6) (length es / 5) (length bs / 4) (refused_by k)
      (enough _ _ _ (refused_by k) (omega arith) (omega (arith, empty.edges)) (omega (arith, empty.bundles))))
      (nothing_left k r used h z))

  short-left : (d : Drawn) (r : Counts) (used : List ℕ) → short? (length ws / 6) (length es / 5) (length bs / 4) d ≡ true → r ≡ no_counts 8
      → used ≡ replicate 128 0 → Left (lent (length ws / 6) (length es / 5) (length bs / 4) d) ws es bs (whole r used) ws es bs
  short-left d r used s h z = rw (lent-short _ _ _ d s) (nothing_left 8 r used h z)

-- ---- what is planned, or why it is not drawn

module _ (planned : Result told.Plan Refusal) (n m words arrows bundles : ℕ) where
  pub accept_refused : (r : Result told.Plan Refusal) (k : Refusal) → planned ≡ Err k → IsErrAnd r (λ e. e ≡ k)
      → Accepts planned n m words arrows bundles r
  unfolding room_refusal
  accept_refused (Ok p) k e h = absurd h
  accept_refused (Err x) k e h = rw e (record {
    refusal = rw h (rw (ne_eqb (refusal_number k) 0 (refusal_numbered k)) refl);
    same = λ p q. absurd cc;
  })

  module _ (p : told.Plan) (e : planned ≡ Ok p) where
    pub accept_room : n ≤ words → m ≤ arrows → p.bundles ≤ bundles → Accepts planned n m words arrows bundles (Ok p)
    unfolding room_refusal
    accept_room w a b = rw e (record {
      refusal = rw (le-ltb _ _ w, le-ltb _ _ a, le-ltb _ _ b) refl;
      same = λ q h. h;
    })

    accept_short : (ltb words n || (ltb arrows m || ltb bundles p.bundles)) ≡ true → Accepts planned n m words arrows bundles (Err Short)
    unfolding room_refusal
    accept_short l = rw e (record { refusal = rw l refl; same = λ q h. absurd cc })

    pub accept_words : words < n → Accepts planned n m words arrows bundles (Err Short)
    accept_words w = accept_short (rw (lt-ltb _ _ w) refl)

    pub accept_arrows : n ≤ words → arrows < m → Accepts planned n m words arrows bundles (Err Short)
    accept_arrows w a = accept_short (rw (le-ltb _ _ w, lt-ltb _ _ a) refl)

    pub accept_bundles : n ≤ words → m ≤ arrows → bundles < p.bundles → Accepts planned n m words arrows bundles (Err Short)
    accept_bundles w a b = accept_short (rw (le-ltb _ _ w, le-ltb _ _ a, lt-ltb _ _ b) refl)

-- ---- one or the other, by the number k that the call tells

module _ (refusal n m b words arrows bundles k : ℕ) (e : k ≡ room_refusal refusal n m b words arrows bundles) where
  abbrev lacks : Bool
  lacks = ltb words n || (ltb arrows m || ltb bundles b)

  pub told-refused : (refusal ≡ 0 → ⊥) → k ≡ refusal
  unfolding room_refusal
  told-refused ne = e ∙ rw (ne_eqb refusal 0 ne) refl

  told-room : refusal ≡ 0 → k ≡ choose lacks (λ _. 8) (λ _. 0)
  unfolding room_refusal
  told-room z = e ∙ rw (eq-eqb refusal 0 z) refl

  told-short : refusal ≡ 0 → (k ≡ 0 → ⊥) → (k ≡ 8) × (lacks ≡ true)
  told-short z ne = go lacks refl (told-room z)
    where
      go : (x : Bool) → lacks ≡ x → k ≡ choose x (λ _. 8) (λ _. 0) → (k ≡ 8) × (lacks ≡ true)
      go true h q = (q, h)
      go false h q = absurd (ne q)

  -- what is accepted has a plan, and room
  pub told-whole : k ≡ 0 → (refusal ≡ 0) × (n ≤ words) × (m ≤ arrows) × (b ≤ bundles)
  told-whole z = go lacks refl (told-room accepted)
    where
      planned : Dec (refusal ≡ 0) → refusal ≡ 0
      planned (yes q) = q
      planned (no ne) = sym (told-refused ne) ∙ z

      accepted : refusal ≡ 0
      accepted = planned (ℕ_discrete refusal 0)

      go : (x : Bool) → lacks ≡ x → k ≡ choose x (λ _. 8) (λ _. 0) → (refusal ≡ 0) × (n ≤ words) × (m ≤ arrows) × (b ≤ bundles)
      go true h q = absurd (omega arith)
      go false h q =
          let v = or_neither (ltb words n) _ h in
          let w = or_neither (ltb arrows m) (ltb bundles b) v.1 in
          (accepted, ltb-false words n v.0, ltb-false arrows m w.0, ltb-false bundles b w.1)

module _ (n : ℕ) (ends : List ℕ) (given : Bool) (field : List ℕ) (floored : Bool) (floors : List ℕ) (p : Plan) (t : Lists)
    (answer : p.refusal ≡ chart_refusal (graph_content n ends given field floored floors))
    (laid : p.refusal ≡ 0 → Laid (graph_content n ends given field floored floors) p t) (ws es bs : List ℕ) (k : ℕ)
    (told : k ≡ room_refusal p.refusal n (length ends / 2) p.bundles (length ws / 6) (length es / 5) (length bs / 4)) where
  abbrev c : Content
  c = graph_content n ends given field floored floors

  abbrev drawn : Drawn
  drawn = graph_drawn n ends given field floored floors

  abbrev into : Drawn
  into = lent (length ws / 6) (length es / 5) (length bs / 4) drawn

  -- of what is accepted the graph is the drawn one, and the counts that are compared are the chart's
  module _ (z : p.refusal ≡ 0) where
    accepted-whole : drawn ≡ record { refusal = 0; graph = c }
    accepted-whole = graph_whole n ends given field floored floors (sym z ∙ answer)

    sizes : (drawn.graph.vertices ≡ n) × (edges_of drawn.graph ≡ length ends / 2)
        × (length (plan_of drawn.graph).bundles ≡ p.bundles)
    unfolding graph_content
    sizes = rw accepted-whole (refl, edges-counted n ends given field floored floors, sym (laid z).bundles.counted)

    -- a list that lacks room is short
    short-same : (v e b : ℕ) → short? v e b drawn ≡ (ltb v n || (ltb e (length ends / 2) || ltb b p.bundles))
    unfolding short?
    short-same v e b =
        let q = sizes in
        ap₂ ◌||◌ (ap (ltb v) q.0) (ap₂ ◌||◌ (ap (ltb e) q.1) (ap (ltb b) q.2))

  -- a refusal leaves the lists as they were
  pub call_refused : (k ≡ 0 → ⊥) → (r : Counts) (used : List ℕ) → r ≡ no_counts k → used ≡ replicate 128 0
      → Left into ws es bs (whole r used) ws es bs
  call_refused ne r used h cleared = go (ℕ_discrete p.refusal 0)
    where
      go : Dec (p.refusal ≡ 0) → Left into ws es bs (whole r used) ws es bs
      go (no d) =
          refused-left ws es bs drawn p.refusal r used (graph_refused n ends given field floored floors p.refusal answer d)
          (h ∙ ap no_counts (told-refused _ _ _ _ _ _ _ _ told d)) cleared
      go (yes z) =
          let short = told-short _ _ _ _ _ _ _ _ told z ne in
          short-left ws es bs drawn r used (short-same z _ _ _ ∙ short.1) (h ∙ ap no_counts short.0) cleared

  pub call_left : k ≡ 0 → (ws' es' bs' : List ℕ) (r : ChartCounts) → r.refusal ≡ 0
      → Numbered c (plan_of c) ws es bs r ws' es' bs' → Left into ws es bs r ws' es' bs'
  call_left z ws' es' bs' r accepted h =
      let f = told-whole _ _ _ _ _ _ _ _ told z in
      let a = sizes f.0 in
      rw (
        lent-whole (length ws / 6) (length es / 5) (length bs / 4) drawn
            (enough (length ws / 6) (length es / 5) (length bs / 4) drawn (omega arith) (omega arith) (omega arith)),
        accepted-whole f.0,
      )
      (record { refusal = accepted; numbered = h })
