-- The number that is answered of a graph is that of the first check that fails, with 'broad' before 'short'. Assumes nothing.
use Rattle.counting.proofs.Prelude.{◌≡◌, refl, sym, ap, ◌∙◌, subst, ◌↔◌, ◌≢◌, ◌⊎◌, inl, inr, ⊎_elim, Bool, true, false, true≢false}
use Rattle.counting.proofs.Prelude.{ℕ, suc, ◌≤◌, ◌<◌, arith, length, get_or, eq-eqb, ltb-false, get_or-eq_default}
use native.Mathlib.Decide.{ℕ_discrete}
use Rattle.counting.proofs.Truth.{true_or_false, lt-or-le}
use Rattle.counting.proofs.Falsity.{not-true}
use Rattle.specification.specs.Limits.{most_vertices, most_edges, most_bundles, most_channels}
use Rattle.specification.specs.Checks.{Content, connection_in, given_line, size?, floor?, Floored, stranger?, double?, ring?, repeated?}
use Rattle.specification.specs.Checks.{unled?}
use Rattle.specification.specs.Checks.{loose_checks, later_checks, first_of, refusal_of, Sized, Distinct, Acyclic, Once, Led, Sound}
use Rattle.specification.specs.Chart.{channels_of, plan_of, tracks_in}
use Rattle.specification.specs.Drawn.{broad?, chart_refusal, Drawn, judged, short?, lent, Summary}
use Rattle.specification.specs.declared.ChartCounts.{ChartCounts}
use Rattle.record.proofs.Soundness.{size_says, floor_says, stranger_says, double_says, ring_says, cover_says, led_says, sound_accepted}
use Rattle.record.proofs.Soundness.{content_means, unled_lacks}
use Rattle.reach.proofs.Connecting.{unled_number}
use Rattle.demands.specs.Leading.{Unled}
use Rattle.chart_laws.proofs.Broad.{too_many, broad_so, chart_refused, chart_broad, chart_whole}
use Rattle.chart_laws.proofs.Bundling.{bundles_256, plan-channels, tracks_past}
use Rattle.chart_plan.proofs.Nothing.{empty}
use Rattle.chart_plan.proofs.Refusals.{lent_quiet, lent-eight, lent-refused, drawn_sound}
use Rattle.chart_plan.proofs.Refusals as plan
use Rattle.demands.specs.Demands.{Entries, Faithful, Roomy, seen, Smallest, Carried}
use Rattle.demands.specs.Refusals.{Known, Fails, Broad, Answered, Told, Narrow}
use Rattle.demands.specs.Refusals.Fails.{size, floor, stranger, double, ring, cover, broken}
use Rattle.demands.specs.Refusals.Answered.{accepted, failed, broad, short}
use Rattle.demands.proofs.Accepting.{Handed, roomy, roomy_enough, call_accepted, drawn-whole, call_summary}
use Rattle.demands.proofs.Accepting.{call_faithful, call_smallest}

-- ---- a test that says P where it is false

failing : (t : Bool) {P : Type 0} → (t ≡ false) ↔ P → (P → ⊥) → t ≡ true
failing true d n = refl
failing false d n = absurd (n (d.0 refl))

next : (t : Bool) {P A : Type 0} → (t ≡ false) ↔ P → ((P → ⊥) → A) → (P → A) → A
next true d f g = f (λ p. true≢false (d.1 p))
next false d f g = g (d.0 refl)

told : (t : Bool) {A : Type 0} → (t ≡ true → A) → (t ≡ false → A) → A
told true f g = f refl
told false f g = g refl

-- ---- neighbours of a given channel that answer 'not at all'

module _ (c : Content) where
  unled_found : unled? c ≡ true → Unled c
  unled_found t =
      let p = unled_lacks c t in
      let w = p.1 in
      let l = given_line c w.0 in
      let answer = connection_in c (get_or l w.1 0) (get_or l (suc w.1) 0) in
      record { given = p.0; line = w.0; place = w.1; within = w.2; unreached = (unled_number answer).0 w.3 }

  unled_led : Sized c → Known c → Unled c → Led c → ⊥
  unled_led z k n l = (content_means c z k _ _).unreached.0 n.unreached (l n.given n.line n.place n.within)

-- ---- a graph is sound, or a check is the first that fails

module _ (c : Content) where
  pub sound_parts : Sound c ↔ (Sized c × Floored c × Known c × Distinct c × Acyclic c × Once c × Led c)
  sound_parts = (
    (λ s. (s.size, s.floors, (s.ends, s.named), s.distinct, s.acyclic, s.once, s.led)),
    λ p. record {
      size = p.0;
      floors = p.1;
      ends = p.2.0;
      named = p.2.1;
      distinct = p.3;
      acyclic = p.4;
      once = p.5;
      led = p.6;
    },
  )

  first : Sound c ⊎ ((k : ℕ) × Fails c k)
  first =
      next (size? c) (size_says c) (λ n. inr (2, size n)) λ z.
      next (floor? c) (floor_says c) (λ n. inr (12, floor z n)) λ f.
      next (stranger? c) (stranger_says c) (λ n. inr (3, stranger z f n)) λ k.
      next (double? c) (double_says c) (λ n. inr (4, double z f k n)) λ d.
      next (ring? c) (ring_says c z k) (λ n. inr (5, ring z f k d n)) λ a.
      next (repeated? c) (cover_says c) (λ n. inr (6, cover z f k d a n)) λ o.
      told (unled? c) (λ t. inr (7, broken z f k d a o (unled_found c t))) λ u.
      let l = (led_says c z k).0 u in
      inl (sound_parts.1 (z, f, k, d, a, o, l))

  -- none of them is 0, 8 or 11
  abbrev Early : ℕ → Type 0
  Early k = (0 < k) × (k ≢ 8) × (k ≢ 11)

  fails_early : {k : ℕ} → Fails c k → Early k
  fails_early (size n) = (omega arith, (λ e. omega arith), λ e. omega arith)
  fails_early (floor z n) = (omega arith, (λ e. omega arith), λ e. omega arith)
  fails_early (stranger z f n) = (omega arith, (λ e. omega arith), λ e. omega arith)
  fails_early (double z f k n) = (omega arith, (λ e. omega arith), λ e. omega arith)
  fails_early (ring z f k d n) = (omega arith, (λ e. omega arith), λ e. omega arith)
  fails_early (cover z f k d a n) = (omega arith, (λ e. omega arith), λ e. omega arith)
  fails_early (broken z f k d a o n) = (omega arith, (λ e. omega arith), λ e. omega arith)

  fails_number : {k : ℕ} → Fails c k → refusal_of c ≡ k
  unfolding refusal_of first_of loose_checks later_checks
  fails_number (size n) = rw (failing (size? c) (size_says c) n) refl
  fails_number (floor z n) = rw ((size_says c).1 z, failing (floor? c) (floor_says c) n) refl
  fails_number (stranger z f n) = rw ((size_says c).1 z, (floor_says c).1 f, failing (stranger? c) (stranger_says c) n) refl
  fails_number (double z f k n) =
      rw ((size_says c).1 z, (floor_says c).1 f, (stranger_says c).1 k, failing (double? c) (double_says c) n) refl
  fails_number (ring z f k d n) =
      rw ((size_says c).1 z, (floor_says c).1 f, (stranger_says c).1 k, (double_says c).1 d, failing (ring? c) (ring_says c z k) n) refl
  fails_number (cover z f k d a n) =
      rw ((size_says c).1 z, (floor_says c).1 f, (stranger_says c).1 k, (double_says c).1 d, (ring_says c z k).1 a)
      (rw (failing (repeated? c) (cover_says c) n) refl)
  fails_number (broken z f k d a o n) =
      rw ((size_says c).1 z, (floor_says c).1 f, (stranger_says c).1 k, (double_says c).1 d, (ring_says c z k).1 a, (cover_says c).1 o)
      (rw (failing (unled? c) (led_says c z k) (unled_led c z k n)) refl)

-- ---- what the numbers say

module _ {c : Content} {room : Content → Type 0} where
  pub accepted_is : {i : ℕ} → Answered c room i → i ≡ 0 → Sound c × (Broad c → ⊥) × room c
  accepted_is (accepted s n m) q = (s, n, m)
  accepted_is (failed f) q = absurd (omega (arith, (fails_early c f).0))
  accepted_is (broad s b) q = absurd (omega arith)
  accepted_is (short s n m) q = absurd (omega arith)

  pub broad_is : {i : ℕ} → Answered c room i → i ≡ 11 → Sound c × Broad c
  broad_is (accepted s n m) q = absurd (omega arith)
  broad_is (failed f) q = absurd ((fails_early c f).2 q)
  broad_is (broad s b) q = (s, b)
  broad_is (short s n m) q = absurd (omega arith)

  pub short_is : {i : ℕ} → Answered c room i → i ≡ 8 → Sound c × (Broad c → ⊥) × (room c → ⊥)
  short_is (accepted s n m) q = absurd (omega arith)
  short_is (failed f) q = absurd ((fails_early c f).1 q)
  short_is (broad s b) q = absurd (omega arith)
  short_is (short s n m) q = (s, n, m)

-- lists for the most vertices, edges and bundles have room for every chart
pub roomy_most : (c : Content) → Sound c → (v e k : ℕ) → most_vertices ≤ v → most_edges ≤ e → most_bundles ≤ k → Roomy c v e k
roomy_most c s v e k hv he hk = record {
  vertices = omega (arith, s.size.1);
  edges = omega (arith, s.size.2);
  bundles = omega (arith, bundles_256 c s);
}

-- ---- no more lines than a chart may have

thin : (c : Content) (r : ChartCounts) → Summary c (plan_of c) r → length (plan_of c).channels ≤ most_channels
    → ((l : ℕ) → most_channels ≤ l → l < most_vertices → tracks_in (plan_of c) l ≡ 0) → Narrow r
thin c r q few past = record {
  lines = omega (arith, q.lines);
  side_columns = λ l m. ⊎_elim
      (λ h. q.side_columns l h ∙ past l m h)
      (λ h. get_or-eq_default r.side_columns 0 (omega (arith, q.long)))
      (lt-or-le l most_vertices);
  long = q.long;
}

module _ (v e k : ℕ) (d : Drawn) (ok : plan.Sound d) (r : ChartCounts) (n : Entries) (h : Handed v e k d r n) where
  -- after a refusal there are none
  pub refused_narrow : (r.refusal ≡ 0 → ⊥) → Narrow r
  refused_narrow ne =
      let none = lent_quiet d ok v e k (λ z. ne (h.refusal ∙ z)) in
      thin _ r h.summary (omega (arith, ap (λ (c : Content). length (plan_of c).channels) none, empty.channels))
      (λ l m b. ap (λ (c : Content). tracks_in (plan_of c) l) none ∙ empty.tracks l b)

-- ---- what is drawn of a graph

module _ (c : Content) where
  -- by the count of our channels
  pub broad_decided : Sound c → (broad? c ≡ true) ↔ Broad c
  broad_decided s = (too_many c s, broad_so c s)

  whole-number : Sound c → (Broad c → ⊥) → chart_refusal c ≡ 0
  whole-number s ne = chart_whole c (sound_accepted c s) (not-true (broad? c) (λ t. ne ((broad_decided s).0 t)))

  broad_number : Sound c → Broad c → chart_refusal c ≡ 11
  broad_number s b = chart_broad c (sound_accepted c s) ((broad_decided s).1 b)

  failed_number : {k : ℕ} → Fails c k → chart_refusal c ≡ k
  failed_number f =
      let n = fails_number c f in
      let refused : refusal_of c ≡ 0 → ⊥ = λ z. omega (arith, n, (fails_early c f).0, z) in
      chart_refused c refused ∙ n

  abbrev drawn : Drawn
  drawn = judged (chart_refusal c) c

  drawn_graph : chart_refusal c ≡ 0 → drawn.graph ≡ c
  unfolding judged
  drawn_graph z = rw (eq-eqb _ _ z) refl

  module _ (v e k : ℕ) (r : ChartCounts) (n : Entries) (h : Handed v e k drawn r n) where
    abbrev room : Content → Type 0
    room x = Roomy x v e k

    ok : plan.Sound drawn
    ok = drawn_sound c

    lacks : chart_refusal c ≡ 0 → (room c → ⊥) → short? v e k drawn ≡ true
    lacks z ne =
        ⊎_elim (λ t. t) (λ t. absurd (ne (subst room (drawn_graph z) (roomy v e k drawn t)))) (true_or_false (short? v e k drawn))

    number : {i : ℕ} → Answered c room i → r.refusal ≡ i
    unfolding judged
    number (accepted s b m) =
        let z = whole-number s b in (call_accepted v e k drawn r n h).1 (z, subst room (sym (drawn_graph z)) m)
    number (failed f) =
        let x = fails_early c f in h.refusal ∙ (lent-refused drawn ok v e k _ x.0 x.1).1 (failed_number f)
    number (broad s b) = h.refusal ∙ (lent-refused drawn ok v e k 11 (omega arith) (λ q. omega arith)).1 (broad_number s b)
    number (short s b m) = let z = whole-number s b in h.refusal ∙ (lent-eight drawn ok v e k).1 (z, lacks z m)

    fitted : Sound c → (Broad c → ⊥) → (i : ℕ) × Answered c room i
    fitted s b =
        let z = whole-number s b in ⊎_elim
        (λ t. (8, short s b (λ m. true≢false (sym t ∙ roomy_enough v e k drawn (subst room (sym (drawn_graph z)) m)))))
        (λ t. (0, accepted s b (subst room (drawn_graph z) (roomy v e k drawn t))))
        (true_or_false (short? v e k drawn))

    found : (i : ℕ) × Answered c room i
    found = ⊎_elim
        (λ s. ⊎_elim
        (λ t. (11, broad s ((broad_decided s).0 t)))
        (λ t. fitted s (λ b. true≢false (sym ((broad_decided s).1 b) ∙ t)))
        (true_or_false (broad? c)))
        (λ w. (w.0, failed w.1))
        (first c)

    pub graph_answered : (i : ℕ) → (r.refusal ≡ i) ↔ Answered c room i
    graph_answered i = ((λ p. let w = found in subst (Answered c room) (sym (number w.1) ∙ p) w.1), number)

    pub graph_told : Told (Sound c) (Broad c) (room c) r.refusal
    graph_told = record {
      accepted_exactly = ((λ z. accepted_is ((graph_answered 0).0 z) refl), λ q. number (accepted q.0 q.1 q.2));
      broad_exactly = ((λ z. broad_is ((graph_answered 11).0 z) refl), λ q. number (broad q.0 q.1));
      short_exactly = ((λ z. short_is ((graph_answered 8).0 z) refl), λ q. number (short q.0 q.1 q.2));
    }

    -- what is accepted is drawn whole
    module _ (z : r.refusal ≡ 0) where
      shown : Sound c × (Broad c → ⊥) × room c
      shown = graph_told.accepted_exactly.0 z

      whole : drawn.graph ≡ c
      whole = drawn_graph (whole-number shown.0 shown.1)

      -- all of the graph is drawn
      pub graph-drawn : (lent v e k drawn).graph ≡ c
      graph-drawn = drawn-whole v e k drawn r n h z ∙ whole

      pub graph_clear : Faithful c n
      graph_clear = call_faithful v e k drawn r n h z c whole shown.0

      pub graph_least : Smallest c (seen c r n) × Carried c (seen c r n) r
      graph_least = call_smallest v e k drawn r n h z c whole shown.0

      few : length (channels_of c) ≤ most_channels
      unfolding broad?
      few = ltb-false most_channels (length (channels_of c)) (not-true (broad? c) (λ t. shown.1 ((broad_decided shown.0).0 t)))

      accepted_narrow : Narrow r
      accepted_narrow =
          let s = shown.0 in
          thin c r (call_summary v e k drawn r n h z c whole s)
          (omega (arith, ap length (plan-channels c s), few)) (λ l m b. tracks_past c s l (omega (arith, few)))

    pub graph_narrow : Narrow r
    graph_narrow = go (ℕ_discrete r.refusal 0)
      where
        go : Dec (r.refusal ≡ 0) → Narrow r
        go (yes z) = accepted_narrow z
        go (no ne) = refused_narrow v e k drawn ok r n h ne
