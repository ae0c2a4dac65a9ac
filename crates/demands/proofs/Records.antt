-- What is answered and left of a record: by where its fields stand, and then as of the graph that they say. Assumes nothing.
use Rattle.counting.proofs.Prelude.{◌≡◌, refl, sym, ap, ◌∙◌, subst, ◌↔◌, List, ℕ, arith, eq-eqb}
use Rattle.specification.specs.Layout.{layout_of}
use Rattle.specification.specs.Layout.{Fields}
use Rattle.specification.specs.Layout.{Layout}
use Rattle.specification.specs.Layout.{Good, Bad}
use Rattle.specification.specs.Checks.{Content, EndsKnown, SoundRecord, content_of, content_in, refusal_in, said}
use Rattle.specification.specs.Drawn.{Drawn, chart_refusal, judged, record_drawn, lent}
use Rattle.specification.specs.declared.ChartCounts.{ChartCounts}
use Rattle.record.proofs.Soundness.{record_sound}
use Rattle.chart_plan.proofs.Judging.{record_bad}
use Rattle.chart_plan.proofs.Refusals.{lent-refused, record_sound as record-quiet}
use Rattle.demands.specs.Demands.{Entries, seen, Faithful, Roomy, Smallest, Carried}
use Rattle.demands.specs.Refusals.{Broad, AnsweredRecord, Told, Narrow}
use Rattle.demands.specs.Refusals.Answered.{accepted, broad, short}
use Rattle.demands.specs.Refusals.AnsweredRecord.{layout, graph}
use Rattle.demands.proofs.Accepting.{Handed}
use Rattle.demands.proofs.Answering.{accepted_is, broad_is, short_is, refused_narrow, graph_answered, graph_clear, graph_least}
use Rattle.demands.proofs.Answering.{graph_narrow, graph-drawn}

module _ (b : List ℕ) where
  -- a sound record says what its fields say
  pub said-fields : (s : SoundRecord b) → said b ≡ content_of b s.0
  unfolding said
  said-fields s = rw (eq-eqb _ _ ((record_sound b).1 s)) (ap (content_in b) s.1)

  -- and the ends of its edges are vertices
  pub said-ends : SoundRecord b → EndsKnown (said b)
  said-ends s = subst EndsKnown (sym (said-fields s)) s.2.ends

  good_drawn : (f : Fields) → layout_of b ≡ Good f → record_drawn b ≡ judged (chart_refusal (content_of b f)) (content_of b f)
  unfolding record_drawn
  good_drawn f p = ap (λ (l : Layout). judged (refusal_in chart_refusal b l) (content_in b l)) p

  bad_not_good : (f : Fields) → layout_of b ≡ Bad → layout_of b ≡ Good f → ⊥
  bad_not_good f p q = let z : ◌≡◌ {A = ℕ} 1 0 = ap (refusal_in (λ _. 0) b) (sym p ∙ q) in omega arith

  -- ---- what the numbers say

  module _ {room : Content → Type 0} where
    said-accepted_is : {i : ℕ} → AnsweredRecord b room i → i ≡ 0 → SoundRecord b × (Broad (said b) → ⊥) × room (said b)
    said-accepted_is (layout ne) q = absurd (omega arith)
    said-accepted_is (graph f p a) q =
        let x = accepted_is a q in
        let same = said-fields (f, p, x.0) in
        ((f, p, x.0), (λ w. x.1 (subst Broad same w)), subst room (sym same) x.2)

    said_broad_is : {i : ℕ} → AnsweredRecord b room i → i ≡ 11 → SoundRecord b × Broad (said b)
    said_broad_is (layout ne) q = absurd (omega arith)
    said_broad_is (graph f p a) q = let x = broad_is a q in ((f, p, x.0), subst Broad (sym (said-fields (f, p, x.0))) x.1)

    said-short_is : {i : ℕ} → AnsweredRecord b room i → i ≡ 8 → SoundRecord b × (Broad (said b) → ⊥) × (room (said b) → ⊥)
    said-short_is (layout ne) q = absurd (omega arith)
    said-short_is (graph f p a) q =
        let x = short_is a q in
        let same = said-fields (f, p, x.0) in
        ((f, p, x.0), (λ w. x.1 (subst Broad same w)), λ m. x.2 (subst room same m))

  -- ---- of a call

  module _ (v e k : ℕ) (r : ChartCounts) (n : Entries) (h : Handed v e k (record_drawn b) r n) where
    abbrev room : Content → Type 0
    room x = Roomy x v e k

    good_handed : (f : Fields) → layout_of b ≡ Good f → Handed v e k (judged (chart_refusal (content_of b f)) (content_of b f)) r n
    good_handed f p = subst (λ (d : Drawn). Handed v e k d r n) (good_drawn f p) h

    bad_number : layout_of b ≡ Bad → r.refusal ≡ 1
    bad_number p =
        h.refusal
        ∙ (lent-refused (record_drawn b) (record-quiet b) v e k 1 (omega arith) (λ q. omega arith)).1
        (ap (λ (d : Drawn). d.refusal) (record_bad b p))

    number : {i : ℕ} → AnsweredRecord b room i → r.refusal ≡ i
    number (layout ne) = go (layout_of b) refl
      where
        go : (l : Layout) → layout_of b ≡ l → r.refusal ≡ 1
        go Bad p = bad_number p
        go (Good f) p = absurd (ne f p)
    number (graph f p a) = (graph_answered (content_of b f) v e k r n (good_handed f p) _).1 a

    found : AnsweredRecord b room r.refusal
    found = go (layout_of b) refl
      where
        go : (l : Layout) → layout_of b ≡ l → AnsweredRecord b room r.refusal
        go Bad p = subst (AnsweredRecord b room) (sym (bad_number p)) (layout (λ f q. bad_not_good f p q))
        go (Good f) p = graph f p ((graph_answered (content_of b f) v e k r n (good_handed f p) r.refusal).0 refl)

    pub said-answered : (i : ℕ) → (r.refusal ≡ i) ↔ AnsweredRecord b room i
    said-answered i = ((λ p. subst (AnsweredRecord b room) p found), number)

    pub said-told : Told (SoundRecord b) (Broad (said b)) (room (said b)) r.refusal
    said-told = record {
      accepted_exactly = (
        (λ z. said-accepted_is ((said-answered 0).0 z) refl),
        λ (s, ne, m).
            let same = said-fields s in
            number (graph s.0 s.1 (accepted s.2 (λ w. ne (subst Broad (sym same) w)) (subst room same m))),
      );
      broad_exactly = (
        (λ z. said_broad_is ((said-answered 11).0 z) refl),
        λ (s, w). number (graph s.0 s.1 (broad s.2 (subst Broad (said-fields s) w))),
      );
      short_exactly = (
        (λ z. said-short_is ((said-answered 8).0 z) refl),
        λ (s, ne, lacks).
            let same = said-fields s in
            number
            (graph s.0 s.1 (short s.2 (λ w. ne (subst Broad (sym same) w)) (λ m. lacks (subst room (sym same) m)))),
      );
    }

    module _ (z : r.refusal ≡ 0) where
      s : SoundRecord b
      s = (said-told.accepted_exactly.0 z).0

      pub said-drawn : (lent v e k (record_drawn b)).graph ≡ said b
      said-drawn =
          ap (λ (d : Drawn). (lent v e k d).graph) (good_drawn s.0 s.1)
          ∙ graph-drawn (content_of b s.0) v e k r n (good_handed s.0 s.1) z ∙ sym (said-fields s)

      pub said-clear : Faithful (said b) n
      said-clear =
          subst (λ (c : Content). Faithful c n) (sym (said-fields s))
          (graph_clear (content_of b s.0) v e k r n (good_handed s.0 s.1) z)

      pub said-least : Smallest (said b) (seen (said b) r n) × Carried (said b) (seen (said b) r n) r
      said-least =
          subst (λ (c : Content). Smallest c (seen c r n) × Carried c (seen c r n) r) (sym (said-fields s))
          (graph_least (content_of b s.0) v e k r n (good_handed s.0 s.1) z)

    pub said_narrow : Narrow r
    said_narrow = go (layout_of b) refl
      where
        go : (l : Layout) → layout_of b ≡ l → Narrow r
        go Bad p = refused_narrow v e k (record_drawn b) (record-quiet b) r n h (λ z. absurd (omega (arith, bad_number p)))
        go (Good f) p = graph_narrow (content_of b f) v e k r n (good_handed f p)
