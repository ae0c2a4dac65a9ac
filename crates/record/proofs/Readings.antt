-- What a record says, by whether it is accepted. Assumes nothing.
use Rattle.counting.proofs.Prelude.{◌≡◌, refl, sym, ap, ◌∙◌, subst, ◌≢◌, ◌↔◌, Bool, List, [], ℕ, ◌<◌, arith, length}
use Rattle.counting.proofs.Prelude.{eq-eqb, ne_eqb}
use Rattle.specification.specs.Count.{choose}
use Rattle.specification.specs.Sets.{at}
use Rattle.specification.specs.Graph.{refusal, verdict, outsized?, Reachable, unsized?}
use Rattle.specification.specs.Layout.{Fields}
use Rattle.specification.specs.Layout.{Good, Bad}
use Rattle.specification.specs.Layout.{layout_of}
use Rattle.specification.specs.Checks.{Content, refusal_of, content_of, nothing, refusal_in, record_refusal, content_in, said}
use Rattle.masks.proofs.Tables.{at_zeros}
use Rattle.record.specs.Reading.{Reading, unread_by, Reads}
use Rattle.record.specs.Steps.{Judged, Judges}

pub refused_says : (b : List ℕ) → (record_refusal b ≡ 0 → ⊥) → said b ≡ nothing
unfolding said
refused_says b h = ap (λ (t : Bool). choose t (λ _. content_in b (layout_of b)) (λ _. nothing)) (ne_eqb (record_refusal b) 0 h)

pub bad_refusal : (b : List ℕ) → layout_of b ≡ Bad → record_refusal b ≡ 1
unfolding record_refusal
bad_refusal b e = ap (refusal_in refusal_of b) e

pub good_refusal : (b : List ℕ) (f : Fields) → layout_of b ≡ Good f → record_refusal b ≡ refusal_of (content_of b f)
unfolding record_refusal
good_refusal b f e = ap (refusal_in refusal_of b) e

pub accepted_says : (b : List ℕ) (f : Fields) → layout_of b ≡ Good f → record_refusal b ≡ 0 → said b ≡ content_of b f
unfolding said
accepted_says b f e z =
    ap (λ (t : Bool). choose t (λ _. content_in b (layout_of b)) (λ _. nothing)) (eq-eqb (record_refusal b) 0 z) ∙ ap (content_in b) e

-- ---- what reading answers

-- nothing is reachable in nothing
none_reached : (u v : ℕ) → Reachable 0 [] [] u v → ⊥
unfolding refusal verdict outsized? unsized?
none_reached u v r = let z : ◌≡◌ {A = ℕ} 2 0 = r.0 in omega arith

pub unread_reads : (b : List ℕ) (k : ℕ) (r : Reading) → record_refusal b ≡ k → k ≢ 0 → r ≡ unread_by k → Reads b r
unread_reads b k r e ne q =
    let no : record_refusal b ≡ 0 → ⊥ = λ z. ne (sym e ∙ z) in
    let bits : (u v : ℕ) → u < 128 → v < 128 → at 2 (unread_by k).table u v ≡ 1 ↔ Reachable 0 [] [] u v =
    (λ u v hu hv. ((λ z. absurd (let w = at_zeros 2 256 u v in omega arith)), (λ z. absurd (none_reached u v z)))) in
    subst (Reads b) (sym q) (record {
      answer = sym e;
      vertices = sym (ap (λ (c : Content). c.vertices) (refused_says b no));
      masks = refl;
      bits =
          subst (λ (c : Content). (u v : ℕ) → u < 128 → v < 128
          → at 2 (unread_by k).table u v ≡ 1 ↔ Reachable c.vertices c.tails c.heads u v) (sym (refused_says b no)) bits;
      none = λ h. refl;
    })

-- ---- what a record that is refused leaves, and one that is not

pub judged-refused : (b : List ℕ) (r : Judged) (e l t : List ℕ) → r.refusal ≡ record_refusal b → r.refusal ≢ 0 → r.vertices ≡ 0
    → length t ≡ 256 → Judges b r e l t
judged-refused b r e l t a ne n long = record {
  answer = a;
  vertices = n ∙ sym (ap (λ (c : Content). c.vertices) (refused_says b (λ z. ne (a ∙ z))));
  long = long;
  tables = λ z. absurd (ne z);
}

pub read-refused : (b : List ℕ) (j : Judged) (e l t : List ℕ) → Judges b j e l t → (r : Reading) → j.refusal ≢ 0 → r ≡ unread_by j.refusal
    → Reads b r
read-refused b j e l t judges r ne q = unread_reads b j.refusal r (sym judges.answer) ne q
