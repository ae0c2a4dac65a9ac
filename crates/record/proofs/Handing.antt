-- What judging a record leaves, by what the checks of its graph say. Assumes nothing.
use Rattle.counting.proofs.Prelude.{◌≡◌, refl, sym, ap, ◌∙◌, subst, ◌≢◌, Bool, List, ℕ, arith, length, replicate}
use Rattle.std.specs.Prelude.{Ok, Err}
use Rattle.specification.specs.declared.Graph.{Graph}
use Rattle.specification.specs.declared.Refusal.{Refusal}
use Rattle.specification.specs.Graph.{tails_of, heads_of}
use Rattle.specification.specs.Layout.{Fields, Good, layout_of}
use Rattle.specification.specs.Checks.{Content, content, refusal_of, content_of, record_refusal}
use Rattle.specification.specs.Parts.{present?, bytes_of}
use Rattle.fields.specs.Parts.{Parted}
use Rattle.fields.proofs.Parting.{parted_bad, parted_good, parts_content}
use Rattle.floors.specs.Promise.{Roomy}
use Rattle.record.specs.Checked.{Checked, Checks}
use Rattle.record.specs.Steps.{judged_of, Tabled, Judges}
use Rattle.record.proofs.Readings.{bad_refusal, good_refusal, accepted_says, judged-refused}

-- the fields do not stand as they must
pub judge_bad : (b : List ℕ) (k : Refusal) (e l t : List ℕ) → Parted b (layout_of b) (Err k) → length t ≡ 256
    → Judges b (judged_of (Err k)) e l t
judge_bad b k e l t h long =
    let p = parted_bad b (layout_of b) k h in
    judged-refused b _ e l t (rw p.1 (sym (bad_refusal b p.0))) (rw p.1 (λ z. omega arith)) refl long

module _ (b : List ℕ) (g : Graph) (parted : Parted b (layout_of b) (Ok g)) (k : Checked) (e t l e' b' t' l' p' : List ℕ) where
  abbrev c : Content
  c =
      content g.vertices (tails_of g.ends.now) (heads_of g.ends.now) (present? g.given) (bytes_of g.given) (present? g.floors)
      (bytes_of g.floors)

  abbrev f : Fields
  f = (parted_good b (layout_of b) g parted).0

  good : layout_of b ≡ Good f
  good = (parted_good b (layout_of b) g parted).1

  same : c ≡ content_of b f
  same = parts_content b f g (parted_good b (layout_of b) g parted).2

  module _ (long : (length e ≡ 256) × (length l ≡ 256) × (length t ≡ 256))
      (p : Checks g.vertices g.ends.now (present? g.given) (bytes_of g.given) (present? g.floors) (bytes_of g.floors) e (replicate 512 0)
      t l (replicate 512 0) k e' b' t' l' p') where
    -- lists of the largest size have room for every graph
    room : (n : ℕ) (floored : Bool) → Roomy n floored e (replicate 512 0) t l (replicate 512 0)
    room n floored = record {
      masks = record {
        edges = omega (arith, long.0);
        below = omega arith;
        table = omega (arith, long.2);
        longer = omega (arith, long.1);
        places = omega arith;
      };
      rows = λ _. omega arith;
    }

    answer : k.refusal ≡ record_refusal b
    answer = p.answer (room g.vertices (present? g.floors)) ∙ ap refusal_of same ∙ sym (good_refusal b f good)

    pub judge_refused : k.refusal ≢ 0 → Judges b (record { refusal = k.refusal; vertices = 0 }) e' l' t'
    judge_refused ne = judged-refused b _ e' l' t' answer ne refl (p.long.2 ∙ long.2)

    pub judge_passed : k.refusal ≡ 0 → Judges b (record { refusal = 0; vertices = g.vertices }) e' l' t'
    judge_passed z =
        let ok : record_refusal b ≡ 0 = sym answer ∙ z in
        let says = same ∙ sym (accepted_says b f good ok) in
        let d = (p.passes z).raised in
        let tables : Tabled c e' l' t' = record { arcs = d.closure.edge_bits; bits = d.closure.bits; longer = d.longer } in
        record {
          answer = sym ok;
          vertices = ap (λ (x : Content). x.vertices) says;
          long = p.long.2 ∙ long.2;
          tables = λ _. subst (λ (x : Content). Tabled x e' l' t') says tables;
        }
