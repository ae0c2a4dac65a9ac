-- Channels by a table and by a relation that agrees with it on the vertices below n: they are the same. Assumes nothing.
use Rattle.counting.proofs.Prelude.{◌≡◌, refl, ap, ap₂, Bool, true, false, not, ◌&&◌, ◌||◌, ℕ, ◌<◌, leb, leb-false}
use mathlib.Core.List.{List, [], ◌∷◌, ◌++◌, flatten}
use Rattle.specification.specs.Count.{choose}
use Rattle.specification.specs.Channels.{linked, every, all_linked, lines_of, vertices_of, unknown?, repeats?, broken?}
use Rattle.specification.specs.Graph.{unsized?}
use Rattle.specification.specs.Connection.{leading?}
use Rattle.specification.specs.declared.Connection.{Connection}
use Rattle.counting.proofs.Truth.{or_neither}
use Rattle.channels.specs.Promise.{given_refusal}

unknown-append : (n : ℕ) (l s : List ℕ) → unknown? n (l ++ s) ≡ false → (unknown? n l ≡ false) × (unknown? n s ≡ false)
unfolding unknown?
unknown-append n [] s e = (refl, e)
unknown-append n (v ∷ l) s e =
    let p = or_neither (leb n v) (unknown? n (l ++ s)) e in
    let q = unknown-append n l s p.1 in
    (ap₂ (λ (a b : Bool). a || b) p.0 q.0, q.1)

module _ (n : ℕ) (leads other : ℕ → ℕ → Bool) (same : (u v : ℕ) → u < n → v < n → leads u v ≡ other u v) where
  linked-same : (l : List ℕ) → unknown? n l ≡ false → linked leads l ≡ linked other l
  unfolding linked unknown?
  linked-same [] e = refl
  linked-same (x ∷ []) e = refl
  linked-same (x ∷ y ∷ l) e =
      let p = or_neither (leb n x) (leb n y || unknown? n l) e in
      let q = or_neither (leb n y) (unknown? n l) p.1 in
      ap₂ (λ (a b : Bool). a && b) (same x y (leb-false n x p.0) (leb-false n y q.0)) (linked-same (y ∷ l) p.1)

  pub all-linked-same : (ls : List (List ℕ)) → unknown? n (flatten ls) ≡ false → all_linked leads ls ≡ all_linked other ls
  unfolding every flatten
  all-linked-same [] e = refl
  all-linked-same (l ∷ ls) e =
      let p = unknown-append n l (flatten ls) e in
      ap₂ (λ (a b : Bool). a && b) (linked-same l p.0) (all-linked-same ls p.1)

-- given channels are refused alike
pub given-same : (n : ℕ) (ask other : ℕ → ℕ → Connection) → ((u v : ℕ) → u < n → v < n → ask u v ≡ other u v)
    → (field : List ℕ) → given_refusal ask n field ≡ given_refusal other n field
unfolding given_refusal broken?
given-same n ask other same field =
    ap (λ (k : ℕ). choose (unsized? n) (λ _. 2) (λ _. k))
    (go (unknown? n (vertices_of field)) (repeats? (vertices_of field))
    (all-linked-same n (leads ask) (leads other) (λ u v hu hv. ap (λ (a : Connection). leading? a) (same u v hu hv)) (lines_of field)))
  where
    leads : (ℕ → ℕ → Connection) → ℕ → ℕ → Bool
    leads a u v = leading? (a u v)

    rest : Bool → Bool → Bool → ℕ
    rest b c linked = choose b (λ _. 3) (λ _. choose c (λ _. 6) (λ _. choose (not linked) (λ _. 7) (λ _. 0)))

    go : (b c : Bool) → (b ≡ false → all_linked (leads ask) (lines_of field) ≡ all_linked (leads other) (lines_of field))
        → rest b c (all_linked (leads ask) (lines_of field)) ≡ rest b c (all_linked (leads other) (lines_of field))
    go true c f = refl
    go false c f = ap (rest false c) (f refl)
