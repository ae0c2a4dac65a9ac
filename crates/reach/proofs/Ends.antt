-- The edges of bytes, two an edge. Assumes nothing.
use Rattle.counting.proofs.Prelude.{◌≡◌, refl, ap, ◌∙◌, List, [], ◌∷◌, ℕ, zero, suc, ◌+◌, ◌*◌, ◌/◌, arith, length, get_or, drop}
use Rattle.counting.proofs.Prelude.{length-drop}
use lib.Seq.{get_or-drop}
use Rattle.specification.specs.Graph.{edge_count, alternate, tails_of, heads_of}

pub alternate-at : (s : List ℕ) (i : ℕ) → get_or (alternate s) i 0 ≡ get_or s (2 * i) 0
unfolding alternate
alternate-at [] i = refl
alternate-at (x ∷ []) zero = refl
alternate-at (x ∷ []) (suc i) = ap (λ (j : ℕ). get_or (x ∷ []) j 0) (let e : suc (suc (2 * i)) ≡ 2 * suc i = omega arith in e)
alternate-at (x ∷ y ∷ s) zero = refl
alternate-at (x ∷ y ∷ s) (suc i) =
    alternate-at s i ∙ ap (λ (j : ℕ). get_or (x ∷ y ∷ s) j 0) (let e : suc (suc (2 * i)) ≡ 2 * suc i = omega arith in e)

pub alternate-length : (s : List ℕ) → length (alternate s) ≡ (length s + 1) / 2
unfolding alternate
alternate-length [] = refl
alternate-length (x ∷ []) = refl
alternate-length (x ∷ y ∷ s) = let h = alternate-length s in omega arith

module _ (s : List ℕ) (i : ℕ) where
  pub tail_at : get_or (tails_of s) i 0 ≡ get_or s (2 * i) 0
  unfolding tails_of
  tail_at = alternate-at s i

  pub head_at : get_or (heads_of s) i 0 ≡ get_or s (2 * i + 1) 0
  unfolding heads_of
  head_at =
      alternate-at (drop 1 s) i ∙ get_or-drop 1 s (2 * i) 0
      ∙ ap (λ (j : ℕ). get_or s j 0) (let e : 1 + 2 * i ≡ 2 * i + 1 = omega arith in e)

-- half as many edges as bytes; a last byte alone is none
pub ends-counted : (s : List ℕ) → edge_count (tails_of s) (heads_of s) ≡ length s / 2
unfolding tails_of heads_of
ends-counted s =
    let t = alternate-length s in
    let h = alternate-length (drop 1 s) in
    let d = length-drop 1 s in
    omega arith
