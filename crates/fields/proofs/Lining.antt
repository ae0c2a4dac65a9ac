-- Channels are read byte by byte. Assumes nothing.
use Rattle.counting.proofs.Prelude.{◌≡◌, refl, sym, ap, ◌∙◌, false, List, [], ◌∷◌, ℕ, zero, suc, ◌+◌, ◌-◌, ◌≤◌, ◌<◌, arith, eqb, length}
use Rattle.counting.proofs.Prelude.{get_or}
use Rattle.counting.proofs.Prelude.{drop, drop_of_length-le, ne_eqb}
use Rattle.specification.specs.Layout.{lined}
use Rattle.specification.proofs.Placing.{byte}

-- at the byte at i, so many vertices are to come
module _ (left : ℕ) (b : List ℕ) (i : ℕ) (h : i < length b) where
  next : lined left (drop i b) ≡ lined left (get_or b i 0 ∷ drop (i + 1) b)
  next = ap (lined left) (byte b i (i + 1) refl h)

  -- a vertex of a channel
  pub lined_goes : 0 < left → lined left (drop i b) ≡ lined (left - 1) (drop (i + 1) b)
  unfolding lined
  lined_goes g = next ∙ go left g
    where
      go : (k : ℕ) → 0 < k → lined k (get_or b i 0 ∷ drop (i + 1) b) ≡ lined (k - 1) (drop (i + 1) b)
      go zero z = absurd (omega arith)
      go (suc k) z = ap (λ (j : ℕ). lined j (drop (i + 1) b)) (let e : k ≡ suc k - 1 = omega arith in e)

  -- a channel of k begins
  pub lined_begins : left ≤ 0 → 0 < get_or b i 0 → lined left (drop i b) ≡ lined (get_or b i 0) (drop (i + 1) b)
  unfolding lined
  lined_begins z g = next ∙ go left (get_or b i 0) z g
    where
      go : (j k : ℕ) → j ≤ 0 → 0 < k → lined j (k ∷ drop (i + 1) b) ≡ lined k (drop (i + 1) b)
      go zero (suc k) x y = refl
      go zero zero x y = absurd (omega arith)
      go (suc j) k x y = absurd (omega arith)

  -- a channel of no vertex
  pub lined_empty : left ≤ 0 → get_or b i 0 ≤ 0 → lined left (drop i b) ≡ false
  unfolding lined
  lined_empty z g = next ∙ go left (get_or b i 0) z g
    where
      go : (j k : ℕ) → j ≤ 0 → k ≤ 0 → lined j (k ∷ drop (i + 1) b) ≡ false
      go zero zero x y = refl
      go zero (suc k) x y = absurd (omega arith)
      go (suc j) k x y = absurd (omega arith)

-- the end: no vertex is to come
pub lined_ends : (left : ℕ) (b : List ℕ) (i : ℕ) → length b ≤ i → lined left (drop i b) ≡ eqb left 0
unfolding lined
lined_ends left b i h = ap (lined left) (drop_of_length-le b h) ∙ go left
  where
    go : (k : ℕ) → lined k [] ≡ eqb k 0
    go zero = refl
    go (suc k) = sym (ne_eqb (suc k) 0 (λ e. omega arith))
