-- One coordinate of a point of a segment: x is the mean of a and b with weights r and s. Assumes nothing.
use Rattle.counting.proofs.Prelude.{◌≡◌, ap, ⊎_elim, ℕ, ◌+◌, ◌*◌, ◌≤◌, ◌<◌, arith}
use native.Mathlib.Nat.{eq-zero-or-pos, le_antisymm, le_of_mul-le-mul_left, mul-le-mul_left}
use Rattle.specification.specs.Geometry.{left, right}

cancel : (k m n : ℕ) → 0 < k → k * m ≡ k * n → m ≡ n
cancel k m n h e =
    le_antisymm (le_of_mul-le-mul_left {m = m} {n = n} {k = k} (omega arith) h)
    (le_of_mul-le-mul_left {m = n} {n = m} {k = k} (omega arith) h)

module _ (r s a b x : ℕ) (some : 0 < r + s) (e : (r + s) * x ≡ r * a + s * b) where
  pub mean_swap : (s + r) * x ≡ s * b + r * a
  mean_swap = omega arith

  -- the mean lies between
  pub mean_low : a ≤ b → a ≤ x
  mean_low h = le_of_mul-le-mul_left {m = a} {n = x} {k = r + s} (omega (arith, mul-le-mul_left s h)) some

  pub mean_high : a ≤ b → x ≤ b
  mean_high h = le_of_mul-le-mul_left {m = x} {n = b} {k = r + s} (omega (arith, mul-le-mul_left r h)) some

  -- weight on one end only
  pub mean_first : s ≡ 0 → x ≡ a
  mean_first z = cancel r x a (omega arith) (omega (arith, rw z at e))

  -- and back, where the ends differ
  pub first_mean : (a ≡ b → ⊥) → x ≡ a → s ≡ 0
  first_mean ne z = ⊎_elim (λ h. h) (λ h. absurd (ne (cancel s a b h (omega (arith, rw z at e))))) (eq-zero-or-pos s)

-- Weights by a rising coordinate serve for the other one: y = t + p lies p above t and q below the top.
-- A multiple of either pair of weights is a multiple of the other.
pub mean_other : (r s p q t a b x : ℕ) → 0 < r + s → (r + s) * x ≡ r * a + s * b → (r + s) * (t + p) ≡ r * t + s * (t + p + q)
    → (q + p) * x ≡ q * a + p * b
mean_other r s p q t a b x some e f =
    let g : r * p ≡ s * q = omega arith in
    cancel (r + s) ((q + p) * x) (q * a + p * b) some
    (omega (arith, ap (λ (y : ℕ). (q + p) * y) e, ap (λ (y : ℕ). y * a) g, ap (λ (y : ℕ). y * b) g))

-- The test by products says the same, with u and v for the heights of the point and of the segment's upper end.
module _ (a b x t p q u v : ℕ) (hu : u ≡ t + p) (hv : v ≡ t + p + q) where
  pub mean_products : (q + p) * x ≡ q * a + p * b → left a t b v x u ≡ right a t b v x u
  mean_products e = rw (hu, hv) (omega arith)

  pub products_mean : left a t b v x u ≡ right a t b v x u → (q + p) * x ≡ q * a + p * b
  products_mean e = omega (arith, rw (hu, hv) at e)

  -- the height itself is a mean with these weights
  pub mean_height : (q + p) * u ≡ q * t + p * v
  mean_height = rw (hu, hv) (omega arith)
