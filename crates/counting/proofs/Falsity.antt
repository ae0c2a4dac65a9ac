-- Laws of what is false, and of a test of a number below 2. Assumes nothing.
use Rattle.counting.proofs.Prelude.{◌≡◌, refl, ◌⊎◌, inl, inr, Bool, true, false, ◌||◌, ℕ, ◌<◌, max, eqb}
use Rattle.counting.proofs.Truth.{two_cases}

pub not-true : (b : Bool) → (b ≡ true → ⊥) → b ≡ false
not-true true h = absurd (h refl)
not-true false h = refl

pub neither : (a b : Bool) → a ≡ false → b ≡ false → (a || b) ≡ false
neither a b p q = rw (p, q)

pub or-false : (a : Bool) → (a || false) ≡ a
or-false true = refl
or-false false = refl

-- the larger of two bits is set where one of them is
pub max-test : (a b : ℕ) → a < 2 → b < 2 → eqb (max a b) 1 ≡ (eqb a 1 || eqb b 1)
max-test a b ha hb = go (two_cases a ha) (two_cases b hb)
  where
    go : (a ≡ 0) ⊎ (a ≡ 1) → (b ≡ 0) ⊎ (b ≡ 1) → eqb (max a b) 1 ≡ (eqb a 1 || eqb b 1)
    go (inl p) (inl q) = rw (p, q)
    go (inl p) (inr q) = rw (p, q)
    go (inr p) (inl q) = rw (p, q)
    go (inr p) (inr q) = rw (p, q)
