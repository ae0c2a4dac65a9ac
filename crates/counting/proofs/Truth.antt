-- Laws of truth values, and of the order of two numbers. Assumes nothing.
use Rattle.counting.proofs.Prelude.{◌≡◌, refl, ◌⊎◌, inl, inr, Bool, true, false, true≢false, false≢true, ◌&&◌, ◌||◌, ℕ, ◌≤◌, ◌<◌}
use Rattle.counting.proofs.Prelude.{arith}
use native.Mathlib.Decide.{dec_lt}
use Rattle.specification.specs.Count.{indicator}

pub lt-or-le : (m n : ℕ) → (m < n) ⊎ (n ≤ m)
lt-or-le m n = go (dec_lt m n)
  where
    go : Dec (m < n) → (m < n) ⊎ (n ≤ m)
    go (yes l) = inl l
    go (no d) = inr (omega arith)

pub true_or_false : (b : Bool) → (b ≡ true) ⊎ (b ≡ false)
true_or_false true = inl refl
true_or_false false = inr refl

-- two answers that are true together are the same
pub same_truth : (a b : Bool) → (a ≡ true → b ≡ true) → (b ≡ true → a ≡ true) → a ≡ b
same_truth true true f g = refl
same_truth true false f g = absurd (false≢true (f refl))
same_truth false true f g = absurd (false≢true (g refl))
same_truth false false f g = refl

pub and_intro : (a b : Bool) → a ≡ true → b ≡ true → (a && b) ≡ true
and_intro true b p q = q
and_intro false b p q = p

pub and_elim : (a b : Bool) → (a && b) ≡ true → (a ≡ true) × (b ≡ true)
and_elim true true e = (refl, refl)
and_elim true false e = absurd (false≢true e)
and_elim false b e = absurd (false≢true e)

pub or_left : (a b : Bool) → a ≡ true → (a || b) ≡ true
or_left true b e = refl
or_left false b e = absurd (false≢true e)

pub or_right : (a b : Bool) → b ≡ true → (a || b) ≡ true
or_right true b e = refl
or_right false b e = e

pub or_elim : (a b : Bool) → (a || b) ≡ true → (a ≡ true) ⊎ (b ≡ true)
or_elim true b e = inl refl
or_elim false b e = inr e

-- a disjunction that fails
pub or_neither : (a b : Bool) → (a || b) ≡ false → (a ≡ false) × (b ≡ false)
or_neither true b e = absurd (true≢false e)
or_neither false b e = (refl, e)

pub indicator-le : (b : Bool) → indicator b ≤ 1
indicator-le true = omega arith
indicator-le false = omega arith

-- a number below 2 is 0 or 1
pub two_cases : (b : ℕ) → b < 2 → (b ≡ 0) ⊎ (b ≡ 1)
two_cases b h = go (dec_lt 0 b)
  where
    go : Dec (0 < b) → (b ≡ 0) ⊎ (b ≡ 1)
    go (yes l) = inr (omega arith)
    go (no d) = inl (omega arith)
