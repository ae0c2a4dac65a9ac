-- Laws of `some`. Assumes nothing.
use Rattle.counting.proofs.Prelude.{◌≡◌, refl, ap, ◌∙◌, Bool, true, false, false≢true, ◌||◌, ℕ, zero, suc, ◌<◌, arith}
use native.Mathlib.Nat.{not-suc-le-zero}
use native.Mathlib.Decide.{ℕ_discrete}
use Rattle.specification.specs.Count.{some}

-- one passes the test
pub some_found : (n : ℕ) (f : ℕ → Bool) (i : ℕ) → i < n → f i ≡ true → some n f ≡ true
unfolding some
some_found zero f i l e = absurd (not-suc-le-zero l)
some_found (suc n) f i l e = go (ℕ_discrete n i) (some n f) (λ m. some_found n f i m e)
  where
    go : Dec (n ≡ i) → (b : Bool) → (i < n → b ≡ true) → (b || f n) ≡ true
    go d true r = refl
    go (yes q) false r = ap f q ∙ e
    go (no q) false r = absurd (false≢true (r (omega arith)))

-- none passes the test
pub some_none : (n : ℕ) (f : ℕ → Bool) → ((i : ℕ) → i < n → f i ≡ false) → some n f ≡ false
unfolding some
some_none zero f e = refl
some_none (suc n) f e = rw (some_none n f (λ i l. e i (omega arith))) (e n (omega arith))

-- which one passes
pub some_which : (n : ℕ) (f : ℕ → Bool) → some n f ≡ true → (i : ℕ) × (i < n) × (f i ≡ true)
unfolding some
some_which zero f e = absurd (false≢true e)
some_which (suc n) f e = go (some n f) refl (some_which n f) e
  where
    go : (b : Bool) → some n f ≡ b → (some n f ≡ true → (i : ℕ) × (i < n) × (f i ≡ true)) → (b || f n) ≡ true
        → (i : ℕ) × (i < suc n) × (f i ≡ true)
    go true p ih q = let r = ih p in (r.0, omega (arith, r.1), r.2)
    go false p ih q = (n, omega arith, q)

-- the same test, the same answer
pub some_ext : (n : ℕ) (f g : ℕ → Bool) → ((i : ℕ) → i < n → f i ≡ g i) → some n f ≡ some n g
unfolding some
some_ext zero f g e = refl
some_ext (suc n) f g e = rw (some_ext n f g (λ i l. e i (omega arith))) (ap (λ b. some n g || b) (e n (omega arith)))
