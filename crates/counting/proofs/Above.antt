-- Laws of `above`. Assumes nothing.
use Rattle.counting.proofs.Prelude.{◌≡◌, refl, sym, ap, ap₂, ◌∙◌, ⊎_elim, Bool, true, false, false≢true, ℕ, zero, suc, ◌+◌, ◌≤◌, ◌<◌}
use Rattle.counting.proofs.Prelude.{max, arith}
use native.Mathlib.Nat.{not-suc-le-zero}
use native.Mathlib.Decide.{ℕ_discrete}
use native.Mathlib.Numerals.{add-one}
use Rattle.specification.specs.Count.{choose, above}
use Rattle.counting.proofs.Truth.{lt-or-le}

-- the term of one number
term_true : (b : Bool) (x : ℕ) → b ≡ true → choose b (λ _. suc x) (λ _. 0) ≡ suc x
term_true true x e = refl
term_true false x e = absurd (false≢true e)

-- each that passes is below
pub above_each : (n : ℕ) (test : ℕ → Bool) (f : ℕ → ℕ) (u : ℕ) → u < n → test u ≡ true → f u < above n test f
unfolding above
above_each zero test f u l e = absurd (not-suc-le-zero l)
above_each (suc n) test f u l e = go (ℕ_discrete u n) (λ h. above_each n test f u h e)
  where
    go : Dec (u ≡ n) → (u < n → f u < above n test f) → f u < max (above n test f) (choose (test n) (λ _. suc (f n)) (λ _. 0))
    go (yes q) r = let t = term_true (test n) (f n) (sym (ap test q) ∙ e) in omega (arith, ap f q)
    go (no q) r = omega (arith, r (omega arith))

-- where each that passes is below j, so is `above` at most j
pub above-le : (n : ℕ) (test : ℕ → Bool) (f : ℕ → ℕ) (j : ℕ) → ((u : ℕ) → u < n → test u ≡ true → f u < j) → above n test f ≤ j
unfolding above
above-le zero test f j h = omega arith
above-le (suc n) test f j h = go (test n) refl (above-le n test f j (λ u l e. h u (omega arith) e))
  where
    go : (b : Bool) → test n ≡ b → above n test f ≤ j → max (above n test f) (choose b (λ _. suc (f n)) (λ _. 0)) ≤ j
    go true e r = let k = h n (omega arith) e in omega arith
    go false e r = omega arith

-- some that passes reaches j
pub above_which : (n : ℕ) (test : ℕ → Bool) (f : ℕ → ℕ) (j : ℕ) → j < above n test f → (u : ℕ) × (u < n) × (test u ≡ true) × (j ≤ f u)
unfolding above
above_which zero test f j l = absurd (not-suc-le-zero l)
above_which (suc n) test f j l = go (test n) refl l (above_which n test f j)
  where
    go : (b : Bool) → test n ≡ b → j < max (above n test f) (choose b (λ _. suc (f n)) (λ _. 0))
        → (j < above n test f → (u : ℕ) × (u < n) × (test u ≡ true) × (j ≤ f u)) → (u : ℕ) × (u < suc n) × (test u ≡ true) × (j ≤ f u)
    go true e h ih =
        ⊎_elim
        (λ k. let r = ih k in (r.0, (let q = r.1 in omega arith), r.2, r.3))
        (λ k. (n, omega arith, e, omega arith))
        (lt-or-le j (above n test f))
    go false e h ih = let r = ih (omega arith) in (r.0, (let q = r.1 in omega arith), r.2, r.3)

-- equal tests and values, equal answers
pub above_ext : (n : ℕ) (test test' : ℕ → Bool) (f f' : ℕ → ℕ) → ((u : ℕ) → u < n → test u ≡ test' u)
    → ((u : ℕ) → u < n → test u ≡ true → f u ≡ f' u) → above n test f ≡ above n test' f'
unfolding above
above_ext zero test test' f f' t e = refl
above_ext (suc n) test test' f f' t e =
    ap₂ max (above_ext n test test' f f' (λ u l. t u (omega arith)) (λ u l. e u (omega arith)))
    (ap (λ (b : Bool). choose {A = ℕ} b (λ _. suc (f n)) (λ _. 0)) (t n (omega arith)) ∙ go (test' n) refl)
  where
    go : (b : Bool) → test' n ≡ b → choose {A = ℕ} b (λ _. suc (f n)) (λ _. 0) ≡ choose b (λ _. suc (f' n)) (λ _. 0)
    go true p = ap suc (e n (omega arith) (t n (omega arith) ∙ p))
    go false p = refl

-- ---- by steps

pub above_none : (test : ℕ → Bool) (f : ℕ → ℕ) → above 0 test f ≡ 0
unfolding above
above_none test f = refl

above-suc : (n : ℕ) (test : ℕ → Bool) (f : ℕ → ℕ) → above (n + 1) test f ≡ max (above n test f) (choose (test n) (λ _. suc (f n)) (λ _. 0))
unfolding above
above-suc n test f = ap (λ m. above m test f) (add-one n)

-- one more that passes, or not
pub above_more : (n : ℕ) (test : ℕ → Bool) (f : ℕ → ℕ) → test n ≡ true → above (n + 1) test f ≡ max (above n test f) (f n + 1)
above_more n test f e = above-suc n test f ∙ rw e (ap (max (above n test f)) (sym (add-one (f n))))

pub above_less : (n : ℕ) (test : ℕ → Bool) (f : ℕ → ℕ) → test n ≡ false → above (n + 1) test f ≡ above n test f
above_less n test f e = above-suc n test f ∙ rw e (omega arith)
