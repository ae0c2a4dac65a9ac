-- Laws of `different_in`; nothing else opens it. Assumes nothing.
use Rattle.counting.proofs.Prelude.{◌≡◌, refl, sym, ap, ap₂, ◌∙◌, ◌⊎◌, inl, inr, Bool, true, false, true≢false, not, ◌&&◌, ◌||◌, ℕ, zero}
use Rattle.counting.proofs.Prelude.{suc, ◌+◌, ◌≤◌, ◌<◌, arith, eqb, eq-eqb, ne_eqb, eqb-true, not-true}
use native.Mathlib.Decide.{ℕ_discrete, dec_lt}
use Rattle.specification.specs.Count.{indicator, sum, count, some}
use Rattle.counting.proofs.Truth.{and_intro, and_elim}
use Rattle.counting.proofs.Somes.{some_found, some_which, some_ext}
use Rattle.counting.proofs.Sums.{sum_mono, count_ext}
use Rattle.counting.proofs.Classes.{indicator_mono, sum_one, sum-change, at_most_one, count_classes}
use Rattle.specification.specs.Tracks.{different_in}

-- ---- different values

-- indices that pass the test, with values that are all different, are no more than the different values
pub different_least : (n : ℕ) (test : ℕ → Bool) (f : ℕ → ℕ) (S : ℕ → Bool) → ((i : ℕ) → i < n → S i ≡ true → test i ≡ true)
    → ((i j : ℕ) → i < n → j < n → S i ≡ true → S j ≡ true → f i ≡ f j → i ≡ j) → count n S ≤ different_in n test f
unfolding sum count different_in
different_least zero test f S sub inj = omega arith
different_least (suc n) test f S sub inj =
    go (S n) refl (some n (λ j. test j && eqb (f j) (f n))) refl (λ T q h. different_least n test f T q h)
  where
    inj' : (i j : ℕ) → i < n → j < n → S i ≡ true → S j ≡ true → f i ≡ f j → i ≡ j
    inj' i j a b = inj i j (omega arith) (omega arith)

    sub' : (i : ℕ) → i < n → S i ≡ true → test i ≡ true
    sub' i a = sub i (omega arith)

    counted : S n ≡ true → indicator (test n && not (some n (λ j. test j && eqb (f j) (f n))))
        ≡ indicator (not (some n (λ j. test j && eqb (f j) (f n))))
    counted e = ap (λ b. indicator (b && not (some n (λ j. test j && eqb (f j) (f n))))) (sub n (omega arith) e)

    -- the value of n stands before, at k, which is not in S: k for n
    moved : S n ≡ true → (k : ℕ) → k < n → test k ≡ true → f k ≡ f n
        → ((T : ℕ → Bool) → ((i : ℕ) → i < n → T i ≡ true → test i ≡ true)
        → ((i j : ℕ) → i < n → j < n → T i ≡ true → T j ≡ true → f i ≡ f j → i ≡ j) → count n T ≤ different_in n test f)
        → count n S + 1 ≤ different_in n test f
    moved s k l tk e ih = out (S k) refl
      where
        T : ℕ → Bool
        T i = eqb i k || S i

        cases : (i : ℕ) → T i ≡ true → (i ≡ k) ⊎ (S i ≡ true)
        cases i t = at (ℕ_discrete i k)
          where
            at : Dec (i ≡ k) → (i ≡ k) ⊎ (S i ≡ true)
            at (yes q) = inl q
            at (no q) = inr (sym (ap (λ b. b || S i) (ne_eqb i k q)) ∙ t)

        sub_t : (i : ℕ) → i < n → T i ≡ true → test i ≡ true
        sub_t i a t = at (cases i t)
          where
            at : (i ≡ k) ⊎ (S i ≡ true) → test i ≡ true
            at (inl x) = ap test x ∙ tk
            at (inr x) = sub i (omega arith) x

        inj_t : (i j : ℕ) → i < n → j < n → T i ≡ true → T j ≡ true → f i ≡ f j → i ≡ j
        inj_t i j a b s₁ s₂ q = at (cases i s₁) (cases j s₂)
          where
            at : (i ≡ k) ⊎ (S i ≡ true) → (j ≡ k) ⊎ (S j ≡ true) → i ≡ j
            at (inl x) (inl y) = x ∙ sym y
            at (inl x) (inr y) = absurd (let z : j ≡ n = inj j n (omega arith) (omega arith) y s (sym q ∙ ap f x ∙ e) in omega arith)
            at (inr x) (inl y) = absurd (let z : i ≡ n = inj i n (omega arith) (omega arith) x s (q ∙ ap f y ∙ e) in omega arith)
            at (inr x) (inr y) = inj' i j a b x y q

        out : (b : Bool) → S k ≡ b → count n S + 1 ≤ different_in n test f
        out true p = absurd (let z : k ≡ n = inj k n (omega arith) (omega arith) p s e in omega arith)
        out false p =
            let t : indicator (T k) ≡ 1 = ap (λ b. indicator (b || S k)) (eq-eqb k k refl) in
            let d : count n T + indicator (S k) ≡ count n S + indicator (T k) =
            sum-change n (λ i. indicator (T i)) (λ i. indicator (S i)) k l (λ j m. ap (λ b. indicator (b || S j)) (ne_eqb j k m)) in
            omega (arith, ap indicator p, ih T sub_t inj_t)

    go : (b : Bool) → S n ≡ b → (o : Bool) → some n (λ j. test j && eqb (f j) (f n)) ≡ o
        → ((T : ℕ → Bool) → ((i : ℕ) → i < n → T i ≡ true → test i ≡ true)
        → ((i j : ℕ) → i < n → j < n → T i ≡ true → T j ≡ true → f i ≡ f j → i ≡ j) → count n T ≤ different_in n test f)
        → count n S + indicator (S n) ≤ different_in n test f + indicator (test n && not (some n (λ j. test j && eqb (f j) (f n))))
    go false e o p ih = omega (arith, ap indicator e, ih S sub' inj')
    go true e false p ih = omega (arith, ap indicator e, counted e, ap (λ b. indicator (not b)) p, ih S sub' inj')
    go true e true p ih =
        let w = some_which n (λ j. test j && eqb (f j) (f n)) p in
        let x = and_elim (test w.0) (eqb (f w.0) (f n)) w.2 in
        omega (arith, ap indicator e, counted e, ap (λ b. indicator (not b)) p, moved e w.0 w.1 x.0 (eqb-true _ _ x.1) ih)

-- values below m: at most m different ones
pub different_below : (n m : ℕ) (test : ℕ → Bool) (f : ℕ → ℕ) → ((i : ℕ) → i < n → test i ≡ true → f i < m) → different_in n test f ≤ m
unfolding different_in
different_below n m test f l = omega (
  arith,
  count_classes n m new f (λ w a t. l w a (passes w t)),
  sum_mono m (λ q. count n (λ w. new w && eqb (f w) q)) (λ q. 1) (λ q k. at_most_one n (λ w. new w && eqb (f w) q) (only q)),
  sum_one m,
)
  where
    new : ℕ → Bool
    new i = test i && not (some i (λ j. test j && eqb (f j) (f i)))

    passes : (i : ℕ) → new i ≡ true → test i ≡ true
    passes i t = (and_elim (test i) (not (some i (λ j. test j && eqb (f j) (f i)))) t).0

    -- a value stands first at one place only
    once : (i j : ℕ) → i < j → f i ≡ f j → new i ≡ true → new j ≡ true → ⊥
    once i j a e s t = true≢false (
        sym (some_found j (λ k. test k && eqb (f k) (f j)) i a (and_intro (test i) (eqb (f i) (f j)) (passes i s) (eq-eqb (f i) (f j) e)))
        ∙ not-true (some j (λ k. test k && eqb (f k) (f j))) (and_elim (test j) (not (some j (λ k. test k && eqb (f k) (f j)))) t).1
        )

    only : (q i j : ℕ) → i < n → j < n → (new i && eqb (f i) q) ≡ true → (new j && eqb (f j) q) ≡ true → i ≡ j
    only q i j a b s t =
        let s' = and_elim (new i) (eqb (f i) q) s in
        let t' = and_elim (new j) (eqb (f j) q) t in
        go (ℕ_discrete i j) (dec_lt i j) (eqb-true (f i) q s'.1 ∙ sym (eqb-true (f j) q t'.1)) s'.0 t'.0
      where
        go : Dec (i ≡ j) → Dec (i < j) → f i ≡ f j → new i ≡ true → new j ≡ true → i ≡ j
        go (yes x) d e u v = x
        go (no x) (yes d) e u v = absurd (once i j d e u v)
        go (no x) (no d) e u v = absurd (once j i (omega arith) (sym e) v u)

-- no more different values than indices that pass
pub different_count : (n : ℕ) (test : ℕ → Bool) (f : ℕ → ℕ) → different_in n test f ≤ count n test
unfolding different_in count
different_count n test f =
    sum_mono n (λ i. indicator (test i && old i)) (λ i. indicator (test i))
    (λ i l. indicator_mono (test i && old i) (test i) (λ e. (and_elim (test i) (old i) e).0))
  where
    old : ℕ → Bool
    old i = not (some i (λ j. test j && eqb (f j) (f i)))

-- the same values at the first n, the same number of different ones
pub different_ext : (n : ℕ) (test test' : ℕ → Bool) (f f' : ℕ → ℕ) → ((i : ℕ) → i < n → test i ≡ test' i) → ((i : ℕ) → i < n → f i ≡ f' i)
    → different_in n test f ≡ different_in n test' f'
unfolding different_in
different_ext n test test' f f' t e =
    count_ext n _ _ (λ i l. ap₂ (λ a b. a && not b) (t i l)
    (some_ext i _ _ (λ j h. ap₂ (λ a b. a && b) (t j (omega arith)) (ap₂ eqb (e j (omega arith)) (e i l)))))
