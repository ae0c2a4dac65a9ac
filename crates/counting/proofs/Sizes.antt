-- What the tests of a graph's size say. Assumes nothing.
use Rattle.counting.proofs.Prelude.{◌≡◌, refl, ◌≢◌, Bool, true, false, ℕ, ◌≤◌, ◌<◌, arith, eqb, ltb, eq-eqb, ne_eqb, lt-ltb, le-ltb}
use Rattle.counting.proofs.Prelude.{eqb-false, ltb-false}
use Rattle.specification.specs.Count.{choose}
use Rattle.specification.specs.Graph.{unsized?, outsized?, size_refusal}
use Rattle.counting.proofs.Truth.{or_left, or_right, or_neither}

pub none_unsized : (n : ℕ) → n ≡ 0 → unsized? n ≡ true
unfolding unsized?
none_unsized n e = or_left (eqb n 0) (ltb 128 n) (eq-eqb n 0 e)

pub many_unsized : (n : ℕ) → 128 < n → unsized? n ≡ true
unfolding unsized?
many_unsized n l = or_right (eqb n 0) (ltb 128 n) (lt-ltb 128 n l)

pub sized : (n : ℕ) → n ≢ 0 → n ≤ 128 → unsized? n ≡ false
unfolding unsized?
sized n d l = rw (ne_eqb n 0 d, le-ltb 128 n l)

pub sized_back : (n : ℕ) → unsized? n ≡ false → (0 < n) × (n ≤ 128)
unfolding unsized?
sized_back n e = let p = or_neither (eqb n 0) (ltb 128 n) e in let z = eqb-false n 0 p.0 in (omega arith, ltb-false 128 n p.1)

-- with edges
pub outsized_back : (n m : ℕ) → outsized? n m ≡ false → (0 < n) × (n ≤ 128) × (m ≤ 4096)
unfolding outsized?
outsized_back n m e =
    let p = or_neither (unsized? n) (ltb 4096 m) e in
    let q = sized_back n p.0 in (q.0, q.1, ltb-false 4096 m p.1)

-- ---- the refusal by the number of vertices alone

pub size-refused : (n : ℕ) → unsized? n ≡ true → size_refusal n ≡ 2
unfolding size_refusal
size-refused n e = rw e

pub size-taken : (n : ℕ) → unsized? n ≡ false → size_refusal n ≡ 0
unfolding size_refusal
size-taken n e = rw e

pub size-passed : (n : ℕ) → size_refusal n ≡ 0 → unsized? n ≡ false
unfolding size_refusal
size-passed n e = go (unsized? n) e
  where
    go : (b : Bool) → ◌≡◌ {A = ℕ} (choose b (λ _. 2) (λ _. 0)) 0 → b ≡ false
    go true p = absurd (omega arith)
    go false p = refl
