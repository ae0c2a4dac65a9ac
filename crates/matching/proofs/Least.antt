-- No division of the vertices into parts by `leads` has fewer parts than vertices are without predecessor. Assumes nothing.
use Rattle.counting.proofs.Prelude.{◌≡◌, refl, sym, ap, ◌∙◌, subst, ⊎_elim, Bool, true, false, true≢false, not, ◌&&◌, List, ℕ, ◌+◌, ◌≤◌}
use Rattle.counting.proofs.Prelude.{◌<◌, arith, eqb, leb, lt-ltb, leb-true, le-leb, lt-leb, eqb-true, not-true, ne_eqb}
use native.Mathlib.Decide.{ℕ_discrete, dec_lt}
use Rattle.specification.specs.Count.{indicator, sum, count}
use Rattle.specification.specs.Planning.{begins, Held, predecessor_of, none?, is?}
use Rattle.counting.proofs.Truth.{and_elim}
use Rattle.counting.proofs.Sums.{sum_ext, sum_mono}
use Rattle.counting.proofs.Classes.{sum-add, sum_swap, one_of, count_positive, count_classes, indicator-and-le, apart_fit}
use Rattle.matching.specs.Division.{Division}
use Rattle.matching.proofs.Kept.{held_by}
use Rattle.matching.proofs.Closed.{Into}
use Rattle.matching.proofs.Asked.{Asked}
use mathlib.Core.Option.{Option, none, some}

-- a set of vertices, no two of which lead to one another, is no larger than a division
pub antichain_fits : (leads : ℕ → ℕ → Bool) (n m : ℕ) (part : ℕ → ℕ) → Division leads n m part → (A : ℕ → Bool)
    → ((a b : ℕ) → a < n → b < n → A a ≡ true → A b ≡ true → leads a b ≡ true → ⊥)
    → count n A ≤ m
antichain_fits leads n m part p A anti = apart_fit n m A part (λ w l t. p.below w l) one
  where
    one : (i j : ℕ) → i < n → j < n → A i ≡ true → A j ≡ true → part i ≡ part j → i ≡ j
    one i j a b s t q = go (ℕ_discrete i j)
      where
        go : Dec (i ≡ j) → i ≡ j
        go (yes e) = e
        go (no e) = absurd (⊎_elim (anti i j a b s t) (anti j i b a t s) (p.related i j a b e q))

-- a predecessor as a number; n where there is none
owner : ℕ → Option ℕ → ℕ
owner n none = n
owner n (some p) = p

owner_is : (n a : ℕ) → a < n → (m : Option ℕ) → is? a m ≡ eqb (owner n m) a
unfolding is? owner
owner_is n a l none = sym (ne_eqb n a (λ e. omega arith))
owner_is n a l (some p) = refl

module _ (leads : ℕ → ℕ → Bool) (n : ℕ) (held : List Held) (q : Asked leads n n held) where
  abbrev at : ℕ → ℕ
  at v = owner n (predecessor_of held v)

  held_at : (a : ℕ) → a < n → held_by n a held ≡ sum n (λ v. indicator (eqb (at v) a))
  unfolding held_by count
  held_at a l =
      sum_ext n (λ v. indicator (is? a (predecessor_of held v))) (λ v. indicator (eqb (at v) a))
      (λ v m. ap indicator (owner_is n a l (predecessor_of held v)))

  -- no predecessor: no number below n
  begins_out : (v : ℕ) → indicator (begins n held v) ≡ indicator (leb n (at v))
  unfolding begins none? owner
  begins_out v = go (predecessor_of held v) refl
    where
      go : (m : Option ℕ) → predecessor_of held v ≡ m → indicator (none? m) ≡ indicator (leb n (owner n m))
      go none e = sym (ap indicator (le-leb n n (omega arith)))
      go (some p) e = sym (ap indicator (lt-leb n p (q.sound v p e).0))

  -- as many channels begin as vertices failed
  begins_failed : count n (begins n held) ≡ count n q.failed
  unfolding count
  begins_failed =
      let e0 : sum n (λ v. indicator (begins n held v)) ≡ sum n (λ v. indicator (leb n (at v))) =
      sum_ext n (λ v. indicator (begins n held v)) (λ v. indicator (leb n (at v))) (λ v l. begins_out v) in
      let e1 : sum n (λ v. sum n (λ a. indicator (eqb (at v) a)))
      ≡ sum n (λ a. sum n (λ v. indicator (eqb (at v) a))) = sum_swap n n (λ v a. indicator (eqb (at v) a)) in
      let e2 : sum n (λ v. sum n (λ a. indicator (eqb (at v) a)) + indicator (leb n (at v)))
      ≡ sum n (λ v. 1) =
      sum_ext n (λ v. sum n (λ a. indicator (eqb (at v) a)) + indicator (leb n (at v))) (λ v. 1) (λ v l. one_of n (at v)) in
      let e3 : sum n (λ a. sum n (λ v. indicator (eqb (at v) a)) + indicator (q.failed a)) ≡ sum n (λ a. 1) =
      sum_ext n (λ a. sum n (λ v. indicator (eqb (at v) a)) + indicator (q.failed a)) (λ v. 1)
      (λ a l. ap (λ x. x + indicator (q.failed a)) (sym (held_at a l)) ∙ q.each a l ∙ ap indicator (lt-ltb a n l)) in
      omega (
        arith,
        e0,
        e1,
        e2,
        e3,
        sum-add n (λ v. sum n (λ a. indicator (eqb (at v) a))) (λ v. indicator (leb n (at v))),
        sum-add n (λ a. sum n (λ v. indicator (eqb (at v) a))) (λ a. indicator (q.failed a)),
      )

  -- of how many vertices of S is a the predecessor
  abbrev of_s : ℕ → ℕ
  of_s a = count n (λ v. q.S v && eqb (at v) a)

  -- a failed or is the predecessor of a vertex of S, and is no vertex of S itself
  abbrev A : ℕ → Bool
  A a = leb 1 (indicator (q.failed a) + of_s a) && not (q.S a)

  at_most : (a : ℕ) → a < n → indicator (q.failed a) + of_s a ≤ 1
  unfolding count
  at_most a l = omega (
    arith,
    q.each a l,
    held_at a l,
    ap indicator (lt-ltb a n l),
    sum_mono n (λ v. indicator (q.S v && eqb (at v) a)) (λ v. indicator (eqb (at v) a)) (λ v m. indicator-and-le (q.S v) (eqb (at v) a)),
  )

  covers : (a : ℕ) → a < n → indicator (q.failed a) + of_s a ≤ indicator (q.S a) + indicator (A a)
  covers a l = go (q.S a) refl (dec_lt 0 (indicator (q.failed a) + of_s a))
    where
      go : (b : Bool) → q.S a ≡ b → Dec (0 < indicator (q.failed a) + of_s a)
          → indicator (q.failed a) + of_s a ≤ indicator (q.S a) + indicator (A a)
      go true e d = omega (arith, at_most a l, ap indicator e)
      go false e (no d) = omega arith
      go false e (yes d) = rw e (rw (le-leb 1 (indicator (q.failed a) + of_s a) d) (omega (arith, at_most a l)))

  enough : count n q.failed ≤ count n A
  unfolding count owner
  enough = omega (
    arith,
    sum_mono n (λ a. indicator (q.failed a) + of_s a) (λ a. indicator (q.S a) + indicator (A a)) covers,
    sum-add n (λ a. indicator (q.failed a)) of_s,
    sum-add n (λ a. indicator (q.S a)) (λ a. indicator (A a)),
    count_classes n n q.S at (λ v l t. let c = q.closed v l t in subst (λ m. owner n m < n) (sym c.1) (q.sound v c.0 c.1).0),
  )

  -- the predecessor a of a vertex of S leads only to vertices of S
  from : {a : ℕ} (v : ℕ) → v < n → q.S v ≡ true → at v ≡ a → Into leads n q.S a
  unfolding owner
  from v l t e = let c = q.closed v l t in subst (Into leads n q.S) (sym (ap (owner n) c.1) ∙ e) c.2

  leads_in : (a : ℕ) → a < n → A a ≡ true → Into leads n q.S a
  leads_in a l t = go (q.failed a) refl
    where
      go : (b : Bool) → q.failed a ≡ b → Into leads n q.S a
      go true e = q.into a l e
      go false e =
          let t' : (leb 1 (indicator (q.failed a) + of_s a) ≡ true)
          × (not (q.S a) ≡ true) = and_elim (leb 1 (indicator (q.failed a) + of_s a)) (not (q.S a)) t in
          let w : (v : ℕ) × (v < n) × ((q.S v && eqb (at v) a) ≡ true) =
          count_positive n (λ v. q.S v && eqb (at v) a)
          (omega (arith, leb-true 1 (indicator (q.failed a) + of_s a) t'.0, ap indicator e)) in
          let b : (q.S w.0 ≡ true) × (eqb (at w.0) a ≡ true) = and_elim (q.S w.0) (eqb (at w.0) a) w.2 in
          from w.0 w.1 b.0 (eqb-true (at w.0) a b.1)

  apart : (a b : ℕ) → a < n → b < n → A a ≡ true → A b ≡ true → leads a b ≡ true → ⊥
  apart a b l m s t e =
      let o : not (q.S b) ≡ true = (and_elim (leb 1 (indicator (q.failed b) + of_s b)) (not (q.S b)) t).1 in
      true≢false (sym (leads_in a l s b m e) ∙ not-true (q.S b) o)

  pub least-begins : (m : ℕ) (part : ℕ → ℕ) → Division leads n m part → count n (begins n held) ≤ m
  least-begins m part p = omega (arith, begins_failed, enough, antichain_fits leads n m part p A apart)
