-- What the bits of a graph's table say: the tests and the counts by them. Assumes nothing.
use Rattle.counting.proofs.Prelude.{◌≡◌, ap, ◌∙◌, ⊎_elim, ◌↔◌, List, ℕ, ◌*◌, ◌≤◌, ◌<◌, eqb, eq-eqb, eqb-true}
use native.Mathlib.Nat.{lt_of_lt_of_le}
use Rattle.specification.specs.Count.{indicator, sum, count}
use Rattle.specification.specs.Sets.{at, has?}
use Rattle.specification.specs.Graph.{Reaches, Longer, Edge, refusal, Reachable, reachable?}
use Rattle.counting.proofs.Truth.{same_truth, two_cases}
use Rattle.counting.proofs.Sums.{sum_ext}
use Rattle.masks.proofs.Tables.{at_lt}
use Rattle.reach.specs.Closure.{Composed}
use Rattle.reach.proofs.Routes.{longer_between, ends_below}
use Rattle.reach.proofs.Marking.{head_below}
use Rattle.reach.proofs.Decide.{reachable_decided}
use Rattle.reach.proofs.Refusing.{accepted-within}

-- the bits of a table with w masks a vertex are the graph's reachability
abbrev pub Bits : ℕ → ℕ → List ℕ → List ℕ → List ℕ → Type 0
Bits w n tails heads t = (u v : ℕ) → u < w * 64 → v < w * 64 → at w t u v ≡ 1 ↔ Reachable n tails heads u v

-- a bit by its test
pub test_value : (b : ℕ) → b < 2 → b ≡ indicator (eqb b 1)
test_value b l = ⊎_elim (λ e. rw e) (λ e. rw e) (two_cases b l)

module _ (w n : ℕ) (tails heads t : List ℕ) (bits : Bits w n tails heads t) where
  pub same_test : (u v : ℕ) → u < w * 64 → v < w * 64 → has? w t u v ≡ reachable? n tails heads u v
  unfolding has?
  same_test u v hu hv =
      same_truth (has? w t u v) (reachable? n tails heads u v)
      (λ e. (reachable_decided n tails heads u v).0 ((bits u v hu hv).0 (eqb-true _ _ e)))
      (λ e. eq-eqb _ _ ((bits u v hu hv).1 ((reachable_decided n tails heads u v).1 e)))

  pub same_bit : (u v : ℕ) → u < w * 64 → v < w * 64 → at w t u v ≡ indicator (reachable? n tails heads u v)
  unfolding has?
  same_bit u v hu hv = test_value (at w t u v) (at_lt w t u v) ∙ ap indicator (same_test u v hu hv)

  pub same_count : (u : ℕ) → u < w * 64 → sum (w * 64) (at w t u) ≡ count (w * 64) (reachable? n tails heads u)
  unfolding count
  same_count u hu = sum_ext (w * 64) (at w t u) (λ v. indicator (reachable? n tails heads u v)) (λ v hv. same_bit u v hu hv)

-- THE LONGER ROUTES: a graph's table followed by itself says which vertex reaches which by two edges or more
pub longer_bits : (w n : ℕ) (tails heads t r : List ℕ) → n ≤ w * 64 → refusal n tails heads ≡ 0 → Bits w n tails heads t → Composed w t r
    → (u v : ℕ) → u < w * 64 → v < w * 64 → at w r u v ≡ 1 ↔ Longer (Edge tails heads) u v
longer_bits w n tails heads t r small accepted bits composed u v hu hv = (
  (λ e. let p = (composed.bits u v hu hv).0 e in
      longer_between.1 (p.0, ((bits u p.0 hu p.1).0 p.2).1, ((bits p.0 v p.1 hv).0 p.3).1)),
  λ l. let b = longer_between.0 l in
      let hx = below b.0 b.1 in
      (composed.bits u v hu hv).1 (b.0, hx, (bits u b.0 hu hx).1 (accepted, b.1), (bits b.0 v hx hv).1 (accepted, b.2)),
)
  where
    below : (x : ℕ) → Reaches (Edge tails heads) u x → x < w * 64
    below x p = lt_of_lt_of_le (ends_below (head_below w tails heads n (accepted-within n tails heads accepted).0) p) small
