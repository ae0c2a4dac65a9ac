-- The loop over vertices: who asked. Assumes nothing.
use Rattle.counting.proofs.Prelude.{◌≡◌, sym, ap, ◌∙◌, subst, Bool, List, ℕ, suc, ◌+◌, ◌-◌, ◌≤◌, ◌<◌, min, arith, replicate}
use native.Mathlib.Numerals.{add-one}
use Rattle.specification.specs.Planning as rule
use Rattle.search.specs.Tabled.{Tabled}
use Rattle.search.specs.Steps.Coded.{nobody, fresh, asks, matching}
use Rattle.search.specs.Steps.Search.{state, Augments}
use Rattle.search.proofs.Steps.{unvisited-le}
use Rattle.search.proofs.Coding.{matching_tabled}

module _ (leads : ℕ → ℕ → Bool) (n : ℕ) where
  pub ask_none : matching leads n ≡ asks leads n (n - 0) 0 (replicate 128 nobody)
  unfolding matching
  ask_none = ap (λ j. asks leads n j 0 (replicate 128 nobody)) (let e : n ≡ n - 0 = omega arith in e)

  pub ask-more : (h : ℕ) (P P' T' : List ℕ) (b : Bool) → h < n → Augments leads n h (fresh P) (state P' T' b)
      → asks leads n (n - h) h P ≡ asks leads n (n - (h + 1)) (h + 1) P'
  unfolding asks
  ask-more h P P' T' b l g =
      ap (λ j. asks leads n j h P) (let e : n - h ≡ suc (n - (h + 1)) = omega arith in e)
      ∙ ap (λ x. asks leads n (n - (h + 1)) (suc h) x.predecessor) (sym (g.same (suc n) (omega (arith, unvisited-le n (fresh P)))))
      ∙ ap (λ j. asks leads n (n - (h + 1)) j P') (sym (add-one h))

  -- all have asked: the table has the predecessors of the rule
  pub ask-all : (m h : ℕ) (P : List ℕ) → n ≤ h → n ≡ min m 128 → matching leads n ≡ asks leads n (n - h) h P
      → Tabled (rule.matching leads (min m 128)) P
  unfolding asks
  ask-all m h P l e q =
      let p : matching leads n ≡ P = q ∙ ap (λ j. asks leads n j h P) (let z : n - h ≡ 0 = omega arith in z) in
      subst (λ k. Tabled (rule.matching leads k) P) e (subst (Tabled (rule.matching leads n)) p (matching_tabled n (omega arith) leads))
