-- A table of the edges seen so far tells whether the next stands among them. Assumes nothing.
use Rattle.counting.proofs.Prelude.{◌≡◌, sym, ap₂, ◌∙◌, ⊎_elim, true, false, List, ℕ, ◌*◌, ◌<◌, eqb, get_or, eq-eqb, eqb-true}
use Rattle.specification.specs.Count.{some}
use Rattle.counting.proofs.Truth.{and_intro, and_elim, true_or_false}
use Rattle.counting.proofs.Somes.{some_found, some_which}
use Rattle.specification.specs.Sets.{at}
use Rattle.reach.specs.Steps.{Marked}
use Rattle.specification.specs.Graph.{alike?}

module _ (w : ℕ) (tails heads : List ℕ) (i : ℕ) (t : List ℕ) (seen : Marked w tails heads i t) where
  -- its bit is there: an edge before it is alike
  pub seen-before : get_or heads i 0 < w * 64 → at w t (get_or tails i 0) (get_or heads i 0) ≡ 1 → some i (alike? tails heads i) ≡ true
  unfolding alike?
  seen-before h e =
      let o = seen.only (get_or tails i 0) (get_or heads i 0) h e in
      some_found i (alike? tails heads i) o.0 o.1
      (and_intro (eqb (get_or tails o.0 0) (get_or tails i 0)) (eqb (get_or heads o.0 0) (get_or heads i 0))
      (eq-eqb _ _ o.2) (eq-eqb _ _ o.3))

  -- its bit is not there: none is
  pub not_seen : (at w t (get_or tails i 0) (get_or heads i 0) ≡ 1 → ⊥) → some i (alike? tails heads i) ≡ false
  unfolding alike?
  not_seen none =
      ⊎_elim
      (λ e. let o = some_which i (alike? tails heads i) e in
      let b = and_elim (eqb (get_or tails o.0 0) (get_or tails i 0)) (eqb (get_or heads o.0 0) (get_or heads i 0)) o.2 in
      absurd (none (sym (ap₂ (at w t) (eqb-true _ _ b.0) (eqb-true _ _ b.1)) ∙ seen.all o.0 o.1)))
      (λ e. e)
      (true_or_false (some i (alike? tails heads i)))
