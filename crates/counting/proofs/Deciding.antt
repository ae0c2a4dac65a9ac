-- Computed tests that decide what they stand for: of equality, of `||` and of `&&`. Assumes nothing.
use Rattle.counting.proofs.Prelude.{◌≡◌, ◌⊎◌, inl, inr, ⊎_elim, ◌↔◌, Bool, true, ◌&&◌, ◌||◌, ℕ, eqb, eq-eqb, eqb-true}
use Rattle.counting.proofs.Truth.{and_intro, and_elim, or_left, or_right, or_elim}

pub eq_decided : (p q : ℕ) → (p ≡ q) ↔ (eqb p q ≡ true)
eq_decided p q = (eq-eqb p q, eqb-true p q)

module _ {A B : Type 0} (a b : Bool) (f : A ↔ (a ≡ true)) (g : B ↔ (b ≡ true)) where
  pub or_decided : (A ⊎ B) ↔ ((a || b) ≡ true)
  or_decided = (
    ⊎_elim (λ x. or_left a b (f.0 x)) (λ y. or_right a b (g.0 y)),
    λ e. ⊎_elim (λ p. inl (f.1 p)) (λ p. inr (g.1 p)) (or_elim a b e),
  )

  pub and_decided : (A × B) ↔ ((a && b) ≡ true)
  and_decided = ((λ p. and_intro a b (f.0 p.0) (g.0 p.1)), λ e. let p = and_elim a b e in (f.1 p.0, g.1 p.1))
