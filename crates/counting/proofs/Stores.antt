-- A list that stores fill, one after the other. Assumes nothing.
use Rattle.counting.proofs.Prelude.{◌≡◌, refl, subst, ◌∙◌, ⊎_elim, List, ℕ, ◌+◌, ◌<◌, ◌≤◌, arith, length, set, length-set}
use native.Mathlib.Nat.{eq-or-lt_of_le, le_antisymm}
use lib.Seq.{get_or-set_same, get_or-set_other}
use Rattle.specification.specs.Lent.{Filled}

module _ {E : Type 0} (was : List E) (g : ℕ → E) where
  pub filled_none : Filled was g 0 was
  filled_none = record { as_long = refl; made = λ k d l. absurd (omega arith); kept = λ k d h. refl }

  pub filled_more : (i : ℕ) (is : List E) (x : E) → i < length was → x ≡ g i → Filled was g i is → Filled was g (i + 1) (set is i x)
  filled_more i is x in-it e so_far = record {
    as_long = length-set is i x ∙ so_far.as_long;
    made = λ k d l.
        let k≤ : k ≤ i = omega arith in
        let within : i < length is = omega (arith, so_far.as_long) in
        ⊎_elim (λ (h : k ≡ i). rw h (get_or-set_same is i x d within ∙ e))
        (λ (h : k < i). get_or-set_other is i k x d (λ q. omega arith) ∙ so_far.made k d h) (eq-or-lt_of_le k≤);
    kept = λ k d h. get_or-set_other is i k x d (λ q. omega arith) ∙ so_far.kept k d (omega arith);
  }

  pub filled_to : (i j : ℕ) (is : List E) → i ≡ j → Filled was g i is → Filled was g j is
  filled_to i j is e h = subst (λ (k : ℕ). Filled was g k is) e h

  pub filled-all : (i top : ℕ) (is : List E) → i ≤ top → top ≤ i → Filled was g i is → Filled was g top is
  filled-all i top is le ge h = filled_to i top is (le_antisymm le ge) h
