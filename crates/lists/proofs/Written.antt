-- Of a list whose first entries are written (`Filled`). Assumes nothing.
use Rattle.counting.proofs.Prelude.{◌≡◌, sym, ◌∙◌, ⊎_elim, List, ℕ, ◌<◌, ◌≤◌, arith}
use lib.Seq.{ext_get_or}
use Rattle.counting.proofs.Truth.{lt-or-le}
use Rattle.specification.specs.Lent.{Filled}

-- where nothing is to be written, the list is as it was
pub untouched : {E : Type 0} (was is : List E) (g : ℕ → E) (top : ℕ) → top ≡ 0 → Filled was g top is → is ≡ was
untouched was is g top e h = ext_get_or (g 0) is was h.as_long (λ k l. h.kept k (g 0) (omega arith))

-- the same list by another definition of its entries
pub refilled : {E : Type 0} (was is : List E) (g h : ℕ → E) (top top' : ℕ) → top ≡ top' → ((k : ℕ) → k < top' → g k ≡ h k)
    → Filled was g top is → Filled was h top' is
refilled was is g h top top' e same f = record {
  as_long = f.as_long;
  made = λ k d l. f.made k d (omega arith) ∙ same k l;
  kept = λ k d l. f.kept k d (omega arith);
}

-- there is only one list that is filled so
pub filled-once : {E : Type 0} (was is it : List E) (g : ℕ → E) (top : ℕ) → Filled was g top is → Filled was g top it → is ≡ it
filled-once was is it g top h j =
    ext_get_or (g 0) is it (h.as_long ∙ sym j.as_long) (λ k _. ⊎_elim
    (λ (l : k < top). h.made k (g 0) l ∙ sym (j.made k (g 0) l))
    (λ (l : top ≤ k). h.kept k (g 0) l ∙ sym (j.kept k (g 0) l)) (lt-or-le k top))
