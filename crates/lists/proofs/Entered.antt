-- Lists filled entry by entry, for any number of values an entry. Assumes nothing.
use Rattle.counting.proofs.Prelude.{◌≡◌, refl, sym, ap, subst, ◌∙◌, List, ℕ, zero, suc, ◌+◌, ◌*◌, ◌/◌, ◌%◌, ◌<◌, ◌≤◌, arith, length, set}
use Rattle.counting.proofs.Prelude.{length-set}
use native.Mathlib.Nat.{le_antisymm, zero-mul, add-zero, suc-mul}
use native.Mathlib.Numerals.{add-one}
use lib.Arith.{digits_div, digits_mod}
use Rattle.specification.specs.Lent.{Filled}
use Rattle.specification.specs.Pass.{stored}
use Rattle.counting.proofs.Stores.{filled_none, filled_more, filled_to}

-- value i of the list: value f of entry e is n e f
abbrev pub values : {E : Type 0} → ℕ → (ℕ → ℕ → E) → ℕ → E
values w n i = n (i / w) (i % w)

module _ {E : Type 0} where
  -- the values of an entry, one after the other
  filled_by : (was : List E) (g n : ℕ → E) (i w : ℕ) (is : List E) → i + w ≤ length was → ((f : ℕ) → f < w → n f ≡ g (i + f))
      → Filled was g i is → Filled was g (i + w) (stored n i w is)
  unfolding stored
  filled_by was g n i zero is room e so_far = filled_to was g i (i + 0) is (sym (add-zero i)) so_far
  filled_by was g n i (suc w) is room e so_far =
      filled_to was g (i + w + 1) (i + suc w) (set (stored n i w is) (i + w) (n w)) (omega arith)
      (filled_more was g (i + w) (stored n i w is) (n w) (omega arith) (e w (omega arith))
      (filled_by was g n i w is (omega arith) (λ f h. e f (omega arith)) so_far))

  stored_long : (n : ℕ → E) (i w : ℕ) (l : List E) → length (stored n i w l) ≡ length l
  unfolding stored
  stored_long n i zero l = refl
  stored_long n i (suc w) l = length-set (stored n i w l) (i + w) (n w) ∙ stored_long n i w l

-- ---- one entry more

-- the list `was` with its first k entries stored
unfoldable pub entered : {E : Type 0} → ℕ → (ℕ → ℕ → E) → List E → ℕ → List E
entered w n was zero = was
entered w n was (suc k) = stored (n k) (k * w) w (entered w n was k)

module _ {E : Type 0} (w : ℕ) (n : ℕ → ℕ → E) (was : List E) where
  pub entered_none : was ≡ entered w n was 0
  unfolding entered
  entered_none = refl

  pub entered-more : (k : ℕ) (l x : List E) → l ≡ entered w n was k → x ≡ stored (n k) (k * w) w l → x ≡ entered w n was (k + 1)
  unfolding entered
  entered-more k l x q e = e ∙ ap (stored (n k) (k * w) w) q ∙ ap (entered w n was) (sym (add-one k))

  -- an index that is within the list before is within each state of it
  pub entered_long : (k : ℕ) (l : List E) → l ≡ entered w n was k → length l ≡ length was
  unfolding entered
  entered_long zero l q = ap (length {A = E}) q
  entered_long (suc k) l q =
      ap (length {A = E}) q ∙ stored_long (n k) (k * w) w (entered w n was k) ∙ entered_long k (entered w n was k) refl

  -- after each k entries these stand, and what is past them is as it was
  pub entered-filled : (k : ℕ) → k * w ≤ length was → Filled was (values w n) (k * w) (entered w n was k)
  unfolding entered
  entered-filled zero room = filled_to was (values w n) 0 (0 * w) was (sym (zero-mul w)) (filled_none was (values w n))
  entered-filled (suc k) room =
      let e : suc k * w ≡ k * w + w = suc-mul k w in
      filled_to was (values w n) (k * w + w) (suc k * w) (stored (n k) (k * w) w (entered w n was k)) (sym e)
      (filled_by was (values w n) (n k) (k * w) w (entered w n was k) (omega arith) (λ f h. rw (digits_div k h, digits_mod k h))
      (entered-filled k (omega arith)))

  pub entered_all : (m k : ℕ) (is : List E) → m * w ≤ length was → k ≤ m → m ≤ k → is ≡ entered w n was k
      → Filled was (values w n) (m * w) is
  entered_all m k is room le ge e =
      subst (λ (x : List E). Filled was (values w n) (m * w) x) (sym (e ∙ ap (entered w n was) (le_antisymm le ge))) (entered-filled m room)
