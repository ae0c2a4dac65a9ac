-- A list's entries set to one value, one after the other. Assumes nothing.
use Rattle.counting.proofs.Prelude.{◌≡◌, refl, sym, ap, ◌∙◌, List, ℕ, ◌+◌, ◌≤◌, ◌<◌, arith, length, get_or, set, replicate, length-set}
use Rattle.counting.proofs.Prelude.{length-replicate, get_or-replicate}
use native.Mathlib.Decide.{ℕ_discrete}
use lib.Seq.{get_or-set_same, get_or-set_other, ext_get_or}
use Rattle.counting.proofs.Zeros.{zeros}

-- the first i entries are x
pub record Clearing (x i : ℕ) (was is : List ℕ) : Type 0 where
  pub long : length is ≡ length was
  pub value : (k : ℕ) → k < i → get_or is k 0 ≡ x

module _ (x : ℕ) where
  pub clearing_none : (was : List ℕ) → Clearing x 0 was was
  clearing_none was = record { long = refl; value = λ k l. absurd (omega arith) }

  pub clearing_more : (i : ℕ) (was is : List ℕ) → i < length was → Clearing x i was is → Clearing x (i + 1) was (set is i x)
  clearing_more i was is h c = record { long = length-set is i x ∙ c.long; value = λ k l. go k l (ℕ_discrete k i) }
    where
      go : (k : ℕ) → k < i + 1 → Dec (k ≡ i) → get_or (set is i x) k 0 ≡ x
      go k l (yes e) = ap (λ j. get_or (set is i x) j 0) e ∙ get_or-set_same is i x 0 (omega (arith, c.long))
      go k l (no d) = get_or-set_other is i k x 0 d ∙ c.value k (omega arith)

  -- all of them are
  pub clearing_all : (i : ℕ) (was is : List ℕ) → length was ≤ i → Clearing x i was is → is ≡ replicate (length was) x
  clearing_all i was is h c =
      ext_get_or 0 is (replicate (length was) x)
      (c.long ∙ sym (length-replicate {A = ℕ} (length was) x))
      (λ k l. let e = c.long in c.value k (omega arith) ∙ sym (get_or-replicate (length was) k x 0 (omega arith)))

  -- of a list of one value: its length, and that it is itself such a list of its own length
  pub cleared-length : (t : List ℕ) (k : ℕ) → t ≡ replicate k x → length t ≡ k
  cleared-length t k e = ap length e ∙ length-replicate {A = ℕ} k x

  pub cleared-own : (t : List ℕ) (k : ℕ) → t ≡ replicate k x → t ≡ replicate (length t) x
  cleared-own t k e = e ∙ ap (λ (j : ℕ). replicate j x) (sym (cleared-length t k e))

-- past the end of a list stands 0 too
pub clearing_zero : (i : ℕ) (was is : List ℕ) → length was ≤ i → Clearing 0 i was is → (k : ℕ) → get_or is k 0 ≡ 0
clearing_zero i was is h c k = ap (λ (t : List ℕ). get_or t k 0) (clearing_all 0 i was is h c) ∙ zeros (length was) k
