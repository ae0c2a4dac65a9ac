-- Laws of a set with a vertex put in, and of the empty set. Assumes nothing.
use Rattle.counting.proofs.Prelude.{◌≡◌, ap, ◌∙◌, ◌≢◌, true, false, List, ℕ, ◌+◌, ◌/◌, ◌%◌, ◌^◌, ◌<◌, arith, eqb, length, get_or, set}
use Rattle.counting.proofs.Prelude.{replicate, length-set, eq-eqb}
use native.Mathlib.Decide.{ℕ_discrete, dec_lt}
use lib.Bits.{bit_or}
use lib.Seq.{get_or-set_same, get_or-set_other, set_out}
use Rattle.specification.specs.Sets.{bit, mask_of, member, member?, at, inserted}
use Rattle.masks.proofs.Bits.{with_here, with_other}
use Rattle.masks.proofs.Tables.{at_zeros}

pub length_inserted : (s : List ℕ) (first v : ℕ) → length (inserted s first v) ≡ length s
unfolding inserted
length_inserted s first v = length-set s (mask_of first v) _

-- the set has the vertex
pub inserted-here : (s : List ℕ) (first v : ℕ) → first + v / 64 < length s → member? (inserted s first v) first v ≡ true
unfolding inserted member
inserted-here s first v l =
    eq-eqb _ 1 (ap (λ x. bit x (v % 64)) (get_or-set_same s (mask_of first v) _ 0 l) ∙ with_here (get_or s (mask_of first v) 0) (v % 64))

-- and of other vertices those that it had
pub inserted_other : (s : List ℕ) (first v u : ℕ) → u ≢ v → member? (inserted s first v) first u ≡ member? s first u
unfolding inserted member
inserted_other s first v u d = ap (λ x. eqb x 1) (go (ℕ_discrete (u / 64) (v / 64)))
  where
    i : ℕ
    i = mask_of first v

    x : ℕ
    x = bit_or (get_or s i 0) (2 ^ (v % 64))

    at_mask : Dec (i < length s) → u / 64 ≡ v / 64 → bit (get_or (set s i x) i 0) (u % 64) ≡ bit (get_or s i 0) (u % 64)
    at_mask (yes l) q =
        ap (λ y. bit y (u % 64)) (get_or-set_same s i x 0 l) ∙ with_other (get_or s i 0) (v % 64) (u % 64) (λ e. d (omega arith))
    at_mask (no l) q = ap (λ y. bit (get_or y i 0) (u % 64)) (set_out s i x (omega arith))

    go : Dec (u / 64 ≡ v / 64) → bit (get_or (set s i x) (mask_of first u) 0) (u % 64) ≡ bit (get_or s (mask_of first u) 0) (u % 64)
    go (yes q) = rw q (at_mask (dec_lt i (length s)) q)
    go (no q) = ap (λ y. bit y (u % 64)) (get_or-set_other s i (mask_of first u) x 0 (λ e. q (omega arith)))

-- an empty set has no vertex
pub member_zeros : (k v : ℕ) → member? (replicate k 0) 0 v ≡ false
unfolding at
member_zeros k v = ap (λ x. eqb x 1) (at_zeros 0 k 0 v)
