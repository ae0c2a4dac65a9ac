-- Laws of a set of masks: its members, the count, the next member, and the
-- union, intersection and difference, mask by mask. Assumes nothing.
use Rattle.counting.proofs.Prelude.{◌≡◌, refl, sym, ap, ap₂, ◌∙◌, not, ◌&&◌, List, ℕ, zero, suc, ◌+◌, ◌*◌, ◌/◌, ◌%◌, ◌^◌, ◌<◌, max, arith}
use Rattle.counting.proofs.Prelude.{eqb, length, get_or, set, length-set}
use native.Mathlib.Nat.{not-suc-le-zero}
use borrow.Author.Count.{below_more}
use lib.Bits.{bit_or, bit_and, and_mask}
use lib.Count.{ones}
use lib.Seq.{get_or-set_same, get_or-set_other}
use Rattle.specification.specs.Count.{sum}
use Rattle.specification.specs.Sets.{bit, mask_of, member, member?, United}
use Rattle.counting.proofs.Sums.{sum_ext, sum_split}
use Rattle.masks.proofs.Bits.{bit-lt, bit-or, without, bit-without, ones_sum}

pub member-lt : (s : List ℕ) (first v : ℕ) → member s first v < 2
unfolding member
member-lt s first v = bit-lt (get_or s (mask_of first v) 0) (v % 64)

-- the test of a bit
pub member-test : (s : List ℕ) (first v : ℕ) → bit_and (get_or s (first + v / 64) 0 / 2 ^ (v % 64)) 1 ≡ member s first v
unfolding member bit
member-test s first v = and_mask (get_or s (first + v / 64) 0 / 2 ^ (v % 64)) 1

-- ---- the members are counted mask by mask

pub count_masks : (s : List ℕ) (first : ℕ) → ((i : ℕ) → get_or s i 0 < 2 ^ 64) → (w : ℕ)
    → sum (w * 64) (member s first) ≡ sum w (λ i. ones (get_or s (first + i) 0))
unfolding sum member
count_masks s first fit zero = refl
count_masks s first fit (suc w) =
    ap (λ (m : ℕ). sum m (member s first)) (let e : suc w * 64 ≡ w * 64 + 64 = omega arith in e)
    ∙ sum_split (w * 64) 64 (member s first)
    ∙ ap₂ (λ (x y : ℕ). x + y) (count_masks s first fit w) last
  where
    last : sum 64 (λ k. member s first (w * 64 + k)) ≡ ones (get_or s (first + w) 0)
    last =
        sum_ext 64 (λ k. member s first (w * 64 + k)) (bit (get_or s (first + w) 0))
        (λ k l. ap₂ (λ (i b : ℕ). bit (get_or s (first + i) 0) b) (omega arith) (omega arith))
        ∙ sym (ones_sum 64 (get_or s (first + w) 0) (fit (first + w)))

-- ---- a set is put into another

pub united_none : (s : List ℕ) (first : ℕ) (other : List ℕ) → United s first other 0 s
united_none s first other = record { size = refl; done = λ i l. absurd (not-suc-le-zero l); below = λ i l. refl; above = λ i l. refl }

pub united_more : (s : List ℕ) (first : ℕ) (other : List ℕ) (j : ℕ) (r : List ℕ) → first + j < length r → United s first other j r
    → United s first other (j + 1) (set r (first + j) (bit_or (get_or r (first + j) 0) (get_or other j 0)))
united_more s first other j r hl o =
    let x : ℕ = bit_or (get_or r (first + j) 0) (get_or other j 0) in
    record {
      size = length-set r (first + j) x ∙ o.size;
      done = below_more (λ (i : ℕ). get_or (set r (first + j) x) (first + i) 0 ≡ bit_or (get_or s (first + i) 0) (get_or other i 0)) j
          (λ i l. get_or-set_other r (first + j) (first + i) x 0 (λ e. omega arith) ∙ o.done i l)
          (get_or-set_same r (first + j) x 0 hl ∙ ap (λ (y : ℕ). bit_or y (get_or other j 0)) (o.above (first + j) (omega arith)));
      below = λ i l. get_or-set_other r (first + j) i x 0 (λ e. omega arith) ∙ o.below i l;
      above = λ i l. get_or-set_other r (first + j) i x 0 (λ e. omega arith) ∙ o.above i (omega arith);
    }

-- of w masks: a member of either set
pub united_member : (w : ℕ) (s : List ℕ) (first : ℕ) (o r : List ℕ) → United s first o w r → (v : ℕ) → v < w * 64
    → member r first v ≡ max (member s first v) (member o 0 v)
unfolding member
united_member w s first o r a v h =
    ap (λ (x : ℕ). bit x (v % 64)) (a.done (v / 64) (omega arith))
    ∙ bit-or (get_or s (first + v / 64) 0) (get_or o (v / 64) 0) (v % 64)
    ∙ ap (λ (i : ℕ). max (bit (get_or s (first + v / 64) 0) (v % 64)) (bit (get_or o i 0) (v % 64)))
    (let e : v / 64 ≡ 0 + v / 64 = omega arith in e)

-- of w masks: a member of one set that another lacks
pub without-member : (w : ℕ) (t : List ℕ) (from : ℕ) (s : List ℕ) (first : ℕ) (r : List ℕ)
    → ((i : ℕ) → i < w → get_or s (first + i) 0 < 2 ^ 64)
    → ((i : ℕ) → i < w → get_or r i 0 ≡ without (get_or t (from + i) 0) (get_or s (first + i) 0)) → (v : ℕ) → v < w * 64
    → member? r 0 v ≡ (member? t from v && not (member? s first v))
unfolding member
without-member w t from s first r fit same v h =
    let i : ℕ = v / 64 in
    let l : i < w = omega arith in
    ap (λ (j : ℕ). eqb (bit (get_or r j 0) (v % 64)) 1) (let e : 0 + i ≡ i = omega arith in e)
    ∙ ap (λ (x : ℕ). eqb (bit x (v % 64)) 1) (same i l)
    ∙ bit-without (get_or t (from + i) 0) (get_or s (first + i) 0) (v % 64) (fit i l) (omega arith)
