-- The mark of an edge, as a bit of a mask of the table of longer routes. Assumes nothing.
use Rattle.counting.proofs.Prelude.{◌≡◌, ap, true, List, ℕ, ◌+◌, ◌*◌, ◌/◌, ◌%◌, ◌^◌, eqb, get_or}
use lib.Bits.{bit_and, and_mask}
use Rattle.specification.specs.Sets.{bit, member, member?}
use Rattle.specification.specs.Connection.{connection, both?}
use Rattle.reach.proofs.Connecting.{both_each}
use Rattle.reduction.specs.Reduction.{marked?, transitive_in?}

-- the bit that the code takes
pub mark-read : (mask v : ℕ) → both? (connection true (eqb (bit_and (mask / 2 ^ (v % 64)) 1) 1)) ≡ marked? mask v
unfolding marked? bit
mark-read mask v = ap (λ (x : ℕ). both? (connection true (eqb x 1))) (and_mask (mask / 2 ^ (v % 64)) 1)

-- the table's set of u tells it
pub transitive_member : (longer : List ℕ) (u v : ℕ) → transitive_in? longer u v ≡ member? longer (2 * u) v
unfolding transitive_in? marked? member
transitive_member longer u v = both_each true _

pub transitive_mask : (longer : List ℕ) (u v i : ℕ) → i ≡ 2 * u + v / 64 → marked? (get_or longer i 0) v ≡ transitive_in? longer u v
unfolding transitive_in?
transitive_mask longer u v i e = ap (λ (j : ℕ). marked? (get_or longer j 0) v) e
