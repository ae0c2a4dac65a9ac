-- Sets of vertices as masks of 64 bits (SPECIFICATION.md, 2). Assumes nothing.
use Rattle.std.specs.Prelude.{ℕ, ◌/◌, ◌%◌, ◌^◌, ◌+◌, ◌*◌, ◌≤◌, ◌<◌, ◌≡◌, Bool, List, eqb, length, get_or, set}
use Rattle.std.specs.Int.Bits.{bit_or}
use Rattle.specification.specs.Limits.{mask_bits}

-- bit k of x, 0 or 1
unfoldable pub bit : ℕ → ℕ → ℕ
bit x k = x / 2 ^ k % 2

-- the number of the mask that holds vertex v, in the set whose masks begin at mask `first`
abbrev pub mask_of : ℕ → ℕ → ℕ
mask_of first v = first + v / mask_bits

-- 1 where v is in the set whose masks begin at mask `first`, else 0: bit v mod 64 of mask `mask_of first v`
unfoldable pub member : List ℕ → ℕ → ℕ → ℕ
member masks first v = bit (get_or masks (mask_of first v) 0) (v % mask_bits)

abbrev pub member? : List ℕ → ℕ → ℕ → Bool
member? masks first v = eqb (member masks first v) 1

-- a table has a set of w masks for each vertex u, that of reachability (the descent table) two: 1 where v is in the set of u
unfoldable pub at : ℕ → List ℕ → ℕ → ℕ → ℕ
unfolding member
at w table u v = member table (w * u) v

-- whether v is in it
unfoldable pub has? : ℕ → List ℕ → ℕ → ℕ → Bool
has? w table u v = eqb (at w table u v) 1

-- the masks with v put into the set at `first`; as they were, where no mask holds v
unfoldable pub inserted : List ℕ → ℕ → ℕ → List ℕ
inserted masks first v = set masks (mask_of first v) (bit_or (get_or masks (mask_of first v) 0) (2 ^ (v % mask_bits)))

-- r is s with the first j masks of `other` put into those from `first` on
pub record United (s : List ℕ) (first : ℕ) (other : List ℕ) (j : ℕ) (r : List ℕ) : Type 0 where
  pub size : length r ≡ length s
  pub done : (i : ℕ) → i < j → get_or r (first + i) 0 ≡ bit_or (get_or s (first + i) 0) (get_or other i 0)
  pub below : (i : ℕ) → i < first → get_or r i 0 ≡ get_or s i 0
  pub above : (i : ℕ) → first + j ≤ i → get_or r i 0 ≡ get_or s i 0
