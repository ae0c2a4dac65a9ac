-- A text put into a list of bytes. Assumes nothing.
use Rattle.std.specs.Prelude.{◌≡◌, List, ℕ, ◌+◌, ◌≤◌, ◌<◌, length, get_or}
use Rattle.specification.specs.Lent.{Untouched}

-- the first i bytes of the text stand in `is` from `used` on, and every other byte is that of `was`
pub record Written (was : List ℕ) (used : ℕ) (text : List ℕ) (i : ℕ) (is : List ℕ) : Type 0 where
  pub as_long : length is ≡ length was
  pub made : (k : ℕ) → k < i → get_or is (used + k) 0 ≡ get_or text k 0
  pub before : (k : ℕ) → k < used → get_or is k 0 ≡ get_or was k 0
  pub after : (k : ℕ) → used + i ≤ k → get_or is k 0 ≡ get_or was k 0

-- r is where the text ends, or `used` where there is no room for all of it
pub record Puts (was : List ℕ) (used : ℕ) (text : List ℕ) (r : ℕ) (is : List ℕ) : Type 0 where
  pub whole : used + length text ≤ length was → (r ≡ used + length text) × Written was used text (length text) is
  pub none : length was < used + length text → (r ≡ used) × Untouched was is

-- the whole text stands in `is` from `used` on, and ends at r
pub record Follows (was : List ℕ) (used : ℕ) (text : List ℕ) (r : ℕ) (is : List ℕ) : Type 0 where
  pub end : r ≡ used + length text
  pub written : Written was used text (length text) is
