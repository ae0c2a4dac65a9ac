-- Masks without a member. Assumes nothing.
use Rattle.std.specs.Prelude.{◌≡◌, List, ℕ, get_or}

-- masks with no bit set
pub record Blank (t : List ℕ) : Type 0 where
  pub zero : (i : ℕ) → get_or t i 0 ≡ 0
