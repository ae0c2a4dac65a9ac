-- A set of 128 vertices in two masks that stand by themselves. Assumes nothing.
use Rattle.std.specs.Prelude.{[], ◌∷◌, ℕ}
use Rattle.specification.specs.Sets.{member}

-- 1 where v is in the set of the two masks a, for the vertices below 64, and b
unfoldable pub in_pair : ℕ → ℕ → ℕ → ℕ
unfolding member
in_pair a b v = member (a ∷ b ∷ []) 0 v
