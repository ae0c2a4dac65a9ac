-- What a signed number is, said over ℕ.
use Rattle.std.specs.Prelude.{◌≡◌, ℕ, suc, ◌+◌, ◌<◌, ℤ, pos, negsuc}
use Rattle.specification.specs.Sets.{bit}
use Rattle.specification.specs.Geometry.{Point, Hit}

-- z = a − b
unfoldable pub Diff : ℤ → ℕ → ℕ → Type 0
Diff (pos n) a b = a ≡ n + b
Diff (negsuc n) a b = b ≡ suc n + a

-- A vertex of a mask, of which bit 0 is vertex `base`, lies strictly inside the segment that rises from u to v.
pub record Struck (mask base : ℕ) (at : ℕ → Point) (n u v : ℕ) : Type 0 where
  pub place : ℕ
  pub set : bit mask place ≡ 1
  pub known : base + place < n
  pub hit : Hit (at u) (at v) (at (base + place))
