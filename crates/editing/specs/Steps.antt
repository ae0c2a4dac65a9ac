-- What the private steps of a session's calls find. Assumes nothing.
use Rattle.std.specs.Prelude.{Bool, ◌&&◌, List, ℕ, ◌+◌, eqb}
use Rattle.specification.specs.Count.{some}
use Rattle.specification.specs.Sets.{bit, has?}
use Rattle.specification.specs.Limits.{mask_bits}

-- of tables of w masks a vertex: a member of the mask, whose first bit is vertex `base`, has v
unfoldable pub passing? : ℕ → List ℕ → ℕ → ℕ → ℕ → Bool
passing? w reach mask base v = some mask_bits (λ j. eqb (bit mask j) 1 && has? w reach (base + j) v)
