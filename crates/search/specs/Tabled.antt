-- Predecessors as a table of bytes. Assumes nothing.
use Rattle.std.specs.Prelude.{◌≡◌, List, ℕ, ◌<◌, length, get_or}
use Rattle.std.proofs.Math.Option.{Option, none, some}
use Rattle.specification.specs.Planning.{Held, predecessor_of}

-- what stands in the table for a predecessor; 255 where there is none
unfoldable pub byte_of : Option ℕ → ℕ
byte_of none = 255
byte_of (some p) = p

-- the table has the predecessor of each of 128 vertices
pub record Tabled (held : List Held) (table : List ℕ) : Type 0 where
  pub size : length table ≡ 128
  pub each : (v : ℕ) → v < 128 → get_or table v 0 ≡ byte_of (predecessor_of held v)
