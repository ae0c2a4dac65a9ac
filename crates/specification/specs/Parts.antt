-- Parts of a graph that it may lack: its given channels, its floors. Assumes nothing.
use Rattle.std.specs.Prelude.{Bool, true, false, List, [], ℕ, Option, Some, None}
use Rattle.std.specs.Borrow.{Bor}

-- whether the part is there
abbrev pub present? : Option (Bor (List ℕ)) → Bool
present? None = false
present? (Some part) = true

-- its bytes, none where it is not there
abbrev pub bytes_of : Option (Bor (List ℕ)) → List ℕ
bytes_of None = []
bytes_of (Some part) = part.now
