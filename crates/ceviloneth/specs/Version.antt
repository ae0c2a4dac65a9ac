-- The version of the interface that apps see, as the header has it (SPECIFICATION.md, 14.4). Assumes nothing.
use Rattle.std.specs.Prelude.{ℕ}

abbrev pub version : ℕ
version = 5
