-- What the private steps of the candidates leave behind. Assumes nothing.
use Rattle.std.specs.Prelude.{ℕ, ◌-◌, ◌^◌}
use Rattle.std.specs.Int.Bits.{bit_and}

-- the vertices of one mask that a set has and another lacks
abbrev pub less : ℕ → ℕ → ℕ
less more fewer = bit_and more ((2 ^ 64 - 1) - fewer)

-- .. that two sets have and two others lack
abbrev pub between : ℕ → ℕ → ℕ → ℕ → ℕ
between high low to from = bit_and (less high low) (less to from)
