-- A list of entries, four numbers an entry. Assumes nothing.
use Rattle.std.specs.Prelude.{List, ℕ, zero, suc, ◌+◌, ◌*◌, get_or}

-- where number k of entry b stands
abbrev pub spot : ℕ → ℕ → ℕ
spot zero b = 4 * b
spot (suc k) b = 4 * b + suc k

-- number k of entry b
abbrev pub quad : ℕ → List ℕ → ℕ → ℕ
quad k l b = get_or l (spot k b) 0
