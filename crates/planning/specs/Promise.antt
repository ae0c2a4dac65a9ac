-- What planned channels promise. Assumes nothing.
use Rattle.std.specs.Prelude.{◌≡◌, ◌≢◌, List, ℕ, ◌+◌, ◌*◌, ◌≤◌, ◌<◌, min, length, Result, Ok, Err}
use Rattle.specification.specs.Planning.{planned}
use Rattle.specification.specs.Given.{masked, without}
use Rattle.specification.specs.Sets.{member?, has?}
use Rattle.specification.specs.Lent.{Untouched}
use Rattle.planning.specs.Arranged.{Arranged, Kept, Added}
use Rattle.specification.specs.declared.Refusal.{Refusal}
use Rattle.specification.specs.Refusals.{refusal_number}

-- why there are no channels, or 0, and how many there are. Each vertex's channel and position stand in a list of places
pub record Channels : Type 0 where
  pub refusal : ℕ
  pub count : ℕ

-- what a call says: how many channels, or why there are none
abbrev pub channels_of : Result ℕ Refusal → Channels
channels_of (Ok count) = record { refusal = 0; count = count }
channels_of (Err k) = record { refusal = refusal_number k; count = 0 }

-- the channels of those of n vertices that the set does not hold, by the rule on the table between them
abbrev pub beside_in : ℕ → List ℕ → List ℕ → List (List ℕ)
beside_in n table held = without (member? held 0) (planned (masked (member? held 0) (has? 2 table)) n)

-- r is 8 where the list has no room, then 2 where `first` is 128 or more, and nothing changed; else p' is p with those channels of n
-- vertices, of 128 where n is over, numbered from `first` on, and r counts them and `first` others
pub record Besides (n : ℕ) (table held : List ℕ) (first : ℕ) (p : List ℕ) (r : Channels) (p' : List ℕ) : Type 0 where
  pub refused : 4 * min n 128 ≤ length p → first < 128 → r.refusal ≡ 0
  pub short : length p < 4 * min n 128 → r.refusal ≡ 8
  pub many : 4 * min n 128 ≤ length p → 128 ≤ first → r.refusal ≡ 2
  pub none : r.refusal ≢ 0 → (r.count ≡ 0) × Untouched p p'
  pub counted : r.refusal ≡ 0 → r.count ≡ first + length (beside_in (min n 128) table held)
  pub added : r.refusal ≡ 0 → Added first (beside_in (min n 128) table held) p p'

-- r is 8 and nothing changed where the list has no room; else p' has the channels of n vertices by the table, of 128 where n is over
pub record Chained (n : ℕ) (table p : List ℕ) (r : Channels) (p' : List ℕ) : Type 0 where
  pub refused : 4 * min n 128 ≤ length p → r.refusal ≡ 0
  pub short : length p < 4 * min n 128 → (r.refusal ≡ 8) × Untouched p p'
  pub none : r.refusal ≢ 0 → r.count ≡ 0
  pub arranged : r.refusal ≡ 0 → Arranged (min n 128) (planned (has? 2 table) (min n 128)) r.count p'
  pub kept : Kept (min n 128) p p'
