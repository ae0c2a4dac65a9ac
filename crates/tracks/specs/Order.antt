-- Tracks that are lawful, of any list of bundles, and when two lists have the same bundles in a channel. Assumes nothing.
use Rattle.std.specs.Prelude.{◌≡◌, ◌≢◌, true, ℕ, ◌≤◌, ◌<◌, eqb}
use Rattle.specification.specs.Limits.{row_numbers}
use Rattle.specification.specs.Tracks.{meet, different_in}
use Rattle.specification.specs.Count.{above}

-- bundles of one channel that share a row have different tracks
pub record Apart (n : ℕ) (channel first last track : ℕ → ℕ) : Type 0 where
  pub apart : (p q : ℕ) → p < n → q < n → p ≢ q → meet channel first last p q ≡ true → track p ≢ track q

-- the bundles of channel c in one list stand, one to one and with the same rows, among those of channel c' in another
pub record Among (n : ℕ) (channel first last : ℕ → ℕ) (c n' : ℕ) (channel' first' last' : ℕ → ℕ) (c' : ℕ) : Type 0 where
  pub to : ℕ → ℕ
  pub below : (b : ℕ) → b < n → channel b ≡ c → to b < n'
  pub there : (b : ℕ) → b < n → channel b ≡ c → channel' (to b) ≡ c'
  pub one : (a b : ℕ) → a < n → b < n → channel a ≡ c → channel b ≡ c → to a ≡ to b → a ≡ b
  pub firsts : (b : ℕ) → b < n → channel b ≡ c → first' (to b) ≡ first b
  pub lasts : (b : ℕ) → b < n → channel b ≡ c → last' (to b) ≡ last b

-- each bundle ends no lower than it begins
abbrev pub Rising : ℕ → (ℕ → ℕ) → (ℕ → ℕ) → Type 0
Rising n first last = (b : ℕ) → b < n → first b ≤ last b

-- and begins within the rows
pub record Intervals (n : ℕ) (first last : ℕ → ℕ) : Type 0 where
  pub ordered : Rising n first last
  pub below : (b : ℕ) → b < n → first b < row_numbers

-- tracks are lawful; a channel uses as many different ones as 1 + its highest; and no lawful tracks of the same bundles are fewer
pub record Packed (n : ℕ) (channel first last track : ℕ → ℕ) : Type 0 where
  pub lawful : Apart n channel first last track
  pub counted : (c : ℕ) → different_in n (λ b. eqb (channel b) c) track ≡ above n (λ b. eqb (channel b) c) track
  pub least : (c n' : ℕ) (channel' first' last' : ℕ → ℕ) (c' : ℕ) (track' : ℕ → ℕ)
      → Among n channel first last c n' channel' first' last' c'
      → Apart n' channel' first' last' track'
      → different_in n (λ b. eqb (channel b) c) track ≤ different_in n' (λ b. eqb (channel' b) c') track'
