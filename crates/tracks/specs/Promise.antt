-- What the call promises. Assumes nothing.
use Rattle.std.specs.Prelude.{◌≡◌, List, ℕ, ◌/◌, ◌≤◌, ◌<◌, min, max, eqb, length, get_or}
use Rattle.counting.specs.Quads.{quad}
use Rattle.specification.specs.Limits.{most_bundles}
use Rattle.specification.specs.Tracks.{tracks}
use Rattle.specification.specs.Count.{above}

-- the row in which a bundle ends: its first, where its last is below that
abbrev pub end_of : (ℕ → ℕ) → (ℕ → ℕ) → ℕ → ℕ
end_of first last b = max (first b) (last b)

-- how many of n bundles count: at most 256, and as many as the list has entries
abbrev pub bundle_count : ℕ → List ℕ → ℕ
bundle_count n spans = min n (min most_bundles (length spans / 4))

-- the tracks of r bundles by their list: channel, first row and last row of each
abbrev pub tracks_of : ℕ → List ℕ → List ℕ
tracks_of r spans = tracks r (quad 0 spans) (quad 1 spans) (end_of (quad 1 spans) (quad 2 spans))

-- r bundles count; the fourth number of each is its track now, and every other
-- number is as it was; used' has how many tracks each channel has
pub record Tracked (n : ℕ) (spans used₀ : List ℕ) (r : ℕ) (spans' used' : List ℕ) : Type 0 where
  pub counted : r ≡ bundle_count n spans
  pub track : (b : ℕ) → b < r → quad 3 spans' b ≡ get_or (tracks_of r spans) b 0
  pub past : (b : ℕ) → r ≤ b → quad 3 spans' b ≡ quad 3 spans b
  pub kept : (k b : ℕ) → k < 3 → quad k spans' b ≡ quad k spans b
  pub used : (c : ℕ) → c < length used₀
      → get_or used' c 0 ≡ above r (λ b. eqb (quad 0 spans b) c) (λ b. get_or (tracks_of r spans) b 0)
  pub long : (length spans' ≡ length spans) × (length used' ≡ length used₀)
