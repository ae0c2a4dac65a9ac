-- Where vertices stand: what the theorem about polylines asks. Columns by blocks are so (proofs/Blocks).
use Rattle.std.specs.Prelude.{◌≡◌, ℕ, ◌+◌, ◌≤◌, ◌<◌}
use Rattle.specification.specs.Geometry.{Point, Widths, track_at}

-- n vertices at their points, each in a channel at a position; `own c` is channel c's column.
pub record Placement (n : ℕ) (at : ℕ → Point) (channel position own : ℕ → ℕ) (W : Widths) : Type 0 where
  -- vertices stand on their channels' own columns
  pub on_own : (v : ℕ) → v < n → (at v).column ≡ own (channel v)
  -- a position of a channel has one vertex
  pub alone : (u v : ℕ) → u < n → v < n → channel u ≡ channel v → position u ≡ position v → u ≡ v
  -- rows rise along a channel
  pub rows_rise : (u v : ℕ) → u < n → v < n → channel u ≡ channel v → position u < position v → (at u).row < (at v).row
  -- the own columns of different channels differ
  pub own_differ : (u v : ℕ) → u < n → v < n → own (channel u) ≡ own (channel v) → channel u ≡ channel v
  -- gaps hold no vertex
  pub right_free : (u v d : ℕ) → u < n → v < n → d < W.right_gap (channel u) → own (channel v) ≡ own (channel u) + (1 + d) → ⊥
  pub left_free : (u v d : ℕ) → u < n → v < n → d < W.left_gap (channel u) → own (channel v) + (1 + d) ≡ own (channel u) → ⊥
  -- tracks hold no vertex, and with the gap they have room on the left
  pub tracks_free : (u v j : ℕ) → u < n → v < n → j < W.tracks (channel u)
      → own (channel v) ≡ track_at (own (channel u)) (W.left_gap (channel u)) j → ⊥
  pub room : (v : ℕ) → v < n → W.tracks (channel v) + W.left_gap (channel v) ≤ own (channel v)
