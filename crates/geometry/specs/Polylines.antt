-- The polyline of each kind of edge.
use Rattle.std.specs.Prelude.{◌≡◌, ◌≢◌, List, [], ◌∷◌, ℕ, ◌+◌, ◌-◌, ◌<◌}
use Rattle.specification.specs.Geometry.{Point, point, Blocked, Widths, track_at, straight, bend_row, by_track}

-- by one point in column x, the bend (SPECIFICATION.md, 8.4)
abbrev pub bent : Point → Point → ℕ → List Point
bent a b x = a ∷ point x (bend_row b) ∷ b ∷ []

-- The edge u → v is drawn by this polyline: between neighbours of a channel (a path edge), along a track of the channel
-- (a path-transitive one), or across channels, straight or bent in the gap beside the tail's channel.
pub data Drawn (n : ℕ) (at : ℕ → Point) (channel position own : ℕ → ℕ) (W : Widths) (u v : ℕ) : List Point → Type 0 where
  path : channel u ≡ channel v → position v ≡ position u + 1 → Drawn n at channel position own W u v (straight (at u) (at v))
  track : (j : ℕ) → channel u ≡ channel v → j < W.tracks (channel u)
      → Drawn n at channel position own W u v (by_track (at u) (at v) (track_at (own (channel u)) (W.left_gap (channel u)) j))
  cross : channel u ≢ channel v → (Blocked at n u v → ⊥) → Drawn n at channel position own W u v (straight (at u) (at v))
  bend_right : (d : ℕ) → d < W.right_gap (channel u) → Blocked at n u v → own (channel u) < own (channel v)
      → Drawn n at channel position own W u v (bent (at u) (at v) (own (channel u) + (1 + d)))
  bend_left : (d : ℕ) → d < W.left_gap (channel u) → Blocked at n u v → own (channel v) < own (channel u)
      → Drawn n at channel position own W u v (bent (at u) (at v) (own (channel u) - (1 + d)))
