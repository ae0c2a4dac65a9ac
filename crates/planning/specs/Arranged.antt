-- Channels as data: each vertex's channel and position in a list of places, four numbers a vertex. Assumes nothing.
use Rattle.std.specs.Prelude.{◌≡◌, ℕ, ◌≤◌, ◌<◌, length}
use mathlib.Core.List.{List, flatten}
use Rattle.counting.specs.Quads.{quad}
use Rattle.specification.specs.Channels.{times, channel_from, channel_of, position_of}

-- p has the channels ls, so many, of n vertices: each vertex's channel and position. Of a vertex in no channel both numbers are 0
pub record Arranged (n : ℕ) (ls : List (List ℕ)) (count : ℕ) (p : List ℕ) : Type 0 where
  pub counted : count ≡ length ls
  pub channel : (v : ℕ) → v < n → quad 0 p v ≡ channel_of ls v
  pub position : (v : ℕ) → v < n → quad 1 p v ≡ position_of ls v

-- of p nothing but channels and positions of the first n vertices has changed
pub record Kept (n : ℕ) (p p' : List ℕ) : Type 0 where
  pub kept : (k v : ℕ) → 2 ≤ k → k < 4 → quad k p' v ≡ quad k p v
  pub past : (k v : ℕ) → k < 4 → n ≤ v → quad k p' v ≡ quad k p v
  pub long : length p' ≡ length p

-- p' is p with the channels ls laid, numbered from `first` on: their vertices have channel and position, and nothing else has changed
pub record Added (first : ℕ) (ls : List (List ℕ)) (p p' : List ℕ) : Type 0 where
  pub channel : (v : ℕ) → 0 < times v (flatten ls) → quad 0 p' v ≡ channel_from first ls v
  pub position : (v : ℕ) → 0 < times v (flatten ls) → quad 1 p' v ≡ position_of ls v
  pub others : (k v : ℕ) → k < 4 → times v (flatten ls) ≡ 0 → quad k p' v ≡ quad k p v
  pub kept : (k v : ℕ) → 2 ≤ k → k < 4 → quad k p' v ≡ quad k p v
  pub long : length p' ≡ length p
