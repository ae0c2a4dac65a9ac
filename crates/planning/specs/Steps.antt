-- Channels laid in a list of places by a table of predecessors. Assumes nothing.
use Rattle.std.specs.Prelude.{◌≡◌, Bool, true, List, [], ◌∷◌, ℕ, zero, suc, ◌+◌, ◌*◌, ◌≤◌, ◌<◌, eqb, ltb, length, get_or, set}
use Rattle.std.proofs.Math.Option.{some}
use Rattle.specification.specs.Count.{choose}
use Rattle.specification.specs.Channels.{times}
use Rattle.specification.specs.Planning.{Held, predecessor_of, matching, successor, begun}
use Rattle.specification.specs.Given.{masked, without}
use Rattle.specification.specs.Sets.{has?}
use Rattle.search.specs.Tabled.{byte_of, Tabled}

-- v gets channel c and position q
abbrev pub placed : ℕ → ℕ → ℕ → List ℕ → List ℕ
placed v c q p = set (set p (4 * v) c) (4 * v + 1) q

-- the predecessors of the first n vertices by a table of bytes, in which 255 stands for none
unfoldable pub held_in : ℕ → List ℕ → List Held
held_in zero P = []
held_in (suc v) P = choose (eqb (get_or P v 0) 255) (λ _. held_in v P)
    (λ _. record { vertex = v; predecessor = get_or P v 0 } ∷ held_in v P)

-- the channels that they make, of those that begin below v
abbrev pub channels_in : ℕ → List ℕ → ℕ → List (List ℕ)
channels_in n P v = begun n (held_in n P) (suc n) v

-- all of them, but for the held vertices
abbrev pub free_in : (ℕ → Bool) → ℕ → List ℕ → List (List ℕ)
free_in held n P = without held (channels_in n P n)

-- r has each vertex's successor by the table P, and 255 where it has none
pub record Successors (n : ℕ) (P r : List ℕ) : Type 0 where
  pub size : length r ≡ 128
  pub each : (h : ℕ) → h < 128 → get_or r h 0 ≡ byte_of (successor n (held_in n P) h)

-- v, the vertex that F has for it, and so on while these are below n, at most k of them
unfoldable pub followed : ℕ → List ℕ → ℕ → ℕ → List ℕ
followed n F zero v = []
followed n F (suc k) v = choose (ltb v n) (λ _. v ∷ followed n F k (get_or F v 0)) (λ _. [])

-- the channel l may be laid as channel c: there is room, no vertex stands in it twice, and each is one of the n
pub record Ready (n : ℕ) (l : List ℕ) (c : ℕ) (p : List ℕ) : Type 0 where
  pub room : 4 * n ≤ length p
  pub byte : c < 256
  pub once : (v : ℕ) → times v l ≤ 1
  pub only : (v : ℕ) → n ≤ v → times v l ≡ 0

-- each predecessor in the table leads to its vertex, by some relation, and neither of the two is held
pub record Apart (held : ℕ → Bool) (n : ℕ) (P : List ℕ) : Type 0 where
  pub leads : ℕ → ℕ → Bool
  pub sound : (v p : ℕ) → predecessor_of (held_in n P) v ≡ some p → (p < n) × (masked held leads p v ≡ true)

-- the table r relates those of the first n vertices that are not held as `table` does, and no other
pub record Cleared (held : ℕ → Bool) (n : ℕ) (table r : List ℕ) : Type 0 where
  pub size : length r ≡ 256
  pub each : (u v : ℕ) → u < n → v < 128 → has? 2 r u v ≡ masked held (has? 2 table) u v

-- P has the predecessors of the rule on `leads` between those of the n vertices that are not held: by a relation that is the same there
pub record Found (held : ℕ → Bool) (leads : ℕ → ℕ → Bool) (n : ℕ) (P : List ℕ) : Type 0 where
  pub by : ℕ → ℕ → Bool
  pub same : (u v : ℕ) → u < n → v < n → by u v ≡ masked held leads u v
  pub tabled : Tabled (matching by n) P
