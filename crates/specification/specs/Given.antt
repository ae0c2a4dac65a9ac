-- Channels that are given for some of the vertices, or for all (house lines): they come first, in their order, and the other vertices are
-- planned among themselves by the rule (SPECIFICATION.md, 3.2 and 3.5). Assumes nothing.
use Rattle.std.specs.Prelude.{◌≡◌, ◌↔◌, Bool, true, not, ◌&&◌, ℕ, ◌<◌, length, get_or}
use mathlib.Core.List.{List, [], ◌∷◌, ◌++◌, flatten}
use Rattle.specification.specs.Count.{choose}
use Rattle.specification.specs.Channels.{has}
use Rattle.specification.specs.Planning.{planned}

-- a given channel holds v
unfoldable pub held_in : List (List ℕ) → ℕ → Bool
held_in given v = has v (flatten given)

-- `leads` between two vertices that are not held. It is not made anew without the held ones: a route through one of them still counts
unfoldable pub masked : (ℕ → Bool) → (ℕ → ℕ → Bool) → ℕ → ℕ → Bool
masked held leads u v = not (held u) && (not (held v) && leads u v)

-- no vertex of the channel is held
unfoldable pub unheld : (ℕ → Bool) → List ℕ → Bool
unheld held [] = true
unheld held (v ∷ l) = not (held v) && unheld held l

-- the channels with no held vertex, in their order
unfoldable pub without : (ℕ → Bool) → List (List ℕ) → List (List ℕ)
without held [] = []
without held (l ∷ ls) = choose (unheld held l) (λ _. l ∷ without held ls) (λ _. without held ls)

-- the channels of the vertices that no given channel holds, by the rule. A held one leads to none and none to it, so that the rule makes a
-- channel of it alone, which is left out here
unfoldable pub beside : (ℕ → ℕ → Bool) → ℕ → List (List ℕ) → List (List ℕ)
beside leads n given = without (held_in given) (planned (masked (held_in given) leads) n)

-- the given channels, and then those
unfoldable pub with_given : (ℕ → ℕ → Bool) → ℕ → List (List ℕ) → List (List ℕ)
with_given leads n given = given ++ beside leads n given

-- each given channel is a whole part: the part of a vertex of it has the vertices of that channel, and no other
pub record Whole (n : ℕ) (given : List (List ℕ)) (part : ℕ → ℕ) : Type 0 where
  pub exact : (c u v : ℕ) → c < length given → has u (get_or given c []) ≡ true → v < n
      → (part u ≡ part v) ↔ (has v (get_or given c []) ≡ true)
