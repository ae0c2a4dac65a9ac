-- Worked examples of the rule, by computation. Assumes nothing.
use Rattle.std.specs.Prelude.{◌≡◌, refl, Bool, List, [], ◌∷◌, ℕ, ltb, get_or}
use Rattle.std.proofs.Math.Option.{some}
use Rattle.specification.specs.Planning.{predecessor_of, none?, is?, candidate, marked, taken, answered, freed, scan, augment, asks}
use Rattle.specification.specs.Planning.{matching_to, matching, successor_from, successor, chain, begins, begun, planned_to, planned}
use Rattle.specification.specs.Channels.{has, place_from, channel_from, channel_of, position_of}

-- the relation in which u leads to the vertices of the list at u
unfoldable pub among : List ℕ → ℕ → Bool
unfolding has
among l v = has v l

unfoldable pub related : List (List ℕ) → ℕ → ℕ → Bool
unfolding among
related rows u v = among (get_or rows u []) v

-- P2 (SPECIFICATION.md, 16.1): 0→1, 0→2, 1→3, 2→3, 3→4, 0→3, with all that follows from them
unfoldable pub p2 : ℕ → ℕ → Bool
unfolding related
p2 = related ((1 ∷ 2 ∷ 3 ∷ 4 ∷ []) ∷ (3 ∷ 4 ∷ []) ∷ (3 ∷ 4 ∷ []) ∷ (4 ∷ []) ∷ [])

-- wrong readings (SPECIFICATION.md, 16.3): 0→2, 0→3, 1→2; and 0→2, 1→2, 2→3, 2→4, by arrows alone and with all that follows
unfoldable pub keep : ℕ → ℕ → Bool
unfolding related
keep = related ((2 ∷ 3 ∷ []) ∷ (2 ∷ []) ∷ [])

unfoldable pub arrows : ℕ → ℕ → Bool
unfolding related
arrows = related ((2 ∷ []) ∷ (2 ∷ []) ∷ (3 ∷ 4 ∷ []) ∷ [])

unfoldable pub routes : ℕ → ℕ → Bool
unfolding related
routes = related ((2 ∷ 3 ∷ 4 ∷ []) ∷ (2 ∷ 3 ∷ 4 ∷ []) ∷ (3 ∷ 4 ∷ []) ∷ [])

-- 1 tries the held 2 before the free 3, and 0 moves on to 4
unfoldable pub lower : ℕ → ℕ → Bool
unfolding related
lower = related ((2 ∷ 4 ∷ []) ∷ (2 ∷ 3 ∷ []) ∷ [])

-- each leads to every later one
unfoldable pub all : ℕ → ℕ → Bool
all u v = ltb u v

-- no order at all: 0 and 1 lead to each other, and no channel begins
unfoldable pub ring : ℕ → ℕ → Bool
unfolding related
ring = related ((1 ∷ []) ∷ (0 ∷ []) ∷ [])

-- 0 leads to all, 1 to itself and 2, 2 to 0: whoever is asked does not try again what was tried before
unfoldable pub round : ℕ → ℕ → Bool
unfolding related
round = related ((0 ∷ 1 ∷ 2 ∷ []) ∷ (1 ∷ 2 ∷ []) ∷ (0 ∷ []) ∷ [])

-- at last 4 takes 0 from 3, that takes 2 from 1, and that takes 3: in one search nobody tries again what was tried
unfoldable pub once : ℕ → ℕ → Bool
unfolding related
once = related ([] ∷ (0 ∷ 2 ∷ 3 ∷ 4 ∷ []) ∷ [] ∷ (0 ∷ 2 ∷ 4 ∷ []) ∷ (0 ∷ 2 ∷ []) ∷ [])

pub record Worked : Type 0 where
  pub tried-once :
      (predecessor_of (matching round 3) 0 ≡ some 2) × (predecessor_of (matching round 3) 1 ≡ some 0)
      × (predecessor_of (matching round 3) 2 ≡ some 1)
  pub proof_table : planned p2 5 ≡ (0 ∷ 1 ∷ 4 ∷ []) ∷ (2 ∷ 3 ∷ []) ∷ []
  pub moved : planned keep 4 ≡ (0 ∷ 3 ∷ []) ∷ (1 ∷ 2 ∷ []) ∷ []
  pub by_routes : planned routes 5 ≡ (0 ∷ 2 ∷ 3 ∷ []) ∷ (1 ∷ 4 ∷ []) ∷ []
  pub by_arrows : planned arrows 5 ≡ (0 ∷ 2 ∷ 3 ∷ []) ∷ (1 ∷ []) ∷ (4 ∷ []) ∷ []
  pub ascending : planned lower 5 ≡ (0 ∷ 4 ∷ []) ∷ (1 ∷ 2 ∷ []) ∷ (3 ∷ []) ∷ []
  pub not_again : planned once 5 ≡ (1 ∷ 3 ∷ 2 ∷ []) ∷ (4 ∷ 0 ∷ []) ∷ []
  pub single : planned all 4 ≡ (0 ∷ 1 ∷ 2 ∷ 3 ∷ []) ∷ []
  pub none : planned ring 2 ≡ []
  pub places : (channel_of (planned p2 5) 3 ≡ 1) × (position_of (planned p2 5) 4 ≡ 2)

pub worked : Worked
unfolding planned planned_to begun begins chain successor successor_from matching matching_to asks augment scan freed candidate marked taken
    answered predecessor_of none? is? has channel_from channel_of position_of place_from p2 keep arrows routes lower all ring round once
    related
    among
worked = record {
  tried-once = (refl, refl, refl);
  proof_table = refl;
  moved = refl;
  by_routes = refl;
  by_arrows = refl;
  ascending = refl;
  not_again = refl;
  single = refl;
  none = refl;
  places = (refl, refl);
}
