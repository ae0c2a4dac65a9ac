-- Worked examples of given channels and those planned beside them, by computation. Assumes nothing.
use Rattle.std.specs.Prelude.{◌≡◌, refl, Bool, ℕ}
use mathlib.Core.List.{[], ◌∷◌, flatten}
use Rattle.specification.specs.Planning.{predecessor_of, none?, is?, candidate, marked, taken, answered, freed, scan, augment, asks}
use Rattle.specification.specs.Planning.{matching_to, matching, successor_from, successor, chain, begins, begun, planned_to, planned}
use Rattle.specification.specs.Channels.{has}
use Rattle.specification.specs.Given.{held_in, masked, unheld, without, beside, with_given}
use Rattle.specification.specs.Examples.Planning.{among, related, p2}

-- 0→1, 1→2, with what follows: 0→2
unfoldable pub path : ℕ → ℕ → Bool
unfolding related
path = related ((1 ∷ 2 ∷ []) ∷ (2 ∷ []) ∷ [])

pub record Worked : Type 0 where
  -- three channels, where the rule has two with none given
  pub more : with_given p2 5 ((0 ∷ 3 ∷ []) ∷ []) ≡ (0 ∷ 3 ∷ []) ∷ (1 ∷ 4 ∷ []) ∷ (2 ∷ []) ∷ []
  -- 0 leads to 2 by the held 1
  pub through : with_given path 3 ((1 ∷ []) ∷ []) ≡ (1 ∷ []) ∷ (0 ∷ 2 ∷ []) ∷ []
  -- not in the order of their numbers
  pub in_order : with_given p2 5 ((3 ∷ []) ∷ (1 ∷ []) ∷ []) ≡ (3 ∷ []) ∷ (1 ∷ []) ∷ (0 ∷ 2 ∷ 4 ∷ []) ∷ []
  pub none : with_given p2 5 [] ≡ planned p2 5
  pub all : with_given path 3 ((2 ∷ []) ∷ (0 ∷ 1 ∷ []) ∷ []) ≡ (2 ∷ []) ∷ (0 ∷ 1 ∷ []) ∷ []

pub worked : Worked
unfolding planned planned_to begun begins chain successor successor_from matching matching_to asks augment scan freed candidate marked taken
    answered predecessor_of none? is? has flatten held_in masked unheld without beside with_given p2 path related among
worked = record { more = refl; through = refl; in_order = refl; none = refl; all = refl }
