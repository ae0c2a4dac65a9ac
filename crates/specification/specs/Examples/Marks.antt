-- Worked examples of transitive edges, by computation. Assumes nothing.
use Rattle.std.specs.Prelude.{◌≡◌, refl, true, false, List, [], ◌∷◌, ℕ}
use Rattle.specification.specs.Count.{sum, count, some}
use Rattle.specification.specs.Graph.{edge?, reaches?}
use Rattle.specification.specs.Connection.{longer?, connects}
use Rattle.specification.specs.declared.Connection.{Connection}
use Rattle.specification.specs.Marks.{transitive?, reduced_count, link_count, reduced_link}

-- P4 (SPECIFICATION.md, 16.1): 0→1, 0→2, 1→3, 2→3, 3→4, 0→3
unfoldable pub tails : List ℕ
tails = 0 ∷ 0 ∷ 1 ∷ 2 ∷ 3 ∷ 0 ∷ []

unfoldable pub heads : List ℕ
heads = 1 ∷ 2 ∷ 3 ∷ 3 ∷ 4 ∷ 3 ∷ []

unfoldable pub ask : ℕ → ℕ → Connection
ask = connects (edge? tails heads) 5

-- 0→1, 1→2, 2→3, 0→3: besides its edge, one route leads from 0 to 3, of three edges
unfoldable pub detour_tails : List ℕ
detour_tails = 0 ∷ 1 ∷ 2 ∷ 0 ∷ []

unfoldable pub detour_heads : List ℕ
detour_heads = 1 ∷ 2 ∷ 3 ∷ 3 ∷ []

unfoldable pub detour_ask : ℕ → ℕ → Connection
detour_ask = connects (edge? detour_tails detour_heads) 4

pub record Worked : Type 0 where
  -- of P1's arrows, 5 alone is implied
  pub firm : (transitive? ask 0 1 ≡ false) × (transitive? ask 0 2 ≡ false) × (transitive? ask 1 3 ≡ false)
      × (transitive? ask 2 3 ≡ false) × (transitive? ask 3 4 ≡ false)
  pub implied : transitive? ask 0 3 ≡ true
  pub counted : reduced_count ask 6 tails heads ≡ 5
  pub links : link_count 5 (reduced_link ask tails heads) ≡ 5
  -- an edge is transitive over routes of more than two edges too (16.3)
  pub detour : transitive? detour_ask 0 3 ≡ true
  pub path : reduced_count detour_ask 4 detour_tails detour_heads ≡ 3

pub worked : Worked
unfolding transitive? reduced_count link_count reduced_link edge? reaches? longer? connects count sum some tails heads ask
    detour_tails detour_heads detour_ask
worked = record {
  firm = (refl, refl, refl, refl, refl);
  implied = refl;
  counted = refl;
  links = refl;
  detour = refl;
  path = refl;
}
