-- Worked examples of bundles, by computation. Assumes nothing.
use Rattle.std.specs.Prelude.{◌≡◌, refl, true, List, [], ◌∷◌, ℕ}
use Rattle.specification.specs.Count.{sum, count}
use Rattle.specification.specs.Graph.{edge?}
use Rattle.specification.specs.Bundles.{Bundle, alike, gathers, takes, taken, bundle_of, joined, waits, waits_at, load, before, best}
use Rattle.specification.specs.Bundles.{made, rounds, bundles, adjacent?, apart?, side?, bundles_of}

-- P5 (SPECIFICATION.md, 16.1): four vertices, every edge from a lower to a higher one, in one channel
unfoldable pub tails : List ℕ
tails = 0 ∷ 0 ∷ 0 ∷ 1 ∷ 1 ∷ 2 ∷ []

unfoldable pub heads : List ℕ
heads = 1 ∷ 2 ∷ 3 ∷ 2 ∷ 3 ∷ 3 ∷ []

unfoldable pub p5 : List Bundle
p5 = bundles_of 4 tails heads 1 (λ v. 0) (λ v. v) (λ v. v)

pub record Worked : Type 0 where
  -- one into 3, over rows 0 .. 3, and one into 2, over rows 0 .. 2
  pub two : p5 ≡ record { channel = 0; into = true; vertex = 3; first = 0; last = 3 }
      ∷ record { channel = 0; into = true; vertex = 2; first = 0; last = 2 } ∷ []
  -- the edges 0 → 2, 0 → 3 and 1 → 3
  pub numbers : (bundle_of p5 0 2 ≡ 1) × (bundle_of p5 0 3 ≡ 0) × (bundle_of p5 1 3 ≡ 0)

pub worked : Worked
unfolding p5 bundles_of bundles rounds made best before load waits_at waits taken takes gathers alike bundle_of joined side? apart?
    adjacent?
    edge? count sum tails heads
worked = record { two = refl; numbers = (refl, refl, refl) }
