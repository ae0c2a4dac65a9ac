-- The pairs of a relation in order (SPECIFICATION.md, 1.6). Assumes nothing.
use Rattle.std.specs.Prelude.{Bool, List, [], ◌∷◌, ◌++◌, map, ℕ, zero, suc}
use Rattle.specification.specs.Count.{choose}

-- the numbers below n that pass the test, ascending
unfoldable pub passing : ℕ → (ℕ → Bool) → List ℕ
passing zero f = []
passing (suc n) f = passing n f ++ choose (f n) (λ _. n ∷ []) (λ _. [])

module _ (n : ℕ) (E : ℕ → ℕ → Bool) where
  -- u with each number below n that E relates it to
  abbrev pub pairs_from : ℕ → List (ℕ × ℕ)
  pairs_from u = map (λ v. (u, v)) (passing n (E u))

  -- those from the first k numbers
  unfoldable pub pairs_to : ℕ → List (ℕ × ℕ)
  pairs_to zero = []
  pairs_to (suc u) = pairs_to u ++ pairs_from u

  -- the pairs of numbers below n that E relates, by the first and then by the second
  abbrev pub pairs : List (ℕ × ℕ)
  pairs = pairs_to n
