-- Worked examples of rows, by computation. Assumes nothing.
use Rattle.std.specs.Prelude.{◌≡◌, refl, List, [], ◌∷◌, ℕ}
use Rattle.specification.specs.Count.{above}
use Rattle.specification.specs.Graph.{edge?}
use Rattle.specification.specs.Rows.{row_within, row, rows_used}

-- P3 (SPECIFICATION.md, 16.1): 0→1, 0→2, 1→3, 2→3, 3→4, 0→3 have rows 0 1 1 2 3
unfoldable pub tails : List ℕ
tails = 0 ∷ 0 ∷ 1 ∷ 2 ∷ 3 ∷ 0 ∷ []

unfoldable pub heads : List ℕ
heads = 1 ∷ 2 ∷ 3 ∷ 3 ∷ 4 ∷ 3 ∷ []

p3 : (row (edge? tails heads) (λ _. 0) 5 0 ≡ 0) × (row (edge? tails heads) (λ _. 0) 5 1 ≡ 1) × (row (edge? tails heads) (λ _. 0) 5 2 ≡ 1)
    × (row (edge? tails heads) (λ _. 0) 5 3 ≡ 2) × (row (edge? tails heads) (λ _. 0) 5 4 ≡ 3)
unfolding row_within above edge? tails heads
p3 = (refl, refl, refl, refl, refl)

p3_used : rows_used (edge? tails heads) (λ _. 0) 5 ≡ 4
unfolding row_within above edge? tails heads
p3_used = refl
