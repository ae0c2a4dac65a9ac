-- Worked examples of tracks, by computation. Assumes nothing.
use Rattle.std.specs.Prelude.{◌≡◌, refl, List, [], ◌∷◌, ℕ, take, get_or, eqb}
use Rattle.specification.specs.Count.{sum, count, some}
use Rattle.specification.specs.Tracks.{lowest_free, earlier, meet, blocks, busy, placed, in_row, in_rows, different_in}

-- by lists, of bundles that begin below so many rows
unfoldable pub within : ℕ → ℕ → List ℕ → List ℕ → List ℕ → List ℕ
within rows n channel first last = take n (in_rows n (λ b. get_or channel b 0) (λ b. get_or first b 0) (λ b. get_or last b 0) rows)

pub record Worked : Type 0 where
  -- P5 (SPECIFICATION.md, 16.1): rows 0 to 3 and 0 to 2
  pub p5 : within 1 2 (0 ∷ 0 ∷ []) (0 ∷ 0 ∷ []) (3 ∷ 2 ∷ []) ≡ 0 ∷ 1 ∷ []
  -- a wrong reading (16.3): rows 0 .. 2 and 2 .. 4 share row 2; rows 3 to 4 fit beside the first
  pub shared : within 4 3 (0 ∷ 0 ∷ 0 ∷ []) (2 ∷ 0 ∷ 3 ∷ []) (4 ∷ 2 ∷ 4 ∷ []) ≡ 1 ∷ 0 ∷ 0 ∷ []
  -- bundles of different channels never meet
  pub channels : within 1 2 (0 ∷ 1 ∷ []) (0 ∷ 0 ∷ []) (3 ∷ 2 ∷ []) ≡ 0 ∷ 0 ∷ []
  -- different values, not 1 + the highest
  pub two : different_in 4 (λ b. eqb (get_or (0 ∷ 0 ∷ 1 ∷ 0 ∷ []) b 0) 0) (λ b. get_or (7 ∷ 2 ∷ 5 ∷ 7 ∷ []) b 0) ≡ 2

pub worked : Worked
unfolding within in_rows in_row placed busy blocks meet earlier lowest_free different_in count sum some
worked = record { p5 = refl; shared = refl; channels = refl; two = refl }
