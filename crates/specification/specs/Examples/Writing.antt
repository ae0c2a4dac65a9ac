-- Worked examples of writing, by computation. Assumes nothing.
use Rattle.std.specs.Prelude.{◌≡◌, refl, Bool, true, false, List, [], ◌∷◌, ℕ, take, replicate}
use Rattle.specification.specs.Writing.{Draft, field, end_bytes, line_bytes, channel_field, floor_field, written}

abbrev draft : ℕ → List (ℕ × ℕ) → Bool → List (List ℕ) → Bool → List ℕ → Draft
draft n edges given channels floored floors =
    record { vertices = n; edges = edges; given = given; channels = channels; floored = floored; floors = floors }

pub record Worked : Type 0 where
  -- three words, 0→1 and 2→1, lines 0 1 and 2
  pub lined : written (draft 3 ((0, 1) ∷ (2, 1) ∷ []) true ((0 ∷ 1 ∷ []) ∷ (2 ∷ []) ∷ []) false [])
      ≡ 1 ∷ 0 ∷ 1 ∷ 3 ∷ 2 ∷ 0 ∷ 4 ∷ 0 ∷ 1 ∷ 2 ∷ 1 ∷ 3 ∷ 0 ∷ 5 ∷ 2 ∷ 0 ∷ 1 ∷ 1 ∷ 2 ∷ []
  -- one word; tag 3 of size 0, and left out
  pub empty : written (draft 1 [] true [] false []) ≡ 1 ∷ 0 ∷ 1 ∷ 1 ∷ 2 ∷ 0 ∷ 0 ∷ 3 ∷ 0 ∷ 0 ∷ []
  pub bare : written (draft 1 [] false [] false []) ≡ 1 ∷ 0 ∷ 1 ∷ 1 ∷ 2 ∷ 0 ∷ 0 ∷ []
  -- with floors, behind given channels and alone
  pub floored : written (draft 1 [] true ((0 ∷ []) ∷ []) true (9 ∷ []))
      ≡ 1 ∷ 0 ∷ 1 ∷ 1 ∷ 2 ∷ 0 ∷ 0 ∷ 3 ∷ 0 ∷ 2 ∷ 1 ∷ 0 ∷ 4 ∷ 0 ∷ 1 ∷ 9 ∷ []
  pub floors_alone : written (draft 1 [] false [] true (9 ∷ [])) ≡ 1 ∷ 0 ∷ 1 ∷ 1 ∷ 2 ∷ 0 ∷ 0 ∷ 4 ∷ 0 ∷ 1 ∷ 9 ∷ []
  -- 258 bytes: the higher byte of the size goes first
  pub long : take 4 (field 2 (replicate 258 7)) ≡ 2 ∷ 1 ∷ 2 ∷ 7 ∷ []

pub worked : Worked
unfolding written field end_bytes line_bytes channel_field floor_field
worked = record { lined = refl; empty = refl; bare = refl; floored = refl; floors_alone = refl; long = refl }
