-- Worked examples (SPECIFICATION.md, 12.1), and the page's edges.
use Rattle.std.specs.Prelude.{◌≡◌, refl, false, [], ◌∷◌, ℕ, ◌*◌}
use Rattle.std.specs.Float.Ieee.{round}
use Rattle.std.specs.Float.Ieee.Exact.{HasValue}
use Rattle.specification.specs.declared.Cell.{Cell}
use Rattle.specification.specs.Page.{column_pitch, row_pitch, to_points, point_of, answer_for}

abbrev cell : ℕ → ℕ → Cell
cell c r = record { column = c; row = r }

-- column 3 is 126 / 4 = 31.5
column_3 : (3 * column_pitch ≡ 126) × HasValue (point_of (cell 3 0)).x false 126 4 × HasValue (point_of (cell 3 0)).x false 315 10
unfolding to_points round
column_3 = (refl, (refl, refl), (refl, refl))

-- row 3 is 339 / 4 = 84.75
row_3 : (3 * row_pitch ≡ 339) × HasValue (point_of (cell 0 3)).y false 339 4 × HasValue (point_of (cell 0 3)).y false 8475 100
unfolding to_points round
row_3 = (refl, (refl, refl), (refl, refl))

-- row 254, the last, is 28702 / 4 = 7175.5
row_254 : HasValue (point_of (cell 0 254)).y false 28702 4 × HasValue (point_of (cell 0 254)).y false 71755 10
unfolding to_points round
row_254 = ((refl, refl), (refl, refl))

-- the last column and row are drawn
last : (answer_for (cell 639 0 ∷ cell 0 254 ∷ [])).number ≡ 0
last = refl

-- the next ones are 10, in whichever cell
column_640 : (answer_for (cell 640 0 ∷ cell 0 0 ∷ [])).number ≡ 10
column_640 = refl

row_255 : (answer_for (cell 0 0 ∷ cell 0 0 ∷ cell 0 255 ∷ [])).number ≡ 10
row_255 = refl
