-- Page strokes as numbers. Assumes nothing.
use Rattle.std.specs.Prelude.{◌≡◌, List}
use Rattle.specification.specs.Page.{answer_for, AllAt}
use Rattle.specification.specs.declared.Cell.{Cell}
use Rattle.specification.specs.declared.Stroke.{Stroke}
use Rattle.specification.specs.Strokes.{stroke_for}

-- r is the stroke through these cells: 10 where one of them is off the page, else each point exactly at its cell
pub record Drawn (cs : List Cell) (r : Stroke) : Type 0 where
  pub stroke : r ≡ stroke_for (answer_for cs)
  pub exact : r.refusal ≡ 0 → AllAt cs (answer_for cs).points
