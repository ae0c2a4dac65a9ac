-- Where a cell is, if it is on the page. Assumes nothing.
use Rattle.std.specs.Prelude.{Bool, true, false, Option, Some, None}
use Rattle.specification.specs.declared.Cell.{Cell}
use Rattle.specification.specs.declared.Point.{Point}
use Rattle.specification.specs.Page.{point_of, off_page}

abbrev pub place_if : Bool → Point → Option Point
place_if true p = None
place_if false p = Some p

abbrev pub place_of : Cell → Option Point
place_of c = place_if (off_page c) (point_of c)
