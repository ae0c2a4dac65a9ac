-- Where a list of points begins.
use Rattle.std.specs.Prelude.{Bool, false, ◌&&◌, List, [], ◌∷◌, Float}
use Rattle.std.specs.Float.Ieee.{eq}
use Rattle.specification.specs.declared.Point.{Point}

abbrev pub begins_at : List Point → Float → Float → Bool
begins_at [] x y = false
begins_at (p ∷ ps) x y = eq p.x x && eq p.y y
