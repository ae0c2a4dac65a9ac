-- The polyline of a cross edge's course.
use Rattle.std.specs.Prelude.{List, [], ◌∷◌}
use Rattle.specification.specs.declared.Course.{Course}
use Rattle.specification.specs.declared.Course.TheVariants.{Straight, Bent}
use Rattle.specification.specs.Geometry.{Point, point, straight}

abbrev pub polyline_of : Course → Point → Point → List Point
polyline_of Straight a b = straight a b
polyline_of (Bent x y) a b = a ∷ point x y ∷ b ∷ []
