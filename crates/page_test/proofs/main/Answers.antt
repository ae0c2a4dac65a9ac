-- Where a drawn polyline begins follows from what `page` promises of the call.
use mathlib.Core.Path.{◌≡◌, ap, ◌∙◌}
use mathlib.Core.List.{List}
use lib.Ieee.{Float, eq, of_bits, round}
use Rattle.specification.specs.declared.Cell.{Cell}
use Rattle.specification.specs.declared.Polyline.{Polyline}
use Rattle.specification.specs.Page.{to_points, Answer, Answers, answer_of, answer_for}
use Rattle.page_test.specs.Begins.{begins_at}
use Rattle.page_test.proofs.main.Goals as goal

begins : {cs : List Cell} {r : Polyline} (x y : Float) → Answers cs r
    → begins_at (answer_of r).points x y ≡ begins_at (answer_for cs).points x y
begins x y w = ap (λ (a : Answer). begins_at a.points x y) w.answer

pub expect-requires : goal.expect-requires
unfolding to_points round eq of_bits
expect-requires c = c.begins_at.ensures ∙ begins _ _ c.straight.ensures

pub expect-requires-2 : goal.expect-requires-2
unfolding to_points round eq of_bits
expect-requires-2 c = c.begins_at-2.ensures ∙ begins _ _ c.bent.ensures
