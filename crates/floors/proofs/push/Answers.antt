use Rattle.counting.proofs.Prelude.{refl, zero-le, arith}
use Rattle.floors.proofs.Pushing.{low_long, high_long, pushed_both}
use Rattle.floors.proofs.push.Goals as goal

pub lift_members-requires : goal.lift_members-requires
lift_members-requires c =
    let a = c.args in
    (zero-le, low_long a.edges.now a.u c.requires.0 a.places.now c.requires.3 _ refl)

pub lift_members-requires-2 : goal.lift_members-requires-2
lift_members-requires-2 c =
    let a = c.args in
    (omega arith, high_long a.edges.now a.u c.requires.0 a.places.now c.requires.3 _ c.lift_members.auto.places)

pub returns : goal.returns
returns c =
    let a = c.args in
    pushed_both a.edges.now a.u c.requires.0 a.places.now _ _ _ c.saturating_add-r.ensures
    c.lift_members.ensures c.lift_members-2.ensures
