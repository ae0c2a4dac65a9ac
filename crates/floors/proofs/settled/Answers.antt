use Rattle.counting.proofs.Prelude.{◌+◌, ◌*◌, ◌≤◌, arith, length, get_or, subst, ℕ}
use Rattle.floors.specs.Steps.{Arrived, Set}
use Rattle.floors.proofs.Settling.{floors_good, slope_of, used_few, settle}
use Rattle.floors.proofs.settled.Goals as goal

pub set_floors-requires : goal.set_floors-requires
set_floors-requires c =
    let room = c.requires.0.room in
    omega (arith, c.requires.0.inside.small, (floors_good _ _ c.requires.1).0)

-- all vertices begin at their floors
begun : (c : goal.After-slice_known-5-1) → Set c.args.n c.args.floors.now c.args.places.now c.set_floors.new.places
begun c =
    let a = c.args in
    subst (λ (n : ℕ). Set n a.floors.now a.places.now c.set_floors.new.places) (floors_good _ _ c.requires.1).0 c.set_floors.ensures

-- and have come to their rows
came : (c : goal.After-slice_known-5-1) → Arrived c.args.edges.now c.args.n (λ v. get_or c.args.floors.now v 0) c.set_floors.new.places
    c.lift.new.places
came c =
    let a = c.args in
    c.lift.ensures (λ v. get_or a.floors.now v 0)
    (slope_of _ _ _ _ _ c.requires.0 a.floors.now (floors_good _ _ c.requires.1).1) (begun c).floored

pub overflow_cast-result : goal.overflow_cast-result
overflow_cast-result c =
    let a = c.args in
    omega (
      arith,
      c.rows_used-used.ensures,
      used_few _ _ _ _ _ c.requires.0 a.floors.now (floors_good _ _ c.requires.1).1 a.places.now _ _ (begun c) (came c),
      c.requires.0.inside.small,
    )

pub returns : goal.returns
returns c =
    let a = c.args in
    let made = c.by_row.ensures in
    let wide : 2 * (a.n + 127) + 2 ≤ length c.by_row.new.sets = omega (arith, made.2, c.requires.2) in
    let long : 4 * a.n ≤ length c.lift.new.places =
    omega (arith, c.lift.auto.places, c.set_floors.auto.places, c.requires.0.room) in
    settle _ _ _ _ _ c.requires.0 a.floors.now (floors_good _ _ c.requires.1).1 a.places.now _ _ (begun c)
    (came c) _ _ _ _ c.rows_used-used.ensures wide long (omega (arith, made.0, made.2)) made.1 made.3
