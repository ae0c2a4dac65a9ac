use Rattle.counting.proofs.Prelude.{refl, ◌+◌, ◌*◌, ◌<◌, arith, rules, length}
use lib.Count.{count_trailing_zeros}
use Rattle.masks.proofs.Visiting.{lowest-lt, lowest_in, visited_less}
use Rattle.floors.proofs.Members.{lifting_none, lifting_more, lifting_all}
use Rattle.floors.proofs.lift_members.Goals as goal
use Rattle.floors.proofs.lift_members.Goals.{In-loop-x}

pub loop-x-init : goal.loop-x-init
loop-x-init c =
    let a = c.args in
    lifting_none a.mask a.base a.r a.places.now c.ranges.mask.fits

-- the number of the member is below 64
small : (c : In-loop-x) → count_trailing_zeros 64 c.loop-x.x < 64
small c =
    lowest-lt _ c.loop-x.x _ c.loop-x.invariant.members c.loop-x-test.true

-- the places have its row
room : (c : In-loop-x)
    → 4 * (c.args.base + count_trailing_zeros 64 c.loop-x.x) + 2 < length c.loop-x.places
room c =
    let l = c.loop-x in
    let k = c.requires.1.room _ (small c) (lowest_in _ l.x _ l.invariant.members c.loop-x-test.true) in
    omega (arith, k, l.auto.places)

pub bounds-places-i : goal.bounds-places-i
bounds-places-i c = omega (arith, room (goal.at.bounds-places-i c).In-loop-x)

pub bounds-places-i-in-loop-x : goal.bounds-places-i-in-loop-x
bounds-places-i-in-loop-x c = omega (arith, room (goal.at.bounds-places-i-in-loop-x c).In-loop-x)

pub loop-x-smaller : goal.loop-x-smaller
loop-x-smaller c =
    visited_less _ c.loop-x.x _ c.loop-x.invariant.members c.loop-x-test.true

pub loop-x-preserved : goal.loop-x-preserved
loop-x-preserved c =
    let a = c.args in
    let l = c.loop-x in
    lifting_more a.mask a.base a.r a.places.now l.places l.x _ _ l.invariant c.loop-x-test.true refl
    (room (goal.at.loop-x-preserved c).In-loop-x) (search rules)

pub returns : goal.returns
returns c =
    let a = c.args in
    let l = c.loop-x in
    lifting_all a.mask a.base a.r a.places.now l.places l.x l.invariant c.loop-x-test.false
