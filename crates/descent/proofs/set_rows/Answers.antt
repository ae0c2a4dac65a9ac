use Rattle.counting.proofs.Prelude.{refl, ◌+◌, ◌*◌, ◌<◌, arith, length}
use lib.Count.{count_trailing_zeros}
use Rattle.masks.proofs.Visiting.{lowest-lt, lowest_in, visited_less}
use Rattle.descent.proofs.Rowing.{writing_none, writing_more, writing_all}
use Rattle.descent.proofs.set_rows.Goals as goal
use Rattle.descent.proofs.set_rows.Goals.{In-loop-x}

pub loop-x-init : goal.loop-x-init
loop-x-init c =
    writing_none c.args.mask c.args.base c.args.r c.args.places.now c.ranges.mask.fits

-- the number of the member is below 64
small : (c : In-loop-x) → count_trailing_zeros 64 c.loop-x.x < 64
small c =
    lowest-lt _ c.loop-x.x _ c.loop-x.invariant.members c.loop-x-test.true

-- the places have its row
room : (c : In-loop-x)
    → 4 * (c.args.base + count_trailing_zeros 64 c.loop-x.x) + 2 < length c.loop-x.places
room c =
    let l = c.loop-x in
    let k = c.requires.1.room _ (small c) (lowest_in _ l.x _ l.invariant.members c.loop-x-test.true) in
    omega (arith, k, l.auto.places)

pub bounds-places-v : goal.bounds-places-v
bounds-places-v c = omega (arith, room (goal.at.bounds-places-v c).In-loop-x)

pub loop-x-smaller : goal.loop-x-smaller
loop-x-smaller c =
    visited_less _ c.loop-x.x _ c.loop-x.invariant.members c.loop-x-test.true

pub loop-x-preserved : goal.loop-x-preserved
loop-x-preserved c =
    let a = c.args in
    let l = c.loop-x in
    writing_more a.mask a.base a.r a.places.now l.places l.x _ l.invariant c.loop-x-test.true refl
    (room (goal.at.loop-x-preserved c).In-loop-x)

pub returns : goal.returns
returns c =
    let a = c.args in
    let l = c.loop-x in
    writing_all a.mask a.base a.r a.places.now l.places l.x l.invariant c.loop-x-test.false
