use Rattle.counting.proofs.Prelude.{refl, ◌+◌, ◌*◌, ◌≤◌, ◌<◌, arith, length}
use lib.Count.{count_trailing_zeros}
use Rattle.masks.proofs.Visiting.{lowest-lt, lowest_in, visited_less}
use Rattle.descent.proofs.Gathering.{gathering_none, gathering_more, gathering_all}
use Rattle.descent.proofs.gather.Goals as goal
use Rattle.descent.proofs.gather.Goals.{In-loop-x}

pub loop-x-init : goal.loop-x-init
loop-x-init c =
    let a = c.args in gathering_none a.table.now a.mask a.base a.set.low a.set.high c.ranges.mask.fits

-- the number of the member is below 64
small : (c : In-loop-x) → count_trailing_zeros 64 c.loop-x.x < 64
small c =
    lowest-lt _ c.loop-x.x _ c.loop-x.invariant.members c.loop-x-test.true

-- the table has its masks
room : (c : In-loop-x) → let a = c.args in
    2 * (a.base + count_trailing_zeros 64 c.loop-x.x) + 2 ≤ length a.table.now
room c = let l = c.loop-x in c.requires.1.room _ (small c) (lowest_in _ l.x _ l.invariant.members c.loop-x-test.true)

pub bounds-table-w : goal.bounds-table-w
bounds-table-w c = omega (arith, room (goal.at.bounds-table-w c).In-loop-x)

pub bounds-table-w-in-loop-x : goal.bounds-table-w-in-loop-x
bounds-table-w-in-loop-x c = omega (arith, room (goal.at.bounds-table-w-in-loop-x c).In-loop-x)

pub loop-x-smaller : goal.loop-x-smaller
loop-x-smaller c =
    let l = c.loop-x in visited_less _ l.x _ l.invariant.members c.loop-x-test.true

pub loop-x-preserved : goal.loop-x-preserved
loop-x-preserved c =
    let a = c.args in
    let l = c.loop-x in
    gathering_more a.table.now a.mask a.base a.set.low a.set.high l.low l.high l.x _ _ _ l.invariant
    c.loop-x-test.true refl refl refl

pub returns : goal.returns
returns c =
    let a = c.args in
    let l = c.loop-x in
    gathering_all a.table.now a.mask a.base a.set.low a.set.high l.low l.high l.x l.invariant c.loop-x-test.false
