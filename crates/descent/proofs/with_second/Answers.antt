use Rattle.counting.proofs.Prelude.{◌+◌, ◌*◌, ◌≤◌, ◌<◌, arith, length}
use lib.Count.{count_trailing_zeros}
use Rattle.masks.proofs.Visiting.{lowest-lt, lowest_in}
use Rattle.descent.proofs.Gathering.{gathering_all}
use Rattle.descent.proofs.Skipping.{second_none, second_more, skip_less}
use Rattle.descent.proofs.with_second.Goals as goal
use Rattle.descent.proofs.with_second.Goals.{In-loop-x}

pub loop-x-init : goal.loop-x-init
loop-x-init c =
    let a = c.args in
    second_none a.table.now a.mask c.requires.1 a.set.low a.set.high (omega arith) c.ranges.mask.fits c.requires.2

-- the number of the member is below 64
small : (c : In-loop-x) → count_trailing_zeros 64 c.loop-x.x < 64
small c =
    lowest-lt _ c.loop-x.x _ c.loop-x.invariant.so_far.members c.loop-x-test.true

-- the table has its masks
room : (c : In-loop-x)
    → 2 * (64 + count_trailing_zeros 64 c.loop-x.x) + 2 ≤ length c.args.table.now
room c = let l = c.loop-x in c.requires.0.room _ (small c) (lowest_in _ l.x _ l.invariant.so_far.members c.loop-x-test.true)

pub bounds-table-w : goal.bounds-table-w
bounds-table-w c = omega (arith, room (goal.at.bounds-table-w c).In-loop-x)

pub bounds-table-w-in-loop-x : goal.bounds-table-w-in-loop-x
bounds-table-w-in-loop-x c = omega (arith, room (goal.at.bounds-table-w-in-loop-x c).In-loop-x)

pub loop-x-smaller : goal.loop-x-smaller
loop-x-smaller c =
    let l = c.loop-x in skip_less _ l.x _ l.invariant.so_far.members c.loop-x-test.true _

pub loop-x-preserved : goal.loop-x-preserved
loop-x-preserved c =
    let a = c.args in
    let l = c.loop-x in
    second_more a.table.now a.mask c.requires.1 (λ i. (c.type_inv.table i).fits) a.set.low a.set.high l.low l.high l.x l.invariant
    c.loop-x-test.true

pub returns : goal.returns
returns c =
    let a = c.args in
    let l = c.loop-x in
    gathering_all a.table.now a.mask 64 a.set.low a.set.high l.low l.high l.x l.invariant.so_far c.loop-x-test.false
