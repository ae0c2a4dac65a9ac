use Rattle.counting.proofs.Prelude.{◌≡◌, refl, ◌+◌, ◌*◌, ◌≤◌, ◌<◌, arith, length}
use lib.Count.{count_trailing_zeros}
use Rattle.masks.proofs.Visiting.{lowest-lt, lowest_in, visited_less}
use Rattle.descent.proofs.Gathering.{gathering_none, gathering_more, gathering_all}
use Rattle.descent.proofs.gather_first.Goals as goal
use Rattle.descent.proofs.gather_first.Goals.{In-loop-x}

pub loop-x-init : goal.loop-x-init
loop-x-init c = let a = c.args in (0, gathering_none a.table.now a.mask 0 0 0 c.ranges.mask.fits)

-- the number of the member is below 64
small : (c : In-loop-x) → count_trailing_zeros 64 c.loop-x.x < 64
small c =
    lowest-lt _ c.loop-x.x _ c.loop-x.invariant.1.members c.loop-x-test.true

-- the table has its masks
room : (c : In-loop-x) → let a = c.args in
    2 * (0 + count_trailing_zeros 64 c.loop-x.x) + 2 ≤ length a.table.now
room c = let l = c.loop-x in c.requires.room _ (small c) (lowest_in _ l.x _ l.invariant.1.members c.loop-x-test.true)

pub bounds-table-w : goal.bounds-table-w
bounds-table-w c = omega (arith, room (goal.at.bounds-table-w c).In-loop-x)

pub loop-x-smaller : goal.loop-x-smaller
loop-x-smaller c =
    let l = c.loop-x in visited_less _ l.x _ l.invariant.1.members c.loop-x-test.true

pub loop-x-preserved : goal.loop-x-preserved
loop-x-preserved c =
    let t = c.args.table.now in
    let mask = c.args.mask in
    let l = c.loop-x in
    let w = count_trailing_zeros 64 l.x in
    let at : w ≡ 0 + w = omega arith in
    (_, gathering_more t mask 0 0 0 l.low l.invariant.0 l.x w _ _ l.invariant.1 c.loop-x-test.true at refl refl)

pub returns : goal.returns
returns c =
    let t = c.args.table.now in
    let mask = c.args.mask in
    let l = c.loop-x in
    record { second = l.invariant.0; gathered = gathering_all t mask 0 0 0 l.low l.invariant.0 l.x l.invariant.1 c.loop-x-test.false }
