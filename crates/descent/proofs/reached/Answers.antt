use Rattle.counting.proofs.Prelude.{rules, ◌+◌, ◌*◌, ◌≤◌, ◌<◌, arith, length}
use lib.Count.{count_trailing_zeros}
use Rattle.masks.proofs.Visiting.{lowest-lt, lowest_in}
use Rattle.descent.proofs.Gathering.{gathering_all, pictured_both}
use Rattle.descent.proofs.Skipping.{first_none, first_more, nested_second, covered_second, skip_less}
use Rattle.descent.proofs.reached.Goals as goal
use Rattle.descent.proofs.reached.Goals.{In-loop-x}

pub loop-x-init : goal.loop-x-init
loop-x-init c =
    first_none c.args.table.now c.args.set.low c.args.set.high (search rules)

-- the number of the member is below 64
small : (c : In-loop-x) → count_trailing_zeros 64 c.loop-x.x < 64
small c =
    lowest-lt _ c.loop-x.x _ c.loop-x.invariant.so_far.members c.loop-x-test.true

-- the table has its masks
room : (c : In-loop-x)
    → 2 * (0 + count_trailing_zeros 64 c.loop-x.x) + 2 ≤ length c.args.table.now
room c = let l = c.loop-x in c.requires.0.room _ (small c) (lowest_in _ l.x _ l.invariant.so_far.members c.loop-x-test.true)

pub bounds-table-w : goal.bounds-table-w
bounds-table-w c = omega (arith, room (goal.at.bounds-table-w c).In-loop-x)

pub bounds-table-w-in-loop-x : goal.bounds-table-w-in-loop-x
bounds-table-w-in-loop-x c = omega (arith, room (goal.at.bounds-table-w-in-loop-x c).In-loop-x)

pub loop-x-smaller : goal.loop-x-smaller
loop-x-smaller c =
    let l = c.loop-x in skip_less _ l.x _ l.invariant.so_far.members c.loop-x-test.true _

pub loop-x-preserved : goal.loop-x-preserved
loop-x-preserved c =
    let a = c.args in
    let l = c.loop-x in
    first_more a.table.now a.set.low a.set.high c.requires.2 (λ i. (c.type_inv.table i).fits) l.low l.high l.x l.invariant
    c.loop-x-test.true

pub with_second-requires : goal.with_second-requires
with_second-requires c =
    let a = c.args in
    let l = c.loop-x in (
      c.requires.1,
      nested_second a.table.now a.set.low a.set.high c.requires.2,
      covered_second a.table.now a.set.low a.set.high l.low l.high l.invariant.covered,
    )

pub returns : goal.returns
returns c =
    let a = c.args in
    let l = c.loop-x in
    pictured_both a.table.now a.set.low a.set.high l.low l.high _ _
    (gathering_all a.table.now a.set.low 0 0 0 l.low l.high l.x l.invariant.so_far c.loop-x-test.false)
    c.with_second.ensures
