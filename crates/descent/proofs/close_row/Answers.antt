use Rattle.counting.proofs.Prelude.{refl, ◌<◌, arith}
use lib.Count.{count_trailing_zeros}
use Rattle.masks.proofs.Visiting.{lowest-lt, lowest_in, visited_less}
use Rattle.descent.proofs.Rowing.{ample_same, closing_none, closing_more, closing_all}
use Rattle.descent.proofs.close_row.Goals as goal
use Rattle.descent.proofs.close_row.Goals.{In-loop-x}

pub loop-x-init : goal.loop-x-init
loop-x-init c =
    let a = c.args in
    closing_none a.edges.now a.mask a.base a.table.now a.longer.now a.places.now c.ranges.mask.fits

-- the number of the member is below 64
small : (c : In-loop-x) → count_trailing_zeros 64 c.loop-x.x < 64
small c =
    lowest-lt _ c.loop-x.x _ c.loop-x.invariant.members c.loop-x-test.true

pub close_vertex-requires : goal.close_vertex-requires
close_vertex-requires c =
    let l = c.loop-x in
    let k = small (goal.at.close_vertex-requires c).In-loop-x in
    let base = c.requires.0 in
    let inside = lowest_in _ l.x _ l.invariant.members c.loop-x-test.true in
    let e = c.requires.1.room _ k inside in
    let t = c.requires.2.room _ k inside in
    let f = c.requires.3.room _ k inside in
    let g = c.requires.4.room _ k inside in
    let q = l.auto.table in
    let p = l.auto.longer in
    let o = l.auto.places in (
      omega arith,
      e,
      omega arith,
      omega arith,
      omega arith,
      ample_same _ _ _ q c.requires.5,
      λ w arc. (l.invariant.kept w (c.requires.6 _ k inside w arc)).reached,
    )

pub loop-x-smaller : goal.loop-x-smaller
loop-x-smaller c =
    let l = c.loop-x in visited_less _ l.x _ l.invariant.members c.loop-x-test.true

pub loop-x-preserved : goal.loop-x-preserved
loop-x-preserved c =
    let a = c.args in
    let l = c.loop-x in
    closing_more a.edges.now a.mask a.base a.table.now a.longer.now a.places.now l.table l.longer l.places
    l.x _ _ _ _ l.invariant c.loop-x-test.true refl c.close_vertex.ensures

pub returns : goal.returns
returns c =
    let a = c.args in
    let l = c.loop-x in
    closing_all a.edges.now a.mask a.base a.table.now a.longer.now a.places.now l.table l.longer l.places
    l.x l.invariant c.loop-x-test.false
