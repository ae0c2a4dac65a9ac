use Rattle.counting.proofs.Prelude.{refl, ◌<◌, arith}
use lib.Count.{count_trailing_zeros}
use Rattle.masks.proofs.Visiting.{visited_none, visited_more, lowest-lt, lowest_in, visited_less}
use Rattle.floors.proofs.Pushing.{pushing_none, pushing_more, pushing_all}
use Rattle.floors.proofs.push_members.Goals as goal
use Rattle.floors.proofs.push_members.Goals.{In-loop-x}

pub loop-x-init : goal.loop-x-init
loop-x-init c =
    let a = c.args in
    let fits = c.ranges.mask.fits in (
      visited_none a.mask (λ j. Unit {0}) fits,
      λ n floor slope g stand. pushing_none a.edges.now n floor a.mask a.base a.places.now slope stand g fits,
    )

-- the number of the member is below 64
small : (c : In-loop-x) → count_trailing_zeros 64 c.loop-x.x < 64
small c = let l = c.loop-x in lowest-lt _ l.x _ l.invariant.0 c.loop-x-test.true

pub push-requires : goal.push-requires
push-requires c =
    let l = c.loop-x in let k = small (goal.at.push-requires c).In-loop-x in
    let inside = lowest_in _ l.x _ l.invariant.0 c.loop-x-test.true in (
      omega (arith, k, c.requires.0),
      c.requires.1.room _ k inside,
      omega (arith, c.requires.2.room _ k inside, l.auto.places),
      record { room = λ u v a. omega (arith, c.requires.3.room u v a, l.auto.places) },
    )

pub loop-x-smaller : goal.loop-x-smaller
loop-x-smaller c =
    let l = c.loop-x in
    visited_less _ l.x _ l.invariant.0 c.loop-x-test.true

pub loop-x-preserved : goal.loop-x-preserved
loop-x-preserved c =
    let call = c.push in
    let l = c.loop-x in
    let a = c.args in
    let ne = c.loop-x-test.true in (
      visited_more _ l.x _ l.invariant.0 ne (λ j. Unit {0}) (λ j t. t) tt,
      λ n floor slope g stand. pushing_more a.edges.now n floor a.mask a.base a.places.now slope stand l.places l.x _ _
          (l.invariant.1 n floor slope g stand) ne refl call.ensures,
    )

pub returns : goal.returns
returns c =
    let l = c.loop-x in
    let a = c.args in
    λ n floor slope g stand. pushing_all a.edges.now n floor a.mask a.base a.places.now slope stand l.places l.x
    (l.invariant.1 n floor slope g stand) c.loop-x-test.false
