use Rattle.counting.proofs.Prelude.{refl, List, ℕ, ◌+◌, ◌*◌, ◌≤◌, zero-le, arith, length, get_or}
use Rattle.masks.proofs.Bits.{without}
use Rattle.descent.specs.Steps.Members.{Long}
use Rattle.descent.proofs.Ranking.{row_long}
use Rattle.floors.specs.Steps.{Ample}
use Rattle.floors.proofs.Rising.{climbing_none, climbing_more, climbing_all, stand_low, stand_high}
use Rattle.floors.proofs.lift.Goals as goal
use Rattle.floors.proofs.lift.Goals.{In-loop-r}

pub loop-r-init : goal.loop-r-init
loop-r-init c =
    let a = c.args in
    λ floor slope start. climbing_none a.edges.now a.below.now a.n a.top _ c.requires floor slope a.places.now start

-- the members of the two masks have their masks and places
longs : (c : In-loop-r) → let a = c.args in let r = c.loop-r.r in
    (w : ℕ) (t : List ℕ) → w * a.n ≤ length t
    → Long w t (without (get_or a.below.now (2 * r + 2) 0) (get_or a.below.now (2 * r) 0)) 0
    × Long w t (without (get_or a.below.now (2 * r + 3) 0) (get_or a.below.now (2 * r + 1) 0)) 64
longs c =
    let a = c.args in let ok = c.requires in let r = c.loop-r.r in
    let known = c.type_inv.below in
    row_long a.edges.now a.n a.top a.below.now ok.inside ok.levels r _ _ _ _ c.loop-r-test.true refl refl refl refl
    (known (2 * r)).fits (known (2 * r + 1)).fits

-- a list as long has a place for every head
ample : (c : In-loop-r) → let a = c.args in
    (t : List ℕ) → 4 * a.n ≤ length t → Ample a.edges.now t
ample c t h =
    let ok = c.requires in
    record { room = λ u v arc. omega (arith, ok.inside.head u v arc, h) }

pub push_members-requires : goal.push_members-requires
push_members-requires c =
    let l = c.loop-r in let ok = c.requires in
    let here = (goal.at.push_members-requires c).In-loop-r in
    let room : 4 * c.args.n ≤ length l.places = omega (arith, ok.room, l.auto.places) in
    (zero-le, (longs here 2 _ ok.edges).0, (longs here 4 _ room).0, ample here _ room)

pub push_members-requires-in-loop-r : goal.push_members-requires-in-loop-r
push_members-requires-in-loop-r c =
    let l = c.loop-r in let ok = c.requires in
    let here = (goal.at.push_members-requires-in-loop-r c).In-loop-r in
    let room : 4 * c.args.n ≤ length c.push_members.new.places =
    omega (arith, ok.room, l.auto.places, c.push_members.auto.places) in
    (omega arith, (longs here 2 _ ok.edges).1, (longs here 4 _ room).1, ample here _ room)

pub loop-r-preserved : goal.loop-r-preserved
loop-r-preserved c =
    let l = c.loop-r in let a = c.args in let ok = c.requires in
    let known = c.type_inv.below in
    let low = (known (2 * l.r)).fits in
    let high = (known (2 * l.r + 1)).fits in
    let hr = c.loop-r-test.true in
    λ floor slope start.
    let g = l.invariant floor slope start in
    let up = c.push_members.ensures a.n floor slope g.risen.rising
    (stand_low a.edges.now a.below.now a.n a.top _ ok floor slope l.r a.places.now l.places g _ _ _ _ hr
    refl refl
    refl refl low high) in
    let over = c.push_members-in-loop-r.ensures a.n floor slope up.risen.rising
    (stand_high a.edges.now a.below.now a.n a.top _ ok floor slope l.r a.places.now l.places g _ _ _ _ hr
    refl refl
    refl refl low high _ up) in
    climbing_more a.edges.now a.below.now a.n a.top _ ok floor slope l.r a.places.now l.places g _ _ _ _ hr
    refl
    refl refl refl low high _ up _ over

pub returns : goal.returns
returns c =
    let l = c.loop-r in let a = c.args in let ok = c.requires in
    λ floor slope start.
    climbing_all a.edges.now a.below.now a.n a.top _ ok floor slope l.r a.places.now l.places
    (l.invariant floor slope start) (λ v h. omega (arith, ok.levels.all v h, c.loop-r-test.false))
