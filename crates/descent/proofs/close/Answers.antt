use Rattle.counting.proofs.Prelude.{◌≡◌, refl, ◌∙◌, subst, ℕ, ◌+◌, ◌-◌, ◌*◌, ◌≤◌, ◌<◌, zero-le, arith, length}
use Rattle.descent.proofs.Ranking.{inside_ample, row_long, ready_low, ready_high}
use Rattle.descent.proofs.Ranking.{Descended, descended_none, descended_more, descended_all}
use Rattle.descent.proofs.close.Goals as goal
use Rattle.descent.proofs.close.Goals.{In-loop-r}

pub loop-r-init : goal.loop-r-init
loop-r-init c =
    let a = c.args in
    let pre = c.requires in
    let none = descended_none a.edges.now a.n a.top a.below.now pre.5 pre.6 in
    none a.table.now a.longer.now a.places.now

-- the descent so far, one row above the one that is next
so_far : (c : In-loop-r) → let l = c.loop-r in let a = c.args in
    Descended a.edges.now a.n (l.r - 1 + 1) a.table.now a.longer.now a.places.now l.table l.longer l.places
so_far c =
    let l = c.loop-r in
    let a = c.args in
    subst
    (λ (r : ℕ). Descended a.edges.now a.n r a.table.now a.longer.now a.places.now l.table l.longer l.places)
    (let e : l.r ≡ l.r - 1 + 1 = (let k = c.loop-r-test.true in omega arith) in e) l.invariant

pub close_row-requires : goal.close_row-requires
close_row-requires c =
    let a = c.args in
    let pre = c.requires in
    let known = c.type_inv.below in
    let l = c.loop-r in
    let hr : l.r - 1 < a.top = (let i = l.auto.r in let k = c.loop-r-test.true in omega arith) in
    let long = row_long a.edges.now a.n a.top a.below.now pre.5 pre.6 (l.r - 1) _ _ _ _ hr refl refl refl refl
    (known (2 * (l.r - 1))).fits (known (2 * (l.r - 1) + 1)).fits in
    let room : 2 * a.n ≤ length l.table = (let k = pre.2 in let q = l.auto.table in omega arith) in (
      zero-le,
      (long 2 a.edges.now pre.0).0,
      (long 2 l.table room).0,
      (long 2 l.longer (let k = pre.3 in let q = l.auto.longer in omega arith)).0,
      (long 4 l.places (let k = pre.4 in let q = l.auto.places in omega arith)).0,
      inside_ample a.edges.now l.table a.n pre.5 room,
      ready_low a.edges.now a.n a.top a.below.now pre.5 pre.6 (l.r - 1) _ _ _ _ hr refl refl refl refl
          (known (2 * (l.r - 1))).fits (known (2 * (l.r - 1) + 1)).fits
          a.table.now a.longer.now a.places.now l.table l.longer l.places (so_far (goal.at.close_row-requires c).In-loop-r),
    )

pub close_row-requires-in-loop-r : goal.close_row-requires-in-loop-r
close_row-requires-in-loop-r c =
    let a = c.args in
    let pre = c.requires in
    let known = c.type_inv.below in
    let l = c.loop-r in
    let hr : l.r - 1 < a.top = (let i = l.auto.r in let k = c.loop-r-test.true in omega arith) in
    let first = c.close_row in
    let long = row_long a.edges.now a.n a.top a.below.now pre.5 pre.6 (l.r - 1) _ _ _ _ hr refl refl refl refl
    (known (2 * (l.r - 1))).fits (known (2 * (l.r - 1) + 1)).fits in
    let room : 2 * a.n ≤ length first.new.table =
    (let k = pre.2 in let q = first.auto.table ∙ l.auto.table in omega arith) in (
      omega arith,
      (long 2 a.edges.now pre.0).1,
      (long 2 first.new.table room).1,
      (long 2 first.new.longer (let k = pre.3 in let q = first.auto.longer ∙ l.auto.longer in omega arith)).1,
      (long 4 first.new.places (let k = pre.4 in let q = first.auto.places ∙ l.auto.places in omega arith)).1,
      inside_ample a.edges.now first.new.table a.n pre.5 room,
      ready_high a.edges.now a.n a.top a.below.now pre.5 pre.6 (l.r - 1) _ _ _ _ hr refl refl refl refl
          (known (2 * (l.r - 1))).fits (known (2 * (l.r - 1) + 1)).fits
          a.table.now a.longer.now a.places.now l.table l.longer l.places
          (so_far (goal.at.close_row-requires-in-loop-r c).In-loop-r) _ _ _ first.ensures,
    )

pub loop-r-preserved : goal.loop-r-preserved
loop-r-preserved c =
    let a = c.args in
    let pre = c.requires in
    let known = c.type_inv.below in
    let l = c.loop-r in
    let hr : l.r - 1 < a.top = (let i = l.auto.r in let k = c.loop-r-test.true in omega arith) in
    let first = c.close_row in
    let second = c.close_row-in-loop-r in
    descended_more a.edges.now a.n a.top a.below.now pre.5 pre.6 (l.r - 1) _ _ _ _ hr refl refl refl refl
    (known (2 * (l.r - 1))).fits (known (2 * (l.r - 1) + 1)).fits
    a.table.now a.longer.now a.places.now l.table l.longer l.places
    (so_far (goal.at.loop-r-preserved c).In-loop-r) _ _ _ first.ensures _ _ _
    second.ensures

pub returns : goal.returns
returns c =
    let a = c.args in
    let l = c.loop-r in
    descended_all a.edges.now a.n a.top a.below.now c.requires.5 c.requires.6 a.table.now a.longer.now
    a.places.now l.table l.longer l.places
    (subst
    (λ (r : ℕ). Descended a.edges.now a.n r a.table.now a.longer.now a.places.now l.table l.longer l.places)
    (let e : l.r ≡ 0 = (let k = c.loop-r-test.false in omega arith) in e) l.invariant)
