use Rattle.counting.proofs.Prelude.{◌≡◌, refl, ◌∙◌, subst, ℕ, ◌+◌, ◌*◌, ◌<◌, zero-le, arith, length, length-set}
use Rattle.descent.proofs.Descending.{stored_law, stored_past}
use Rattle.descent.proofs.Rounding.{Round, round_none, round_long, round_room, round-more, round-over, round-refused}
use Rattle.descent.proofs.grown.Goals as goal

pub loop-r-init : goal.loop-r-init
loop-r-init c =
    let a = c.args in
    let zeros = stored_law a.below.now 0 0 0 (let p = c.requires.3 in omega arith) in (
      c.below_n-all.ensures,
      round_none a.edges.now a.n _ _ a.places.now _ c.requires.0 c.below_n-all.ensures zeros.low zeros.high,
      λ i h. refl,
    )

pub image-entered-requires : goal.image-entered-requires
image-entered-requires c =
    let l = c.loop-r in
    let room = round_long _ _ l.r l.left.low l.left.high _ _ _ l.invariant.1 c.requires.1 in
    (room.0, room.1, c.requires.4, λ v h i. ((l.invariant.1.growing v h).0 i).0)

pub set_rows-requires : goal.set_rows-requires
set_rows-requires c =
    let a = c.args in
    let l = c.loop-r in
    let image = c.image-entered in (
      zero-le,
      (round_room a.edges.now a.n c.requires.4.small l.r l.left.low l.left.high _ _ image.result.low image.result.high _ _
          a.places.now l.places l.below l.invariant.1 l.invariant.0 image.ensures refl refl
          l.places (let k = c.requires.2 in let q = l.auto.places in omega arith)).0,
    )

pub set_rows-requires-in-loop-r : goal.set_rows-requires-in-loop-r
set_rows-requires-in-loop-r c =
    let a = c.args in
    let l = c.loop-r in
    let image = c.image-entered in
    let one = c.set_rows in (
      omega arith,
      (round_room a.edges.now a.n c.requires.4.small l.r l.left.low l.left.high _ _ image.result.low image.result.high _ _
          a.places.now l.places l.below l.invariant.1 l.invariant.0 image.ensures refl refl
          one.new.places (let k = c.requires.2 in let q = one.auto.places ∙ l.auto.places in omega arith)).1,
    )

pub returns-then-low-high-eq0-clause-laid : goal.returns-then-low-high-eq0-clause-laid
returns-then-low-high-eq0-clause-laid c =
    let a = c.args in
    let l = c.loop-r in
    let room : 2 * (l.r + 1) + 1 < length l.below =
    (let q = simp length-set at l.auto.below in omega (arith, c.requires.3, c.loop-r-test.true, q)) in
    let image = c.image-entered in
    let one = c.set_rows in
    let two = c.set_rows-in-loop-r in
    round-over a.edges.now a.n c.requires.4.small l.r l.left.low l.left.high _ _ image.result.low image.result.high _ _
    a.places.now l.places l.below l.invariant.1 l.invariant.0 image.ensures refl refl
    _ _ _ one.ensures two.ensures (stored_law l.below (l.r + 1) _ _ room) c.requires.4 (omega arith) c.if-low-high-eq0.true
    a.below.now
    (λ i h. stored_past l.below (l.r + 1) _ _ i h ∙ l.invariant.2 i (omega arith) ∙ stored_past a.below.now 0 0 0 i (omega arith))

pub loop-r-preserved : goal.loop-r-preserved
loop-r-preserved c =
    let a = c.args in
    let l = c.loop-r in
    let room : 2 * (l.r + 1) + 1 < length l.below =
    (let q = simp length-set at l.auto.below in omega (arith, c.requires.3, c.loop-r-test.true, q)) in
    let image = c.image-entered in
    let one = c.set_rows in
    let two = c.set_rows-in-loop-r in (
      l.invariant.0,
      round-more a.edges.now a.n c.requires.4.small l.r l.left.low l.left.high _ _ image.result.low image.result.high _ _
          a.places.now l.places l.below l.invariant.1 l.invariant.0 image.ensures refl refl
          _ _ _ one.ensures two.ensures (stored_law l.below (l.r + 1) _ _ room) c.if-low-high-eq0.false,
      λ i h. stored_past l.below (l.r + 1) _ _ i h ∙ l.invariant.2 i (omega arith),
    )

pub returns-clause-laid : goal.returns-clause-laid
returns-clause-laid c =
    let a = c.args in
    let l = c.loop-r in
    let e : l.r ≡ a.n = omega (arith, l.auto.r-end, c.loop-r-test.false) in
    round-refused a.edges.now a.n l.left.low l.left.high a.places.now l.places a.below.now l.below c.requires.4
    (subst (λ (r : ℕ). Round a.edges.now a.n r l.left.low l.left.high a.places.now l.places l.below) e l.invariant.1)
    (λ i h. l.invariant.2 i (omega (arith, e, h)) ∙ stored_past a.below.now 0 0 0 i (omega arith))
