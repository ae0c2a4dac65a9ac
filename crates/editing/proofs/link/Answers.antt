use Rattle.counting.proofs.Prelude.{◌≡◌, refl, sym, ap, ◌∙◌, subst, List, [], ◌∷◌, ℕ, ◌+◌, ◌*◌, ◌≤◌, zero-le, arith, length}
use Rattle.counting.proofs.Prelude.{get_or, le-leb}
use Rattle.specification.specs.Sets.{United}
use Rattle.masks.proofs.Tables.{pair_row, absorbed_law}
use Rattle.editing.specs.Promise.{Linked}
use Rattle.editing.proofs.Linking.{Target, target_law, linked_none, linked_set, linked_clear}
use Rattle.editing.proofs.link.Goals as goal
use Rattle.editing.proofs.link.Goals.{then-comes, else-comes}

pub loop-u-init : goal.loop-u-init
loop-u-init c =
    let call = c.insert in
    let t = c.args.reach.now in
    let head = c.args.head in
    let row : List ℕ = get_or t (2 * head) 0 ∷ get_or t (2 * head + 1) 0 ∷ [] in (
      zero-le,
      c.requires.0,
      call.auto.masks,
      subst (Target 2 t head) (sym call.ensures.1)
          (target_law 2 t head row c.requires.2 refl
          (pair_row t head _ _ (ap (λ (i : ℕ). get_or t i 0) (let z : 2 * head ≡ 2 * head + 0 = omega arith in z)) refl)),
      linked_none 2 t c.args.tail head,
    )

pub loop-u-preserved : goal.loop-u-preserved
loop-u-preserved c =
    let a = c.args in
    let l = c.loop-u in
    let row = c.insert.new.masks in
    let e = c.comes.ensures in
    let done : List ℕ → Type 0 = λ s. Linked 2 a.reach.now a.tail a.head (l.u + 1) s in
    elim c.if-comes.branch [
      | then-comes w ↦
          let call = w.unite in
          let size : 2 * l.u + length row ≤ length l.reach = omega arith in
          let united = subst (λ (j : ℕ). United l.reach (2 * l.u) row j call.new.masks) l.invariant.2
          (call.ensures.made (call.ensures.answer ∙ le-leb _ _ size)) in (
            omega arith,
            ap length w.reach-is ∙ call.auto.masks ∙ l.invariant.1,
            l.invariant.2,
            l.invariant.3,
            subst done (sym w.reach-is)
                (linked_set 2 a.reach.now a.tail a.head l.u l.reach l.invariant.4 call.new.masks row (sym e ∙ w.if-comes.true)
                c.requires.1 l.invariant.3 (absorbed_law 2 l.reach l.u row call.new.masks united)),
          )
      | else-comes w ↦ (
        omega arith,
        ap length w.reach-is ∙ l.invariant.1,
        l.invariant.2,
        l.invariant.3,
        subst done (sym w.reach-is)
            (linked_clear 2 a.reach.now a.tail a.head l.u l.reach l.invariant.4 (sym e ∙ w.if-comes.false) c.requires.1),
      )
    ]
