use Rattle.counting.proofs.Prelude.{refl, arith}
use Rattle.planning.proofs.Laying.{none_upto, kept_wider}
use Rattle.planning.proofs.Answers.{none_found, found_apart, beside-all, chained-short, chained-all}
use Rattle.planning.proofs.chained.Goals as goal

-- `planning::chained` meets its contract: nothing is held, and no channel stands before. Assumes nothing.
pub returns-then-places-most : goal.returns-then-places-most
returns-then-places-most c = chained-short _ _ _ _ (omega (arith, c.if-places-most.true)) refl

pub chains-requires : goal.chains-requires
chains-requires c =
    let m = c.min-most.ensures in
    let f = none_found _ _ _ c.matched-predecessor.ensures in (
      omega arith,
      omega arith,
      omega (arith, c.if-places-most.false, c.unplace.ensures.2.long),
      found_apart _ _ _ _ (omega arith) f _ m,
    )

pub returns : goal.returns
returns c =
    let m = c.min-most.ensures in
    let room = c.if-places-most.false in
    let u = c.unplace.ensures in
    let f = none_found _ _ _ c.matched-predecessor.ensures in
    chained-all _ _ _ _ _ _ (omega arith)
    (none_upto _ _ _ (omega (arith, u.0)) u.1)
    (kept_wider _ _ _ u.2 _ (omega (arith, u.0)))
    (beside-all _ _ _ _ _ _ _ _ _ m (omega (arith, room, u.2.long)) (omega arith) f refl c.chains.ensures)
