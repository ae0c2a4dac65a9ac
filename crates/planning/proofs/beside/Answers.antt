use Rattle.counting.proofs.Prelude.{refl, arith}
use Rattle.planning.proofs.Answers.{found_cleared, found_apart, beside-refused, beside-all}
use Rattle.planning.proofs.beside.Goals as goal

-- `planning::beside` meets its contract: the predecessors are those of the rule. Assumes nothing.
pub returns-then-places-most : goal.returns-then-places-most
returns-then-places-most c =
    let s = c.if-places-most.true in
    beside-refused _ _ _ _ _ _ 8 (λ e. omega arith) (λ l _. omega arith) (λ _. refl) (λ l _. absurd (omega arith)) refl

pub returns-then-first-ge-MOST : goal.returns-then-first-ge-MOST
returns-then-first-ge-MOST c =
    let s = c.if-first-ge-MOST.true in
    let l = c.if-places-most.false in
    beside-refused _ _ _ _ _ _ 2 (λ e. omega arith) (λ _ l. omega arith) (λ l. absurd (omega arith)) (λ _ _. refl) refl

pub chains-requires : goal.chains-requires
chains-requires c =
    let m = c.min-most.ensures in
    let f = found_cleared _ _ _ _ _ _ (omega arith) m c.without.ensures c.matched-predecessor.ensures in (
      omega arith,
      omega (arith, c.if-first-ge-MOST.false),
      omega (arith, c.if-places-most.false),
      found_apart _ _ _ _ (omega arith) f _ m,
    )

pub returns : goal.returns
returns c =
    let m = c.min-most.ensures in
    beside-all _ _ _ _ _ _ _ _ _ m (omega (arith, c.if-places-most.false)) (omega (arith, c.if-first-ge-MOST.false))
    (found_cleared _ _ _ _ _ _ (omega arith) m c.without.ensures c.matched-predecessor.ensures) refl c.chains.ensures
