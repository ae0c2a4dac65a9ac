use Rattle.counting.proofs.Prelude.{sym, ◌∙◌}
use Rattle.specification.specs.Sets.{at, has?}
use Rattle.masks.proofs.Visiting.{visited_more}
use Rattle.editing.proofs.Detours.{passing_found, passing_none}
use Rattle.editing.proofs.passes.Goals as goal

pub returns-then-contains : goal.returns-then-contains
unfolding at has?
returns-then-contains c =
    let l = c.loop-x in
    sym (passing_found 2 _ _ _ _ l.x l.invariant.1 c.loop-x-test.true (sym c.contains.ensures ∙ c.if-contains.true))

pub loop-x-preserved : goal.loop-x-preserved
unfolding at has?
loop-x-preserved c =
    let l = c.loop-x in (
      l.invariant.0,
      visited_more _ l.x _ l.invariant.1 c.loop-x-test.true _ (λ j e. e) (sym c.contains.ensures ∙ c.if-contains.false),
    )

pub returns : goal.returns
returns c = let l = c.loop-x in sym (passing_none 2 _ _ _ _ l.x l.invariant.1 c.loop-x-test.false)
