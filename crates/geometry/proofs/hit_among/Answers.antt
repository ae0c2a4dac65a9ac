use Rattle.counting.proofs.Prelude.{arith, rules}
use Rattle.masks.proofs.Visiting.{visited_more}
use Rattle.geometry.proofs.Among.{struck_here, struck_none}
use Rattle.geometry.proofs.hit_among.Goals as goal
use Rattle.geometry.proofs.hit_among.Goals.{else-w-n-via-then-w-n+else-inside, else-w-n-via-else-w-n}

-- `geometry::hit_among` meets its contract. Assumes nothing.
pub returns-then-inside : goal.returns-then-inside
returns-then-inside c =
    struck_here _ _ _ _ _ _ _ c.loop-x.invariant c.loop-x-test.true (search rules) (c.inside.ensures.holds c.if-inside.true)

pub loop-x-preserved : goal.loop-x-preserved
loop-x-preserved c =
    elim c.else-w-n.branch [
      | else-w-n-via-then-w-n+else-inside w ↦
          visited_more _ _ _ c.loop-x.invariant c.loop-x-test.true _ (λ j p. p) (λ _. w.inside.ensures.fails w.if-inside.false)
      | else-w-n-via-else-w-n w ↦
          visited_more _ _ _ c.loop-x.invariant c.loop-x-test.true _ (λ j p. p) (λ l. absurd (omega arith))
    ]

pub returns : goal.returns
returns c = struck_none _ _ _ _ _ _ _ c.loop-x.invariant c.loop-x-test.false
