use Rattle.counting.proofs.Prelude.{refl, arith}
use Rattle.planning.proofs.Following.{following_none, following_more, following_all, following_byte, within}
use Rattle.planning.proofs.with_chain.Goals as goal

pub loop-w-init : goal.loop-w-init
loop-w-init c = following_none _ _ _ _ _

-- the next vertex's position is a byte
pub overflow_cast-places-in-loop-w : goal.overflow_cast-places-in-loop-w
overflow_cast-places-in-loop-w c =
    omega (arith, following_byte _ _ _ _ _ c.requires.2 _ _ _ c.loop-w.invariant c.loop-w-test.true c.requires.0)

pub overflow_add-p : goal.overflow_add-p
overflow_add-p c =
    omega (arith, following_byte _ _ _ _ _ c.requires.2 _ _ _ c.loop-w.invariant c.loop-w-test.true c.requires.0)

pub loop-w-smaller : goal.loop-w-smaller
loop-w-smaller c =
    omega (arith, within _ _ _ _ _ c.requires.2 _ _ _ c.loop-w.invariant)

pub loop-w-preserved : goal.loop-w-preserved
loop-w-preserved c =
    following_more _ _ _ _ _ c.requires.2 _ _ _ c.loop-w.invariant c.loop-w-test.true _ refl

pub returns : goal.returns
returns c =
    following_all _ _ _ _ _ c.requires.2 _ _ _ c.loop-w.invariant c.loop-w-test.false
