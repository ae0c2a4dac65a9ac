use Rattle.counting.proofs.Prelude.{refl, arith}
use Rattle.planning.proofs.Following.{seek_none, seek_here, seek_on, seek_all}
use Rattle.planning.proofs.successors.Goals as goal

pub loop-v-init : goal.loop-v-init
loop-v-init c = seek_none _ _

pub loop-v-preserved-then-p-lt-MOST : goal.loop-v-preserved-then-p-lt-MOST
loop-v-preserved-then-p-lt-MOST c =
    seek_here _ _ _ _ _ _ c.loop-v.invariant (omega arith) refl c.if-p-lt-MOST.true

pub loop-v-preserved : goal.loop-v-preserved
loop-v-preserved c =
    seek_on _ _ _ _ _ _ c.loop-v.invariant (omega arith) refl c.if-p-lt-MOST.false

pub returns : goal.returns
returns c = seek_all _ _ _ _ c.loop-v.invariant (omega arith)
