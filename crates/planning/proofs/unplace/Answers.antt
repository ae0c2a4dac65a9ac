use Rattle.counting.proofs.Prelude.{arith}
use Rattle.planning.proofs.Laying.{kept_wider, kept-placed, none_more}
use Rattle.planning.proofs.unplace.Goals as goal

pub loop-v-preserved : goal.loop-v-preserved
loop-v-preserved c =
    let i = c.loop-v.invariant in (
      none_more _ _ (omega (arith, i.1.long)) i.0,
      kept-placed _ _ _ (kept_wider _ _ _ i.1 _ (omega arith)) _ 0 0 (omega arith),
    )
