use Rattle.counting.proofs.Prelude.{arith}
use Rattle.counting.proofs.Stores.{filled_none, filled_more, filled-all}
use Rattle.chart_lists.proofs.Passing.{bundle_at}
use Rattle.chart_lists.proofs.entries.put_bundles.Goals as goal

pub loop-i-init : goal.loop-i-init
loop-i-init c = (omega arith, filled_none _ _)

pub bounds-out-i : goal.bounds-out-i
bounds-out-i c = omega (arith, c.loop-i.invariant.1.as_long)

pub loop-i-preserved : goal.loop-i-preserved
loop-i-preserved c =
    let st = c.loop-i in
    (omega arith, filled_more _ _ _ _ _ (omega arith) (bundle_at _ _) st.invariant.1)

pub shape_of-out : goal.shape_of-out
shape_of-out c = c.loop-i.invariant.1.as_long

pub returns : goal.returns
returns c = filled-all _ _ _ _ _ (omega arith) (omega arith) c.loop-i.invariant.1
