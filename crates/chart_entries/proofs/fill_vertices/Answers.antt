-- The next entry is the one that the call makes (`filled_more`). Assumes nothing.
use Rattle.std.proofs.Common.{arith}
use Rattle.counting.proofs.Stores.{filled_none, filled_more, filled-all}
use Rattle.chart_entries.proofs.fill_vertices.Goals as goal

pub loop-i-init : goal.loop-i-init
loop-i-init c = (filled_none _ _, omega arith)

pub loop-i-preserved : goal.loop-i-preserved
loop-i-preserved c =
    (filled_more _ _ c.loop-i.i c.loop-i.out _ (omega arith) c.vertex_at.ensures c.loop-i.invariant.0, omega arith)

pub returns : goal.returns
returns c = filled-all _ _ _ _ _ (omega arith) (omega arith) c.loop-i.invariant.0
