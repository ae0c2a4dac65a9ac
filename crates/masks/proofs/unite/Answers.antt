use Rattle.counting.proofs.Prelude.{arith}
use Rattle.masks.proofs.Sets.{united_more}
use Rattle.masks.proofs.unite.Goals as goal

pub loop-i-preserved : goal.loop-i-preserved
loop-i-preserved c =
    let a = c.args in
    let l = c.loop-i in
    united_more a.masks.now a.first a.other.now l.i l.masks (omega arith) l.invariant
