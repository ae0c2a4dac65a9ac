use Rattle.descent.proofs.Gathering.{pictured_both, pictured_first}
use Rattle.descent.proofs.image.Goals as goal

pub returns-then-n-le64 : goal.returns-then-n-le64
returns-then-n-le64 c =
    pictured_first c.args.table.now c.args.n c.args.set.low c.args.set.high _ c.if-n-le64.true c.requires.2 c.requires.3
    c.gather_first.ensures

pub returns : goal.returns
returns c =
    let a = c.args in
    pictured_both a.table.now a.set.low a.set.high _ _ _ _ c.gather-union.ensures c.gather.ensures
