use Rattle.counting.proofs.Prelude.{arith}
use Rattle.fields.proofs.with_edges.Goals as goal

pub with_lines-requires : goal.with_lines-requires
with_lines-requires c = (omega (arith, c.in_ok-edges.ensures.within, c.requires), c.requires.1, c.if-edges-ne0.false)
