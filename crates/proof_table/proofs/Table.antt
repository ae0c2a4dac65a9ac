-- The largest record passes every check, and one with a vertex or an edge more is refused by the first; 31 channels are drawn, and more
-- are broad; and the tallest chart has 255 rows. Assumes nothing.
use mathlib.Core.Path.{refl}
use Rattle.proof_table.specs.Table.{full, Largest, Broadest, Tallest}
use Rattle.proof_table.proofs.Full as proved
use Rattle.proof_table.proofs.Broad as broad
use Rattle.proof_table.proofs.Tall as tall
use native.Mathlib.Omega.{arith}

pub largest : Largest
unfolding full
largest = record {
  most = (refl, proved.full-edges, (proved.full-passes, proved.full-said));
  more_words = proved.more_words;
  more_arrows = proved.more_arrows;
}

pub broadest : Broadest
broadest = record {
  most = broad.most;
  more = broad.more-channels;
  by_edge = broad.by_edge;
  by_given = broad.by_given;
  full = broad.full_too_broad;
}

pub tallest : Tallest
tallest = record { draws = tall.drawn; rows = tall.rows; highest = tall.rows 127 (omega arith); used = tall.used }
