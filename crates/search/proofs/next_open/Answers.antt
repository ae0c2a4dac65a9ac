use Rattle.masks.proofs.Tables.{pair_row}
use Rattle.search.proofs.Open.{row_open}
use Rattle.search.proofs.next_open.Goals as goal

-- `search::next_open` meets its contract: the two masks are those of h. Assumes nothing.
pub returns : goal.returns
returns c =
    row_open c.args.table.now c.args.visited.now c.args.h _ _ _ _ (pair_row _ _ _ _ c.mask_at.ensures c.mask_at-2.ensures)
    c.first_open.ensures
