use Rattle.ceviloneth.proofs.Changing.{start-short, started}
use Rattle.ceviloneth.proofs.ceviloneth_session_start.Goals as goal

-- `ceviloneth::ceviloneth_session_start` meets its contract: each return cites the law of its case (`Changing.antt`). Assumes nothing.
pub returns-then-state-lt-STATE_NUMBERS : goal.returns-then-state-lt-STATE_NUMBERS
returns-then-state-lt-STATE_NUMBERS c = rw c.from.ensures (start-short _ _ c.if-state-lt-STATE_NUMBERS.true)

pub returns : goal.returns
returns c = started _ _ c.if-state-lt-STATE_NUMBERS.false _ c.start.ensures _ _ c.store.ensures
