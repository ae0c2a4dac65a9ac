use Rattle.ceviloneth.proofs.Changing.{add-short, added, refused, written}
use Rattle.ceviloneth.proofs.ceviloneth_session_add.Goals as goal

-- `ceviloneth::ceviloneth_session_add` meets its contract: each return cites the law of its case (`Changing.antt`). Assumes nothing.
pub returns-then-state-lt-STATE_NUMBERS : goal.returns-then-state-lt-STATE_NUMBERS
returns-then-state-lt-STATE_NUMBERS c = rw c.from.ensures (add-short _ _ _ c.if-state-lt-STATE_NUMBERS.true)

pub returns-in-Err : goal.returns-in-Err
returns-in-Err c =
    added _ _ _ c.if-state-lt-STATE_NUMBERS.false _ c.session_of-session.ensures _ c.in-Err.ensures _ _
    (refused _ (record { refusal = c.in-Err.refusal; session = c.grow.new.self }) _ c.from-in-Err.ensures)

pub returns : goal.returns
returns c =
    added _ _ _ c.if-state-lt-STATE_NUMBERS.false _ c.session_of-session.ensures _ c.in_default.ensures _ _
    (written _ _ _ c.fill_state.ensures)
