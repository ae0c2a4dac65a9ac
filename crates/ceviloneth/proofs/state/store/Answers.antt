use Rattle.ceviloneth.proofs.Changing.{refused}
use Rattle.ceviloneth.proofs.state.store.Goals as goal

-- `ceviloneth::state::store` meets its contract. Assumes nothing.
pub returns-in-Err : goal.returns-in-Err
returns-in-Err c = rw c.in-Err.is (refused _ _ _ c.from.ensures)
