use Rattle.ceviloneth.proofs.Spelling.{spelt}
use Rattle.ceviloneth.proofs.state.session_of.Goals as goal

-- `ceviloneth::state::session_of` meets its contract. Assumes nothing.
pub returns : goal.returns
returns c = spelt _ _ _ c.copy_from_slice.ensures.after c.copy_from_slice-2.ensures.after
