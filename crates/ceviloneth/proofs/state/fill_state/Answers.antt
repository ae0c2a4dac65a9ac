use Rattle.counting.proofs.Prelude.{rules}
use Rattle.ceviloneth.proofs.Spelling.{stored}
use Rattle.ceviloneth.proofs.state.fill_state.Goals as goal

-- `ceviloneth::state::fill_state` meets its contract. Assumes nothing.
pub returns : goal.returns
returns c =
    let a = c.args in
    rw (c.copy_from_slice.ensures.after, c.copy_from_slice-2.ensures.after)
    (stored a.out.now a.s.now.vertices a.s.now.count a.s.now.edges a.s.now.reach c.requires (search rules) (search rules))
