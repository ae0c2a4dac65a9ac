use Rattle.prefixes.proofs.by_row.Goals as goal

pub returns : goal.returns
returns c = c.sets_by.ensures
