use Rattle.chart_lists.proofs.entries.kind_at.Goals as goal

-- `chart_lists::entries::kind_at` meets its contract. Assumes nothing.
pub returns : goal.returns
returns c = c.kind_of.ensures
