use borrow.Author.Rules.{rules}
use Rattle.page.proofs.Exact.{made}
use Rattle.page.proofs.quarters.Goals as goal

-- `page::quarters` meets its contract. Assumes nothing.
pub returns : goal.returns
returns c = made c.args.n (search rules)
