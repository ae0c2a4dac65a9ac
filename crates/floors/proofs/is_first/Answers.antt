use Rattle.counting.proofs.Prelude.{rules}
use Rattle.floors.proofs.is_first.Goals as goal

pub returns-in-Err-Short : goal.returns-in-Err-Short
returns-in-Err-Short c = search rules
