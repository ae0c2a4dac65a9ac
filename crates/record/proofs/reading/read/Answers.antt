use Rattle.counting.proofs.Prelude.{refl}
use Rattle.std.proofs.lemmas.Result.{err_from_is_err_and}
use Rattle.specification.proofs.Cases.{refusal_numbered}
use Rattle.record.proofs.Readings.{read-refused}
use Rattle.record.proofs.reading.read.Goals as goal

-- `record::reading::read` meets its contract, by what is judged (`Readings.antt`). Assumes nothing.
pub returns-in_err-vertices : goal.returns-in_err-vertices
returns-in_err-vertices c =
    let p = err_from_is_err_and c.from_residual.result c.from_residual.ensures.1 in
    rw (p.1, p.2) (read-refused _ _ _ _ _ c.in_err-vertices.ensures _ (refusal_numbered _) refl)
