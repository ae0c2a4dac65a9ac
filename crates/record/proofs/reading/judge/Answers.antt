use Rattle.counting.proofs.Prelude.{refl}
use Rattle.std.proofs.lemmas.Result.{err_from_is_err_and}
use Rattle.specification.proofs.Cases.{refusal_numbered}
use Rattle.record.proofs.Handing.{judge_bad, judge_refused, judge_passed}
use Rattle.record.proofs.reading.judge.Goals as goal

pub returns-in_err-graph : goal.returns-in_err-graph
returns-in_err-graph c =
    let p = err_from_is_err_and c.from_residual.result c.from_residual.ensures.1 in
    rw (p.1, p.2) (judge_bad _ _ _ _ _ c.in_err-graph.ensures c.requires.2)

pub returns-in_err-check : goal.returns-in_err-check
returns-in_err-check c =
    let p = err_from_is_err_and c.from_residual-in_err-check.result c.from_residual-in_err-check.ensures.1 in
    rw (p.1, p.2)
    (judge_refused _ _ c.in_ok-graph.ensures _ _ _ _ _ _ _ _ _ c.requires c.in_err-check.ensures (refusal_numbered _))

pub returns : goal.returns
returns c = judge_passed _ _ c.in_ok-graph.ensures _ _ _ _ _ _ _ _ _ c.requires c.in_ok-check.ensures refl
