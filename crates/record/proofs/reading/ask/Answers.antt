use Rattle.counting.proofs.Prelude.{refl, arith}
use Rattle.std.proofs.lemmas.Result.{err_from_is_err_and}
use Rattle.specification.proofs.Cases.{refusal_numbered}
use Rattle.record.proofs.Asking.{asked-refused, asked_tail, asked_head, few, asked_known}
use Rattle.record.proofs.reading.ask.Goals as goal
use Rattle.record.proofs.reading.ask.Goals.{then-vertices-u-via-then-vertices-u, then-vertices-u-via-else-vertices-u+then-vertices-v}

pub returns-in_err-vertices : goal.returns-in_err-vertices
returns-in_err-vertices c =
    let p = err_from_is_err_and c.from_residual.result c.from_residual.ensures.1 in
    rw (p.1, p.2) (asked-refused _ _ _ _ _ _ _ c.in_err-vertices.ensures _ (refusal_numbered _) refl)

pub returns-then-vertices-u : goal.returns-then-vertices-u
returns-then-vertices-u c =
    elim c.then-vertices-u.branch [
      | then-vertices-u-via-then-vertices-u w ↦ asked_tail _ _ _ _ _ _ _ c.in_ok-vertices.ensures _ refl w.if-vertices-u.true refl
      | then-vertices-u-via-else-vertices-u+then-vertices-v w ↦
          asked_head _ _ _ _ _ _ _ c.in_ok-vertices.ensures _ refl w.if-vertices-v.true refl
    ]

pub overflow_mul-u : goal.overflow_mul-u
overflow_mul-u c = omega (arith, few _ _ _ _ _ c.in_ok-vertices.ensures refl, c.if-vertices-u.false)

pub returns : goal.returns
returns c =
    asked_known _ _ _ _ _ _ _ c.in_ok-vertices.ensures _ refl c.if-vertices-u.false c.if-vertices-v.false _ c.between.ensures refl
