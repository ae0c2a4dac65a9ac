use Rattle.std.proofs.lemmas.Result.{err_from_is_err_and}
use Rattle.counting.proofs.Prelude.{refl}
use Rattle.counting.proofs.Sizes.{sized}
use Rattle.specification.proofs.Cases.{refusal_numbered}
use Rattle.channels.proofs.Answers.{answers-sized, plan-answers}
use Rattle.channels.proofs.plan.Goals as goal

-- `channels::plan` meets its contract. Assumes nothing.
pub returns-in_err-sized : goal.returns-in_err-sized
returns-in_err-sized c =
    let p = err_from_is_err_and c.from_residual.result c.from_residual.ensures.1 in
    rw (p.1, p.2) (answers-sized _ _ _ _ _ _ (λ _. refl) c.in_err-sized.ensures (refusal_numbered c.in_err-sized.field-0.0) refl)

pub returns : goal.returns
returns c =
    let f = c.in_ok-sized.ensures.fits refl in
    plan-answers _ _ _ _ _ f.1 (sized _ f.0 f.1) f.2 c.chained.ensures
