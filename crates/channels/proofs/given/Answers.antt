use Rattle.std.proofs.lemmas.Result.{err_from_is_err_and}
use Rattle.counting.proofs.Prelude.{refl, ◌∙◌, arith}
use Rattle.counting.proofs.Sizes.{sized}
use Rattle.planning.proofs.Laying.{kept_wider, kept_on, none_upto}
use Rattle.specification.proofs.Cases.{refusal_numbered}
use Rattle.channels.proofs.Answers.{answers-made, answers-sized, given-sized}
use Rattle.channels.proofs.Completing.{complete_all, completed}
use Rattle.channels.proofs.given.Goals as goal

pub returns-in_err-sized : goal.returns-in_err-sized
returns-in_err-sized c =
    let p = err_from_is_err_and c.from_residual.result c.from_residual.ensures.1 in
    rw (p.1, p.2)
    (answers-sized _ _ _ _ _ _ (given-sized _ _ _) c.in_err-sized.ensures (refusal_numbered c.in_err-sized.field-0.0) refl)

pub returns-in-Err : goal.returns-in-Err
returns-in-Err c =
    let w = c.in-Err.ensures in
    let f = c.in_ok-sized.ensures.fits refl in
    let u = c.unplace.ensures in
    let v = c.unplace-in-Err.ensures in
    let g = kept_on _ _ _ (kept_wider _ _ _ u.2 _ (omega (arith, u.0))) _ w.kept in
    answers-made _ _ _ _ _ _ f.2 (sized _ f.0 f.1) w.answer (λ _. refl) (λ z. absurd (refusal_numbered c.in-Err.refusal z))
    (λ _. none_upto _ _ _ (omega (arith, v.0, g.long, f.2)) v.1)
    (kept_on _ _ _ g _ (kept_wider _ _ _ v.2 _ (omega (arith, v.0))))

pub returns-then-laid-n : goal.returns-then-laid-n
returns-then-laid-n c =
    let w = c.in-Ok.ensures in
    let f = c.in_ok-sized.ensures.fits refl in
    let u = c.unplace.ensures in
    answers-made _ _ _ _ _ _ f.2 (sized _ f.0 f.1) w.answer (λ d. absurd (d refl))
    (λ _. complete_all _ _ _ _ _ _ w refl _ c.if-laid-n.true) (λ d. absurd (d refl))
    (kept_on _ _ _ (kept_wider _ _ _ u.2 _ (omega (arith, u.0))) _ w.kept)

pub returns : goal.returns
returns c =
    let w = c.in-Ok.ensures in
    let f = c.in_ok-sized.ensures.fits refl in
    let u = c.unplace.ensures in
    let g = kept_on _ _ _ (kept_wider _ _ _ u.2 _ (omega (arith, u.0))) _ w.kept in
    let e = completed _ _ _ _ _ _ w refl _ c.if-laid-n.false f.1 (omega (arith, g.long, f.2)) _ _ c.beside.ensures in
    answers-made _ _ _ _ _ _ f.2 (sized _ f.0 f.1) (e.0 ∙ w.answer) (λ d. absurd (d e.0)) (λ _. e.1)
    (λ d. absurd (d e.0)) (kept_on _ _ _ g _ e.2)
