use Rattle.counting.proofs.Prelude.{refl}
use Rattle.std.proofs.lemmas.Result.{err_from_is_err_and}
use Rattle.specification.proofs.Cases.{refusal_numbered}
use Rattle.specification.specs.Parts.{present?, bytes_of}
use Rattle.record.proofs.Checking.{edges_fail, channels_fail, all_pass}
use Rattle.record.proofs.checks.check.Goals as goal

pub returns-in-Err : goal.returns-in-Err
returns-in-Err c =
    let g = c.args.g.now in
    edges_fail _ _ (present? g.given) (bytes_of g.given) _ _ _ _ _ _ _ _ _ _ _ _ _ c.in-Err.ensures _ _ (refusal_numbered _)
    c.first_of.ensures refl

pub returns-in_err-channels : goal.returns-in_err-channels
returns-in_err-channels c =
    let g = c.args.g.now in
    let p = err_from_is_err_and c.from_residual.result c.from_residual.ensures.1 in
    rw (p.1, p.2)
    (channels_fail _ _ (present? g.given) (bytes_of g.given) _ _ _ _ _ _ _ _ _ _ _ _ _ c.in-Ok.ensures refl _ _
    c.in_err-channels.ensures _ (refusal_numbered _) refl)

pub returns : goal.returns
returns c =
    let g = c.args.g.now in
    all_pass _ _ (present? g.given) (bytes_of g.given) _ _ _ _ _ _ _ _ _ _ _ _ _ c.in-Ok.ensures refl _ _ c.in_ok-channels.ensures _ refl
    refl
