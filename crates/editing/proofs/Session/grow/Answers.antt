use Rattle.counting.proofs.Prelude.{refl, rules}
use Rattle.std.proofs.lemmas.Result.{err_from_is_err_and}
use Rattle.specification.proofs.Cases.{refusal_numbered}
use Rattle.editing.proofs.Sessions.{add_refused, add-accepted}
use Rattle.editing.proofs.Session.grow.Goals as goal

pub returns-in_err-allows : goal.returns-in_err-allows
returns-in_err-allows c =
    let p = err_from_is_err_and c.from_residual.result c.from_residual.ensures.1 in
    rw (p.1, p.2) (add_refused _ _ _ _ (refusal_numbered _) c.in_err-allows.ensures.value)

pub returns : goal.returns
returns c =
    let a = c.args in
    add-accepted a.self.now a.tail a.head _ (search rules) c.in_ok-allows.ensures.value
    (record { vertices = refl; count = refl; edges = c.insert.ensures.1; reach = c.link.ensures })
