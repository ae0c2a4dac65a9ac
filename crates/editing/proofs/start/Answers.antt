use Rattle.counting.proofs.Prelude.{◌≤◌, ⊎_elim, inl, inr, arith}
use Rattle.editing.proofs.Machines.{start-passes, start_fails}
use Rattle.editing.proofs.Sessions.{started}
use Rattle.editing.proofs.start.Goals as goal

pub returns-then-n-eq0 : goal.returns-then-n-eq0
returns-then-n-eq0 c =
    let n = c.args.n in
    let e = start_fails n (⊎_elim (λ z. inl z) (λ p. inr (omega arith)) c.then-n-eq0.either) in
    started n 2 0 _ e.0 e.1 (omega arith) c.blank.ensures

pub returns : goal.returns
returns c =
    let n = c.args.n in
    let small : n ≤ 128 = omega arith in
    let e = start-passes n c.if-n-eq0.false small in started n 0 n _ e.0 e.1 small c.blank-2.ensures
