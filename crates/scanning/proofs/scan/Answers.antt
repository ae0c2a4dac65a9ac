use Rattle.counting.proofs.Prelude.{refl, ◌∙◌, subst, inl, inr, Bool, arith}
use Rattle.specification.specs.Count.{choose}
use Rattle.scanning.specs.Scanned.{Scanned}
use Rattle.scanning.proofs.Scanning.{scanning_none, scanning_more, scanned_strange, scanned_all}
use Rattle.scanning.proofs.scan.Goals as goal
use Rattle.scanning.proofs.scan.Goals.{then-n-u-via-then-n-u, then-n-u-via-else-n-u+then-n-v}

pub loop-i-init : goal.loop-i-init
loop-i-init c = (refl, scanning_none c.args.n c.args.ends.now c.args.edges.now c.requires.2)

pub returns-then-n-u : goal.returns-then-n-u
returns-then-n-u c =
    let l = c.loop-i in
    let a = c.args in
    scanned_strange a.n a.ends.now l.i l.edges l.double l.invariant.1 (omega (arith, c.loop-i-test.true))
    (elim c.then-n-u.branch [
      | then-n-u-via-then-n-u w ↦ inl w.if-n-u.true
      | then-n-u-via-else-n-u+then-n-v w ↦ inr w.if-n-v.true
    ])

pub loop-i-preserved : goal.loop-i-preserved
loop-i-preserved c =
    let l = c.loop-i in (
      c.mark-double.auto.edges ∙ l.invariant.0,
      scanning_more c.args.n c.args.ends.now l.i l.edges l.double c.requires.0
          (let k = c.requires.1 in let q = l.invariant.0 in omega arith) l.invariant.1 _ _ refl refl
          c.if-n-u.false c.if-n-v.false _ _ c.mark-double.ensures,
    )

-- all edges are passed
pub returns-then-double : goal.returns-then-double
returns-then-double c =
    let l = c.loop-i in
    subst (λ (b : Bool). Scanned c.args.n c.args.ends.now l.edges (choose b (λ _. 4) (λ _. 0))) c.if-double.true
    (scanned_all c.args.n c.args.ends.now l.i l.edges l.double c.requires.0 (omega arith) l.invariant.1)

pub returns-else-double : goal.returns-else-double
returns-else-double c =
    let l = c.loop-i in
    subst (λ (b : Bool). Scanned c.args.n c.args.ends.now l.edges (choose b (λ _. 4) (λ _. 0))) c.if-double.false
    (scanned_all c.args.n c.args.ends.now l.i l.edges l.double c.requires.0 (omega arith) l.invariant.1)
