use Rattle.counting.proofs.Prelude.{sym, ap, ◌∙◌, Bool, ◌||◌, ◌<◌, arith, ltb, eq-eqb, lt-ltb}
use Rattle.counting.proofs.Sizes.{none_unsized, many_unsized, sized}
use Rattle.specification.specs.Graph.{outsized?}
use Rattle.scanning.proofs.is_outsized.Goals as goal
use Rattle.scanning.proofs.is_outsized.Goals.{then-n-eq0, else-n-eq0}

pub returns-then-n-gt-MOST_VERTICES : goal.returns-then-n-gt-MOST_VERTICES
unfolding outsized?
returns-then-n-gt-MOST_VERTICES c =
    let a = c.args in
    let e = c.if-n-gt-MOST_VERTICES.either in
    elim c.if-n-eq0.branch [
      | then-n-eq0 w ↦ w.t-4-is ∙ eq-eqb _ _ w.if-n-eq0.true
          ∙ sym (ap (λ (x : Bool). x || ltb 4096 a.m) (none_unsized a.n w.if-n-eq0.true))
      | else-n-eq0 w ↦
          let h : 128 < a.n = omega arith in
          w.t-4-is ∙ lt-ltb _ _ h ∙ sym (ap (λ (x : Bool). x || ltb 4096 a.m) (many_unsized a.n h))
    ]

pub returns-else-n-gt-MOST_VERTICES : goal.returns-else-n-gt-MOST_VERTICES
unfolding outsized?
returns-else-n-gt-MOST_VERTICES c =
    let f = c.if-n-gt-MOST_VERTICES.false in
    sym (ap (λ (x : Bool). x || ltb 4096 c.args.m) (sized c.args.n f.0 f.1))
