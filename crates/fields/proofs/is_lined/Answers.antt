use Rattle.counting.proofs.Prelude.{sym, ap, ◌∙◌, ℕ, ◌+◌, arith, drop}
use Rattle.specification.specs.Layout.{lined}
use Rattle.fields.proofs.Lining.{lined_goes, lined_begins, lined_empty, lined_ends}
use Rattle.fields.proofs.is_lined.Goals as goal
use Rattle.fields.proofs.is_lined.Goals.{then-left-gt0, else-left-gt0+then-v-gt0}

pub returns-else-v-gt0 : goal.returns-else-v-gt0
returns-else-v-gt0 c =
    let l = c.loop-v in sym (lined_empty l.left _ l.v-index c.loop-v-test.true c.if-left-gt0.false c.if-v-gt0.false) ∙ l.invariant

pub loop-v-preserved : goal.loop-v-preserved
loop-v-preserved c =
    let l = c.loop-v in
    let rest = drop (l.v-index + 1) c.args.b.now in
    elim c.if-left-gt0.branch [
      | then-left-gt0 w ↦
          ap (λ (k : ℕ). lined k rest) w.left-is ∙ sym (lined_goes l.left _ l.v-index c.loop-v-test.true w.if-left-gt0.true) ∙ l.invariant
      | else-left-gt0+then-v-gt0 w ↦
          ap (λ (k : ℕ). lined k rest) w.left-is
          ∙ sym (lined_begins l.left _ l.v-index c.loop-v-test.true w.if-left-gt0.false w.if-v-gt0.true) ∙ l.invariant
    ]

pub returns : goal.returns
returns c = let l = c.loop-v in sym (lined_ends l.left _ l.v-index (omega arith)) ∙ l.invariant
