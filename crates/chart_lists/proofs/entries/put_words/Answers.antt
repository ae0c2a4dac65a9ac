use Rattle.counting.proofs.Prelude.{◌∙◌, arith}
use Rattle.lists.proofs.Entered.{entered_none, entered-more, entered_long, entered_all}
use Rattle.chart_lists.proofs.Passing.{word-stored}
use Rattle.chart_lists.proofs.entries.put_words.Goals as goal

pub loop-v-init : goal.loop-v-init
loop-v-init c = (omega arith, entered_none _ _ _)

pub put_six-requires : goal.put_six-requires
put_six-requires c = omega (arith, entered_long _ _ _ _ _ c.loop-v.invariant.1)

pub loop-v-preserved : goal.loop-v-preserved
loop-v-preserved c = (
  omega arith,
  entered-more _ _ _ _ _ _ c.loop-v.invariant.1
      (c.put_six.ensures ∙ word-stored _ _ _ _ _ _ _ c.floor_at.ensures),
)

pub shape_of-out : goal.shape_of-out
shape_of-out c = entered_long _ _ _ _ _ c.loop-v.invariant.1

pub returns : goal.returns
returns c = entered_all _ _ _ _ _ _ (omega arith) (omega arith) (omega arith) c.loop-v.invariant.1
