use Rattle.counting.proofs.Prelude.{◌∙◌, arith}
use Rattle.search.proofs.Asking.{ask_none, ask-more, ask-all}
use Rattle.search.proofs.matched.Goals as goal

pub loop-h-init : goal.loop-h-init
loop-h-init c = ask_none _ _

pub ask-requires : goal.ask-requires
ask-requires c = omega (arith, c.min-most.ensures)

pub loop-h-preserved : goal.loop-h-preserved
loop-h-preserved c = c.loop-h.invariant ∙ ask-more _ _ _ _ _ _ _ (omega arith) c.ask.ensures.augments

pub returns : goal.returns
returns c = ask-all _ _ _ _ _ (omega arith) c.min-most.ensures c.loop-h.invariant
