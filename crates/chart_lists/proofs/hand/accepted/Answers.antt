-- Each return by the law of its case. Assumes nothing.
use Rattle.chart_lists.proofs.Leaving.{accept_refused, accept_room, accept_words, accept_arrows, accept_bundles}
use Rattle.chart_lists.proofs.hand.accepted.Goals.{then-words-n-via-then-words-n, then-words-n-via-else-words-n+then-arrows-m}
use Rattle.chart_lists.proofs.hand.accepted.Goals.{then-words-n-via-else-words-n+else-arrows-m+then-bundles-plan}
use Rattle.chart_lists.proofs.hand.accepted.Goals as goal

pub returns-in_err-plan : goal.returns-in_err-plan
returns-in_err-plan c = accept_refused _ _ _ _ _ _ _ _ c.in_err-plan.was c.from_residual.ensures.1

pub returns-then-words-n : goal.returns-then-words-n
returns-then-words-n c =
    elim c.then-words-n.branch [
      | then-words-n-via-then-words-n w ↦ accept_words _ _ _ _ _ _ _ c.in_ok-plan.was w.if-words-n.true
      | then-words-n-via-else-words-n+then-arrows-m w ↦
          accept_arrows _ _ _ _ _ _ _ c.in_ok-plan.was w.if-words-n.false w.if-arrows-m.true
      | then-words-n-via-else-words-n+else-arrows-m+then-bundles-plan w ↦
          accept_bundles _ _ _ _ _ _ _ c.in_ok-plan.was w.if-words-n.false w.if-arrows-m.false w.if-bundles-plan.true
    ]

pub returns : goal.returns
returns c = accept_room _ _ _ _ _ _ _ c.in_ok-plan.was c.if-words-n.false c.if-arrows-m.false c.if-bundles-plan.false
