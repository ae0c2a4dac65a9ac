use Rattle.counting.proofs.Prelude.{suc, ◌-◌}
use Rattle.planning.proofs.Following.{Following}
use Rattle.planning.proofs.with_chain.Given as goal

abbrev pub invariant-loop-w : goal.invariant-loop-w
invariant-loop-w l = Following l.n l.successor l.v l.c l.initial.places l.places l.w l.p

abbrev pub decreases-loop-w : goal.decreases-loop-w
decreases-loop-w l = suc l.n - l.p
