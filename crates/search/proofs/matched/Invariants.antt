use Rattle.counting.proofs.Prelude.{◌≡◌, ◌-◌}
use Rattle.search.specs.Steps.Coded.{asks, matching}
use Rattle.specification.specs.Sets.{has?}
use Rattle.search.proofs.matched.Given as goal

abbrev pub invariant-loop-h : goal.invariant-loop-h
invariant-loop-h l = matching (has? 2 l.table) l.most ≡ asks (has? 2 l.table) l.most (l.most - l.h) l.h l.predecessor
