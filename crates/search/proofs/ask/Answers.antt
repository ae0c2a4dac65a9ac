use Rattle.counting.proofs.Prelude.{refl, true, false, arith}
use Rattle.search.proofs.Going.{going_start, gives_free, gives_moved, shut}
use Rattle.search.proofs.Open.{opens_some, opens_none}
use Rattle.search.proofs.ask.Goals as goal

pub returns-in_default : goal.returns-in_default
returns-in_default c =
    let o = c.in_default.ensures in
    record { visited = _; found = false; augments = shut _ _ _ _ _ _ o.found (opens_none _ _ _ _ o) }

pub bounds-predecessor-v : goal.bounds-predecessor-v
bounds-predecessor-v c = omega (arith, (opens_some _ _ _ _ _ c.in-Some.ensures).1, c.requires)

pub returns-then-k : goal.returns-then-k
returns-then-k c =
    let v = opens_some _ _ _ _ _ c.in-Some.ensures in record {
      visited = _;
      found = true;
      augments = gives_free _ _ _ (going_start _ _ _ _ _ c.requires refl) v.0 v.1 _ refl c.if-k.true;
    }

pub visit-requires : goal.visit-requires
visit-requires c = omega (arith, (opens_some _ _ _ _ _ c.in-Some.ensures).1, c.requires)

pub bounds-predecessor-w : goal.bounds-predecessor-w
bounds-predecessor-w c = omega (arith, (opens_some _ _ _ _ _ c.in-Some-next_open.ensures).1, c.requires)

pub bounds-predecessor-v-then-predecessor-w : goal.bounds-predecessor-v-then-predecessor-w
bounds-predecessor-v-then-predecessor-w c =
    omega (arith, (opens_some _ _ _ _ _ c.in-Some.ensures).1, c.requires)

pub returns-then-predecessor-w : goal.returns-then-predecessor-w
returns-then-predecessor-w c =
    let v = opens_some _ _ _ _ _ c.in-Some.ensures in
    let w = opens_some _ _ _ _ _ c.in-Some-next_open.ensures in record {
      visited = _;
      found = true;
      augments = gives_moved _ _ _ (going_start _ _ _ _ _ c.requires refl) v.0 v.1 _ c.visit.ensures _ _ true c.if-k.false
          (gives_free _ _ _ (going_start _ _ _ _ _ c.requires c.visit.array_long) w.0 w.1 _ refl c.if-predecessor-w.true) refl;
    }
