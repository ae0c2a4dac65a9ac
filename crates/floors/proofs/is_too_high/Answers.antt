use Rattle.std.proofs.Common.{MatchBool, tests}
use Rattle.std.specs.List.{HoldsAt, AllWithin}
use Rattle.std.proofs.lemmas.Iterator.{cases_from_any, YieldsList-from_slice}
use Rattle.counting.proofs.Prelude.{◌≡◌, sym, Bool, true, false, List, ℕ, ◌<◌, ◌≤◌, arith, length, lt-ltb, le-ltb, rules}
use Rattle.counting.proofs.Somes.{some_found, some_none}
use Rattle.floors.specs.Steps.{too_high?}
use Rattle.floors.proofs.is_too_high.Goals as goal

by_cases : (r : Bool) (floors : List ℕ)
    → MatchBool r ((v : ℕ) × (v < length floors) × HoldsAt (λ floor. 127 < floor) floors v)
    (AllWithin (λ floor. floor ≤ 127) floors 0 (length floors))
    → r ≡ too_high? floors
unfolding too_high?
by_cases true floors h = sym (some_found _ _ h.0 h.1 (lt-ltb _ _ (h.2 0)))
by_cases false floors h = sym (some_none _ _ (λ v l. le-ltb 127 _ (h v 0 (omega arith) l)))

pub returns : goal.returns
returns c =
    let floors = c.args.floors.now in
    by_cases _ floors
    (cases_from_any _ _ _ (λ floor. 127 < floor) (λ floor. floor ≤ 127) c.any.ensures.ran (YieldsList-from_slice floors cc)
    (λ x q k. search (rules, tests)) (λ x q k. search (rules, tests)))
