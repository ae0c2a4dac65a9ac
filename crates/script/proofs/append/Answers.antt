use Rattle.counting.proofs.Prelude.{ap, ◌≤◌, arith, rules, le-leb}
use Rattle.script.specs.declared.Numeral.{Numeral}
use Rattle.specification.specs.Orders.{digit?}
use Rattle.script.specs.Scanning.{appended}
use Rattle.script.proofs.append.Goals as goal

pub returns-then-byte-lt48 : goal.returns-then-byte-lt48
unfolding appended digit?
returns-then-byte-lt48 c = search rules

pub returns : goal.returns
unfolding appended digit?
returns c =
    let first : 48 ≤ c.args.byte = omega arith in
    let last : c.args.byte ≤ 57 = omega arith in
    simp (le-leb _ _ first, le-leb _ _ last) (ap Numeral.Value (omega arith))
