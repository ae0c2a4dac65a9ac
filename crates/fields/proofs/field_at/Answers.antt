use Rattle.counting.proofs.Prelude.{◌≡◌, false, ◌+◌, ◌*◌, arith, leb, length, get_or, le-leb, lt-leb, eq-eqb}
use Rattle.specification.specs.Layout.{size_at, field_at}
use Rattle.fields.proofs.field_at.Goals as goal

-- the field would end past the record
pub returns-then-b-start-2-clause-told : goal.returns-then-b-start-2-clause-told
unfolding field_at size_at
returns-then-b-start-2-clause-told c =
    let b = c.args.b.now in
    let at = c.args.at in
    let size = get_or b (at + 1) 0 * 256 + get_or b (at + 2) 0 in
    let over : leb (at + 3 + size) (length b) ≡ false = lt-leb _ _ (omega (arith, c.if-b-start-2.true, c.if-b-start.false)) in
    simp (le-leb _ _ c.if-b-start.false, eq-eqb _ _ c.if-b-at.false, over)
