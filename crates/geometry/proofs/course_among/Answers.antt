use Rattle.counting.proofs.Prelude.{sym, ap, ◌∙◌}
use Rattle.specification.specs.Numbers.{course_code}
use Rattle.geometry.proofs.Among.{among_blocked, among_free}
use Rattle.geometry.proofs.course_among.Goals as goal

-- `geometry::course_among` meets its contract. Assumes nothing.
pub returns-then-blocked_among : goal.returns-then-blocked_among
returns-then-blocked_among c =
    ap course_code
    (c.bend_beside.ensures ∙ sym (among_blocked _ _ _ _ _ (c.blocked_among.ensures.holds c.if-blocked_among.true)))

pub returns : goal.returns
returns c = ap course_code (sym (among_free _ _ _ _ _ (c.blocked_among.ensures.fails c.if-blocked_among.false)))
