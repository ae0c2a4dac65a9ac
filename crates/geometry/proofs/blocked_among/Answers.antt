use Rattle.counting.proofs.Prelude.{sym, ◌∙◌, ⊎_elim, arith, leb-true, rules}
use Rattle.geometry.proofs.Among.{no_tail, no_head, no_rise, first-blocks, masks_decide}
use Rattle.geometry.proofs.blocked_among.Goals as goal

-- `geometry::blocked_among` meets its contract. Assumes nothing.
pub returns-then-n-tail : goal.returns-then-n-tail
returns-then-n-tail c =
    ⊎_elim (λ h. no_tail _ _ _ _ _ (omega arith)) (λ h. no_head _ _ _ _ _ (omega arith)) c.then-n-tail.either

pub returns-then-low_rise : goal.returns-then-low_rise
returns-then-low_rise c = no_rise _ _ _ _ _ (leb-true _ _ (sym c.low_rise.ensures ∙ c.if-low_rise.true))

pub returns-then-hit_among : goal.returns-then-hit_among
returns-then-hit_among c =
    let a = c.args in
    rw c.if-hit_among.true
    (rw c.min-n.ensures at
    (first-blocks a.low a.high (search rules) (search rules) _ _ _ _ (search rules) (search rules)
    (c.hit_among.ensures.holds c.if-hit_among.true)))

pub returns-else-hit_among : goal.returns-else-hit_among
returns-else-hit_among c =
    rw c.min-n.ensures at
    (masks_decide _ _ (search rules) (search rules) _ _ _ _ (search rules) (search rules) _
    (c.hit_among.ensures.fails c.if-hit_among.false) c.hit_among-else-hit_among.ensures)
