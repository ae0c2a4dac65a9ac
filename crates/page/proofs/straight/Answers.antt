use Rattle.counting.proofs.Prelude.{refl, sym, ◌∙◌}
use Rattle.page.proofs.Drawing.{draw}
use Rattle.page.proofs.straight.Goals as goal

-- `page::straight` meets its contract: where each cell has a place, these are the points. Assumes nothing.
pub returns-in-Some-Some : goal.returns-in-Some-Some
returns-in-Some-Some c =
    let w = c.in-Some-Some in
    draw _ _ _ (sym c.point_at.ensures ∙ w.is-0, (sym c.point_at-2.ensures ∙ w.is-1, tt)) refl
