use Rattle.counting.proofs.Prelude.{refl, sym, ◌∙◌}
use Rattle.page.proofs.Drawing.{draw}
use Rattle.page.proofs.side.Goals as goal

-- `page::side` meets its contract: where each cell has a place, these are the points. Assumes nothing.
pub returns-in-Some-Some-Some-Some : goal.returns-in-Some-Some-Some-Some
returns-in-Some-Some-Some-Some c =
    let w = c.in-Some-Some-Some-Some in
    draw _ _ _ (
      sym c.point_at.ensures ∙ w.is-0,
      (
        sym c.point_at-2.ensures ∙ w.is-1,
        (sym c.point_at-3.ensures ∙ w.is-2, (sym c.point_at-4.ensures ∙ w.is-3, tt)),
      ),
    )
    refl
