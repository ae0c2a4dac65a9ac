use Rattle.counting.proofs.Prelude.{sym, ap, ap₂, ◌∙◌}
use Rattle.std.proofs.Common.{Some}
use lib.Ieee.{Float}
use Rattle.specification.specs.declared.Point.{Point}
use Rattle.page.proofs.Drawing.{on_page}
use Rattle.page.proofs.point_at.Goals as goal

abbrev point : Float → Float → Point
point x y = record { x = x; y = y }

-- `page::point_at` meets its contract: `quarters` gives each coordinate. Assumes nothing.
pub returns : goal.returns
returns c =
    ap Some (ap₂ point c.quarters.ensures c.quarters-2.ensures)
    ∙ on_page c.args.cell (sym c.off_page.ensures ∙ c.if-off_page.false)
