use Rattle.counting.proofs.Prelude.{sym, ◌∙◌, arith}
use Rattle.std.specs.Cmp.{ranked}
use Rattle.std.proofs.Common.{Less, Equal, Greater}
use Rattle.geometry.proofs.Crossing.{bend_beside-right, bend_beside-left, bend_beside_none}
use Rattle.geometry.proofs.bend_beside.Goals as goal

-- `geometry::bend_beside` meets its contract. Assumes nothing.
pub returns-in-Less : goal.returns-in-Less
returns-in-Less c = sym (bend_beside-right _ _ _ (ranked c.args.x c.args.z Less (sym c.in-Less.is ∙ c.cmp.ensures)))

pub returns-in-Greater : goal.returns-in-Greater
returns-in-Greater c = sym (bend_beside-left _ _ _ (ranked c.args.x c.args.z Greater (sym c.in-Greater.is ∙ c.cmp.ensures)))

pub returns-in-Equal : goal.returns-in-Equal
returns-in-Equal c =
    let e = ranked c.args.x c.args.z Equal (sym c.in-Equal.is ∙ c.cmp.ensures) in
    sym (bend_beside_none _ _ _ (omega (arith, e)) (omega (arith, e)))
