use Rattle.counting.proofs.Prelude.{refl, sym, true, arith}
use Rattle.counting.specs.Quads.{quad}
use Rattle.counting.proofs.Above.{above_none, above_more}
use Rattle.floors.proofs.rows_used.Goals as goal

pub loop-v-init : goal.loop-v-init
loop-v-init c = sym (above_none _ _)

pub loop-v-preserved : goal.loop-v-preserved
loop-v-preserved c =
    let l = c.loop-v in
    omega (arith, c.max-used.ensures, above_more l.v (λ x. true) (quad 2 c.args.places.now) refl, l.invariant)
