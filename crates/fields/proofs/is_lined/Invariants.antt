use Rattle.counting.proofs.Prelude.{◌≡◌, drop}
use Rattle.specification.specs.Layout.{lined}
use Rattle.fields.proofs.is_lined.Given as goal

abbrev pub invariant-loop-v : goal.invariant-loop-v
invariant-loop-v l = lined l.left (drop l.v-index l.b) ≡ lined 0 l.b
