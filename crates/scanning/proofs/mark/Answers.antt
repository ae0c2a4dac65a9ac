use Rattle.counting.proofs.Prelude.{ap, ℕ, ◌+◌, ◌*◌, ◌/◌, ◌%◌, arith, eqb, get_or, set}
use lib.Bits.{bit_or}
use Rattle.specification.specs.Sets.{inserted}
use Rattle.masks.proofs.Bits.{one_shl}
use Rattle.masks.proofs.Sets.{member-test}
use Rattle.scanning.proofs.mark.Goals as goal

pub returns : goal.returns
unfolding inserted
returns c =
    let a = c.args in
    let e = a.edges.now in
    let i : ℕ = 2 * a.u + a.v / 64 in (
      ap (λ (x : ℕ). eqb x 1) (member-test e (2 * a.u) a.v),
      ap (λ (x : ℕ). set e i (bit_or (get_or e i 0) x)) (one_shl (a.v % 64) (omega arith)),
    )
