use Rattle.counting.proofs.Prelude.{ap, ◌∙◌, ℕ, ◌/◌, ◌%◌, ◌^◌, eqb}
use lib.Bits.{bit_and}
use Rattle.masks.proofs.Sets.{member-test}
use Rattle.masks.proofs.contains.Goals as goal

pub returns : goal.returns
returns c =
    let a = c.args in
    ap (λ (m : ℕ). eqb (bit_and (m / 2 ^ (a.v % 64)) 1) 1) c.mask_at.ensures
    ∙ ap (λ (x : ℕ). eqb x 1) (member-test a.masks.now a.first a.v)
