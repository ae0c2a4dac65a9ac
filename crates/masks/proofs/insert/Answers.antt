use Rattle.counting.proofs.Prelude.{◌≡◌, sym, ap₂, ℕ, ◌+◌, ◌/◌, ◌%◌, ◌≤◌, arith, length, get_or, set, lt-ltb, le-ltb}
use lib.Bits.{bit_or}
use lib.Seq.{set_out}
use Rattle.specification.specs.Sets.{inserted}
use Rattle.masks.proofs.Bits.{one_shl}
use Rattle.masks.proofs.insert.Goals as goal

pub returns-then-masks-i : goal.returns-then-masks-i
unfolding inserted
returns-then-masks-i c =
    let a = c.args in
    let i : ℕ = a.first + a.v / 64 in
    let out : length a.masks.now ≤ i = omega (arith, c.saturating_add-i.ensures) in
    (sym (le-ltb i (length a.masks.now) out), sym (set_out a.masks.now i _ out))

pub returns : goal.returns
unfolding inserted
returns c =
    let a = c.args in
    let i : ℕ = a.first + a.v / 64 in
    let same : c.saturating_add-i.result ≡ i = omega arith in (
      sym (lt-ltb i (length a.masks.now) (omega arith)),
      ap₂ (λ (j x : ℕ). set a.masks.now j (bit_or (get_or a.masks.now j 0) x)) same (one_shl (a.v % 64) (omega arith)),
    )
