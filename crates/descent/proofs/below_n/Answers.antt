use Rattle.counting.proofs.Prelude.{◌≡◌, refl, sym, ap, subst, ℕ, ◌-◌, ◌*◌, ◌%◌, ◌^◌, ◌≤◌, ◌<◌, arith}
use native.Mathlib.Nat.{lt_of_lt_of_le}
use lib.Pow.{pow_mono}
use Rattle.masks.proofs.Bits.{one_shl}
use Rattle.descent.proofs.Starting.{ones_lt, below_law}
use Rattle.descent.proofs.below_n.Goals as goal

-- k ones, as the code makes them
made : (k : ℕ) → k < 64 → (1 * 2 ^ k) % 2 ^ 64 - 1 ≡ 2 ^ k - 1
made k h = ap (λ (x : ℕ). x - 1) (one_shl k h)

made-fits : (k : ℕ) → k < 64 → (1 * 2 ^ k) % 2 ^ 64 - 1 < 2 ^ 64
made-fits k h = subst (λ (x : ℕ). x < 2 ^ 64) (sym (made k h)) (lt_of_lt_of_le (ones_lt k) (pow_mono (let l : k ≤ 64 = omega arith in l)))

pub returns-then-n-lt64 : goal.returns-then-n-lt64
returns-then-n-lt64 c =
    let n = c.args.n in
    let l = c.if-n-lt64.true in
    below_law n n 0 _ _ (made n l) refl (made-fits n l) (omega arith) (λ v h. ((λ q. q), λ q. q))
    (λ v h. ((λ q. absurd (omega arith)), λ q. absurd (omega arith)))

pub returns-then-n-lt128 : goal.returns-then-n-lt128
returns-then-n-lt128 c =
    let n = c.args.n in
    let l : n - 64 < 64 = omega arith in
    below_law n 64 (n - 64) _ _ refl (made (n - 64) l) (omega arith) (made-fits (n - 64) l) (λ v h. ((λ q. omega arith), λ q. h))
    (λ v h. ((λ q. omega arith), λ q. omega arith))

pub returns : goal.returns
returns c =
    let n = c.args.n in
    below_law n 64 64 _ _ refl refl (omega arith) (omega arith) (λ v h. ((λ q. omega arith), λ q. h))
    (λ v h. ((λ q. omega (arith, c.requires)), λ q. h))
