-- The set of the vertices below n in two masks. Assumes nothing.
use Rattle.counting.proofs.Prelude.{◌≡◌, sym, ap, ◌∙◌, subst, ⊎_elim, ◌↔◌, ℕ, ◌+◌, ◌-◌, ◌^◌, ◌<◌, arith}
use lib.Pow.{pow_pos}
use Rattle.counting.proofs.Truth.{lt-or-le}
use Rattle.specification.specs.Sets.{bit}
use Rattle.masks.specs.Pairs.{in_pair}
use Rattle.masks.proofs.Bits.{bit_not, bit_of_zero, bit_high}
use Rattle.masks.proofs.Pairing.{pair_low, pair_high}
use Rattle.descent.specs.Steps.Members.{Below}

-- n ones
pub ones_lt : (n : ℕ) → 2 ^ n - 1 < 2 ^ n
ones_lt n = let p : 0 < 2 ^ n = pow_pos n in omega arith

pub ones_bit : (n k : ℕ) → bit (2 ^ n - 1) k ≡ 1 ↔ k < n
ones_bit n k = (
  (λ e. ⊎_elim (λ l. l) (λ l. absurd (let z = bit_high n (2 ^ n - 1) k (ones_lt n) l in omega arith)) (lt-or-le k n)),
  λ l. ap (λ (x : ℕ). bit x k) (let q : 2 ^ n - 1 ≡ (2 ^ n - 1) - 0 = omega arith in q) ∙ bit_not n 0 k (pow_pos n) l
      ∙ (let z = bit_of_zero k in omega arith),
)

-- i ones in the first mask and j in the second
pub below_law : (n i j a b : ℕ) → a ≡ 2 ^ i - 1 → b ≡ 2 ^ j - 1 → a < 2 ^ 64 → b < 2 ^ 64 → ((v : ℕ) → v < 64 → v < i ↔ v < n)
    → ((v : ℕ) → v < 64 → v < j ↔ 64 + v < n) → Below n a b
below_law n i j a b ea eb fa fb first second = record {
  low_fits = fa;
  high_fits = fb;
  members =
      λ v h. ⊎_elim (λ l. low v l)
      (λ l. subst (λ (x : ℕ). in_pair a b x ≡ 1 ↔ x < n) (let q : 64 + (v - 64) ≡ v = omega arith in q) (high (v - 64) (omega arith)))
      (lt-or-le v 64);
}
  where
    low : (v : ℕ) → v < 64 → in_pair a b v ≡ 1 ↔ v < n
    low v l =
        let e = pair_low a b v l ∙ ap (λ (x : ℕ). bit x v) ea in
        ((λ q. (first v l).0 ((ones_bit i v).0 (sym e ∙ q))), λ q. e ∙ (ones_bit i v).1 ((first v l).1 q))

    high : (v : ℕ) → v < 64 → in_pair a b (64 + v) ≡ 1 ↔ 64 + v < n
    high v l =
        let e = pair_high a b v l ∙ ap (λ (x : ℕ). bit x v) eb in
        ((λ q. (second v l).0 ((ones_bit j v).0 (sym e ∙ q))), λ q. e ∙ (ones_bit j v).1 ((second v l).1 q))
