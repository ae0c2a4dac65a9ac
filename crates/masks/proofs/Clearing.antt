-- The lowest set bit of a number cleared, x & (x - 1): the bit at the trailing
-- zeros' count is gone, and every other stays. Assumes nothing.
use Rattle.counting.proofs.Prelude.{◌≡◌, refl, sym, ap, ◌∙◌, subst, ◌≢◌, ℕ, zero, suc, ◌-◌, ◌*◌, ◌/◌, ◌%◌, ◌^◌, ◌<◌, min, arith}
use native.Mathlib.Nat.{mod-lt, zero-lt-suc, lt_irrefl}
use native.Mathlib.Numerals.{add-one}
use lib.Arith.{bin_ind, lt-one}
use lib.Bits.{bit_and, and_step, and_le_r}
use lib.Count.{count_trailing_zeros, under}
use lib.Pow.{shr_lt}
use Rattle.specification.specs.Sets.{bit}
use Rattle.masks.proofs.Bits.{bit_zero, bit-suc}

-- x without its lowest set bit
abbrev pub clear : ℕ → ℕ
clear x = bit_and x (x - 1)

pub and_self : (a : ℕ) → bit_and a a ≡ a
and_self =
    bin_ind (λ (n : ℕ). bit_and n n ≡ n) refl
    (λ n ih. and_step n n
    ∙ (let e : bit_and (n / 2) (n / 2) ≡ n / 2 = ih in let m : min (n % 2) (n % 2) ≡ n % 2 = omega arith in omega arith))

clear_odd : (x : ℕ) → x % 2 ≡ 1 → clear x ≡ x / 2 * 2
clear_odd x e =
    let h : (x - 1) / 2 ≡ x / 2 = omega arith in
    let l : (x - 1) % 2 ≡ 0 = omega arith in
    let s = and_step x (x - 1) in
    let k : bit_and (x / 2) ((x - 1) / 2) ≡ x / 2 = ap (bit_and (x / 2)) h ∙ and_self (x / 2) in
    omega arith

clear_even : (x : ℕ) → 0 < x → x % 2 ≡ 0 → clear x ≡ clear (x / 2) * 2
clear_even x p e =
    let h : (x - 1) / 2 ≡ x / 2 - 1 = omega arith in
    let s = and_step x (x - 1) in
    let k : bit_and (x / 2) ((x - 1) / 2) ≡ clear (x / 2) = ap (bit_and (x / 2)) h in
    omega arith

half_below : (n x : ℕ) → x < 2 ^ suc n → x / 2 < 2 ^ n
half_below n x h = shr_lt n 1 (subst (λ (k : ℕ). x < 2 ^ k) (sym (add-one n)) h)

bit-double : (h k : ℕ) → bit (h * 2) (suc k) ≡ bit h k
bit-double h k = bit-suc (h * 2) k ∙ ap (λ (x : ℕ). bit x k) (let e : h * 2 / 2 ≡ h = omega arith in e)

bit-double_zero : (h : ℕ) → bit (h * 2) 0 ≡ 0
bit-double_zero h = bit_zero (h * 2) ∙ omega arith

-- the lowest set bit is gone
pub cleared_at : (n x : ℕ) → 0 < x → x < 2 ^ n → bit (clear x) (count_trailing_zeros n x) ≡ 0
unfolding count_trailing_zeros
cleared_at zero x p h = absurd (lt_irrefl 0 (subst (λ (y : ℕ). 0 < y) (lt-one h) p))
cleared_at (suc n) x p h = go (x % 2) refl (mod-lt x (zero-lt-suc 1)) (λ q. cleared_at n (x / 2) q (half_below n x h))
  where
    go : (d : ℕ) → x % 2 ≡ d → d < 2 → (0 < x / 2 → bit (clear (x / 2)) (count_trailing_zeros n (x / 2)) ≡ 0)
        → bit (clear x) (under d (count_trailing_zeros n (x / 2))) ≡ 0
    go zero e l rest =
        ap (λ (y : ℕ). bit y (suc (count_trailing_zeros n (x / 2)))) (clear_even x p e)
        ∙ bit-double (clear (x / 2)) (count_trailing_zeros n (x / 2))
        ∙ rest (omega arith)
    go (suc d) e l rest = ap (λ (y : ℕ). bit y 0) (clear_odd x (omega arith)) ∙ bit-double_zero (x / 2)

-- every other bit stays
pub cleared_other : (n x j : ℕ) → 0 < x → x < 2 ^ n → j ≢ count_trailing_zeros n x → bit (clear x) j ≡ bit x j
unfolding count_trailing_zeros
cleared_other zero x j p h d = absurd (lt_irrefl 0 (subst (λ (y : ℕ). 0 < y) (lt-one h) p))
cleared_other (suc n) x j p h d =
    go (x % 2) refl (mod-lt x (zero-lt-suc 1)) (λ i q ne. cleared_other n (x / 2) i q (half_below n x h) ne) j d
  where
    go : (d : ℕ) → x % 2 ≡ d → d < 2 → ((i : ℕ) → 0 < x / 2 → i ≢ count_trailing_zeros n (x / 2) → bit (clear (x / 2)) i ≡ bit (x / 2) i)
        → (j : ℕ) → j ≢ under d (count_trailing_zeros n (x / 2)) → bit (clear x) j ≡ bit x j
    go zero e l rest zero ne = ap (λ (y : ℕ). bit y 0) (clear_even x p e) ∙ bit-double_zero (clear (x / 2)) ∙ sym (bit_zero x ∙ e)
    go zero e l rest (suc j) ne =
        ap (λ (y : ℕ). bit y (suc j)) (clear_even x p e)
        ∙ bit-double (clear (x / 2)) j
        ∙ rest j (omega arith) (λ q. ne (ap suc q))
        ∙ sym (bit-suc x j)
    go (suc d) e l rest zero ne = absurd (ne refl)
    go (suc d) e l rest (suc j) ne =
        ap (λ (y : ℕ). bit y (suc j)) (clear_odd x (omega arith)) ∙ bit-double (x / 2) j ∙ sym (bit-suc x j)

-- and the number is smaller
pub clear_less : (x : ℕ) → 0 < x → clear x < x
clear_less x p = let l = and_le_r x (x - 1) in omega arith
