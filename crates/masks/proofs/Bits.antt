-- Laws of `bit`: of `|`, `&` and `!`, of a shift, of one bit, of the trailing zeros and of the count of ones. Assumes nothing.
use Rattle.counting.proofs.Prelude.{◌≡◌, refl, sym, ap, ap₂, ◌∙◌, subst, ◌≢◌, ◌⊎◌, inl, inr, not, ◌&&◌, ℕ, zero, suc, ◌+◌, ◌-◌, ◌*◌, ◌/◌}
use Rattle.counting.proofs.Prelude.{◌%◌, ◌^◌, ◌≤◌, ◌<◌, suc-le-suc, max, min, arith, eqb}
use native.Mathlib.Nat.{mod-lt, zero-lt-suc, zero-div, one-mul, le_of_suc-le-suc, not-suc-le-zero, div-one, lt_irrefl, div-eq_of_lt}
use native.Mathlib.Nat.{lt_of_lt_of_le, pow-suc}
use native.Mathlib.Numerals.{add-one, one-add}
use lib.Arith.{digits_mod, digits_div, lt-one, le-zero}
use lib.Pow.{pow_mono, shr-shr, shl_exact, shr_lt}
use lib.Bits.{bit_or, bit_and, or_shr, or_step, and_shr, and_step, shifted_half, shifted_even}
use lib.Count.{ones, ones_step, ones-le, count_trailing_zeros, under}
use Rattle.specification.specs.Count.{sum}
use Rattle.counting.proofs.Sums.{sum_ext, sum-front}
use Rattle.counting.proofs.Truth.{two_cases}
use Rattle.specification.specs.Sets.{bit}

pub bit-lt : (x k : ℕ) → bit x k < 2
unfolding bit
bit-lt x k = mod-lt (x / 2 ^ k) (zero-lt-suc 1)

pub bit_zero : (x : ℕ) → bit x 0 ≡ x % 2
unfolding bit
bit_zero x = ap (λ (y : ℕ). y % 2) (div-one x)

pub bit-shr : (x s k : ℕ) → bit (x / 2 ^ s) k ≡ bit x (s + k)
unfolding bit
bit-shr x s k = ap (λ (y : ℕ). y % 2) (shr-shr x s k)

pub bit-suc : (x k : ℕ) → bit x (suc k) ≡ bit (x / 2) k
bit-suc x k = ap (bit x) (sym (one-add k)) ∙ sym (bit-shr x 1 k)

pub bit_of_zero : (k : ℕ) → bit 0 k ≡ 0
unfolding bit
bit_of_zero k = ap (λ (y : ℕ). y % 2) (zero-div (2 ^ k))

-- ---- `|` and `&`

or-low : (x y : ℕ) → bit_or x y % 2 ≡ max (x % 2) (y % 2)
or-low x y =
    let hx : x % 2 < 2 = mod-lt x (zero-lt-suc 1) in
    let hy : y % 2 < 2 = mod-lt y (zero-lt-suc 1) in
    let m : max (x % 2) (y % 2) < 2 = omega arith in
    ap (λ (z : ℕ). z % 2) (or_step x y) ∙ digits_mod (bit_or (x / 2) (y / 2)) m

pub bit-or : (x y k : ℕ) → bit (bit_or x y) k ≡ max (bit x k) (bit y k)
unfolding bit
bit-or x y k = ap (λ (z : ℕ). z % 2) (or_shr x y k) ∙ or-low (x / 2 ^ k) (y / 2 ^ k)

and_low : (x y : ℕ) → bit_and x y % 2 ≡ min (x % 2) (y % 2)
and_low x y =
    let hx : x % 2 < 2 = mod-lt x (zero-lt-suc 1) in
    let m : min (x % 2) (y % 2) < 2 = omega arith in
    ap (λ (z : ℕ). z % 2) (and_step x y) ∙ digits_mod (bit_and (x / 2) (y / 2)) m

pub bit-and : (x y k : ℕ) → bit (bit_and x y) k ≡ min (bit x k) (bit y k)
unfolding bit
bit-and x y k = ap (λ (z : ℕ). z % 2) (and_shr x y k) ∙ and_low (x / 2 ^ k) (y / 2 ^ k)

-- ---- one bit

half_pow : (k : ℕ) → 2 ^ suc k / 2 ≡ 2 ^ k
half_pow k = ap (λ (x : ℕ). x / 2) (sym (one-mul (2 ^ suc k))) ∙ shifted_half 1 k ∙ one-mul (2 ^ k)

even_pow : (k : ℕ) → 2 ^ suc k % 2 ≡ 0
even_pow k = ap (λ (x : ℕ). x % 2) (sym (one-mul (2 ^ suc k))) ∙ shifted_even 1 k

pub bit-pow : (k : ℕ) → bit (2 ^ k) k ≡ 1
bit-pow zero = bit_zero 1
bit-pow (suc k) = bit-suc (2 ^ suc k) k ∙ ap (λ (x : ℕ). bit x k) (half_pow k) ∙ bit-pow k

pub bit-pow_other : (k j : ℕ) → j ≢ k → bit (2 ^ k) j ≡ 0
bit-pow_other zero zero h = absurd (h refl)
bit-pow_other zero (suc j) h = bit-suc 1 j ∙ bit_of_zero j
bit-pow_other (suc k) zero h = bit_zero (2 ^ suc k) ∙ even_pow k
bit-pow_other (suc k) (suc j) h =
    bit-suc (2 ^ suc k) j ∙ ap (λ (x : ℕ). bit x j) (half_pow k) ∙ bit-pow_other k j (λ e. h (ap suc e))

-- a 1 shifted left within a mask
pub one_shl : (k : ℕ) → k < 64 → (1 * 2 ^ k) % 2 ^ 64 ≡ 2 ^ k
one_shl k h = shl_exact 1 k 64 (omega arith) (omega arith) ∙ one-mul (2 ^ k)

-- a mask with bit k set
pub with_here : (m k : ℕ) → bit (bit_or m (2 ^ k)) k ≡ 1
with_here m k = bit-or m (2 ^ k) k ∙ ap (λ (x : ℕ). max (bit m k) x) (bit-pow k) ∙ (let h = bit-lt m k in omega arith)

pub with_other : (m k j : ℕ) → j ≢ k → bit (bit_or m (2 ^ k)) j ≡ bit m j
with_other m k j ne = bit-or m (2 ^ k) j ∙ ap (λ (x : ℕ). max (bit m j) x) (bit-pow_other k j ne) ∙ omega arith

-- a number below 2 ^ n has no bit from n on
pub bit_high : (n x k : ℕ) → x < 2 ^ n → n ≤ k → bit x k ≡ 0
unfolding bit
bit_high n x k h l = ap (λ (y : ℕ). y % 2) (div-eq_of_lt (lt_of_lt_of_le h (pow_mono l)))

half_below : (n x : ℕ) → x < 2 ^ suc n → x / 2 < 2 ^ n
half_below n x h = shr_lt n 1 (subst (λ (k : ℕ). x < 2 ^ k) (sym (add-one n)) h)

-- ---- `!`

bit-cons_zero : (h b : ℕ) → b < 2 → bit (h * 2 + b) 0 ≡ b
bit-cons_zero h b l = bit_zero (h * 2 + b) ∙ digits_mod h l

bit-cons-suc : (h b k : ℕ) → b < 2 → bit (h * 2 + b) (suc k) ≡ bit h k
bit-cons-suc h b k l = bit-suc (h * 2 + b) k ∙ ap (λ (x : ℕ). bit x k) (digits_div h l)

pub bit_not : (n x k : ℕ) → x < 2 ^ n → k < n → bit ((2 ^ n - 1) - x) k ≡ 1 - bit x k
bit_not zero x k hx l = absurd (not-suc-le-zero l)
bit_not (suc n) x k hx l = ap (λ (z : ℕ). bit z k) whole ∙ go (λ j h. bit_not n (x / 2) j half h) k l
  where
    r : ℕ
    r = (2 ^ n - 1) - x / 2

    half : x / 2 < 2 ^ n
    half = half_below n x hx

    odd : 1 - x % 2 < 2
    odd = omega arith

    whole : (2 ^ suc n - 1) - x ≡ r * 2 + (1 - x % 2)
    whole = let p : 2 ^ suc n ≡ 2 ^ n * 2 = pow-suc 2 n in let q = half in omega arith

    go : ((j : ℕ) → j < n → bit r j ≡ 1 - bit (x / 2) j) → (k : ℕ) → k < suc n → bit (r * 2 + (1 - x % 2)) k ≡ 1 - bit x k
    go rec zero h = bit-cons_zero r (1 - x % 2) odd ∙ ap (λ (b : ℕ). 1 - b) (sym (bit_zero x))
    go rec (suc j) h = bit-cons-suc r (1 - x % 2) j odd ∙ rec j (le_of_suc-le-suc h) ∙ ap (λ (b : ℕ). 1 - b) (sym (bit-suc x j))

-- ---- `&` with `!`

-- the bits of a mask a that b lacks
abbrev pub without : ℕ → ℕ → ℕ
without a b = bit_and a ((2 ^ 64 - 1) - b)

pub bit-without : (a b k : ℕ) → b < 2 ^ 64 → k < 64 → eqb (bit (without a b) k) 1 ≡ (eqb (bit a k) 1 && not (eqb (bit b k) 1))
bit-without a b k h l =
    ap (λ x. eqb x 1) (bit-and a ((2 ^ 64 - 1) - b) k ∙ ap (λ x. min (bit a k) x) (bit_not 64 b k h l))
    ∙ each (bit a k) (bit b k) (two_cases (bit a k) (bit-lt a k)) (two_cases (bit b k) (bit-lt b k))
  where
    each : (x y : ℕ) → (x ≡ 0) ⊎ (x ≡ 1) → (y ≡ 0) ⊎ (y ≡ 1) → eqb (min x (1 - y)) 1 ≡ (eqb x 1 && not (eqb y 1))
    each x y (inl p) (inl q) = rw (p, q)
    each x y (inl p) (inr q) = rw (p, q)
    each x y (inr p) (inl q) = rw (p, q)
    each x y (inr p) (inr q) = rw (p, q)

-- ---- the trailing zeros

below_go : (x d t : ℕ) → x % 2 ≡ d → ((j : ℕ) → j < t → bit (x / 2) j ≡ 0) → (j : ℕ) → j < under d t → bit x j ≡ 0
below_go x zero t e rest zero h = bit_zero x ∙ e
below_go x zero t e rest (suc j) h = bit-suc x j ∙ rest j (le_of_suc-le-suc h)
below_go x (suc d) t e rest j h = absurd (not-suc-le-zero h)

-- no bit below the trailing zeros' count is set
pub trailing_below : (n x j : ℕ) → j < count_trailing_zeros n x → bit x j ≡ 0
unfolding count_trailing_zeros
trailing_below zero x j h = absurd (not-suc-le-zero h)
trailing_below (suc n) x j h =
    below_go x (x % 2) (count_trailing_zeros n (x / 2)) refl (λ i l. trailing_below n (x / 2) i l) j h

at-go : (x d t n : ℕ) → x % 2 ≡ d → d < 2 → (t < n → bit (x / 2) t ≡ 1) → under d t < suc n → bit x (under d t) ≡ 1
at-go x zero t n e l rest h = bit-suc x t ∙ rest (le_of_suc-le-suc h)
at-go x (suc d) t n e l rest h = bit_zero x ∙ e ∙ ap suc (lt-one (le_of_suc-le-suc l))

-- the bit at the trailing zeros' count is set, unless there is none
pub trailing_at : (n x : ℕ) → count_trailing_zeros n x < n → bit x (count_trailing_zeros n x) ≡ 1
unfolding count_trailing_zeros
trailing_at zero x h = absurd (not-suc-le-zero h)
trailing_at (suc n) x h =
    at-go x (x % 2) (count_trailing_zeros n (x / 2)) n refl (mod-lt x (zero-lt-suc 1)) (λ l. trailing_at n (x / 2) l) h

lt-go : (x d t n : ℕ) → x % 2 ≡ d → 0 < x → (0 < x / 2 → t < n) → under d t < suc n
lt-go x zero t n e p rest = suc-le-suc (rest (omega arith))
lt-go x (suc d) t n e p rest = zero-lt-suc n

-- a number that is not 0 has a set bit
pub trailing_lt : (n x : ℕ) → 0 < x → x < 2 ^ n → count_trailing_zeros n x < n
unfolding count_trailing_zeros
trailing_lt zero x p h = absurd (lt_irrefl 0 (subst (λ (y : ℕ). 0 < y) (lt-one h) p))
trailing_lt (suc n) x p h =
    lt-go x (x % 2) (count_trailing_zeros n (x / 2)) n refl p (λ q. trailing_lt n (x / 2) q (half_below n x h))

-- ---- the count of ones

pub ones_sum : (n x : ℕ) → x < 2 ^ n → ones x ≡ sum n (bit x)
unfolding sum
ones_sum zero x h = le-zero (ones-le 0 x h)
ones_sum (suc n) x h =
    ones_step x
    ∙ ap₂ (λ (a b : ℕ). a + b) (sym (bit_zero x))
    (ones_sum n (x / 2) (half_below n x h) ∙ sum_ext n (bit (x / 2)) (λ k. bit x (suc k)) (λ k l. sym (bit-suc x k)))
    ∙ sym (sum-front n (bit x))
