-- A loop over the members of a mask, lowest first: x holds those that are left, and each that x lost has been seen to. Assumes nothing.
use Rattle.counting.proofs.Prelude.{◌≡◌, sym, ap, ◌∙◌, subst, ◌≢◌, ◌⊎◌, inl, inr, ⊎_elim, ℕ, ◌^◌, ◌<◌, arith}
use native.Mathlib.Nat.{lt_of_le_of_lt}
use native.Mathlib.Decide.{ℕ_discrete}
use lib.Bits.{and_le_l}
use lib.Count.{count_trailing_zeros}
use Rattle.specification.specs.Sets.{bit}
use Rattle.masks.proofs.Bits.{bit_of_zero, trailing_at, trailing_lt}
use Rattle.masks.proofs.Clearing.{clear, cleared_at, cleared_other, clear_less}

-- of the members of `mask` x has some, and every other has P
pub record Visited (mask x : ℕ) (P : ℕ → Type 0) : Type 0 where
  pub fits : x < 2 ^ 64
  pub left : (j : ℕ) → bit x j ≡ 1 → bit mask j ≡ 1
  pub seen : (j : ℕ) → bit mask j ≡ 1 → (bit x j ≡ 1) ⊎ P j

pub visited_none : (mask : ℕ) (P : ℕ → Type 0) → mask < 2 ^ 64 → Visited mask mask P
visited_none mask P h = record { fits = h; left = λ j e. e; seen = λ j e. inl e }

pub visited_all : (mask x : ℕ) (P : ℕ → Type 0) → Visited mask x P → x ≡ 0 → (j : ℕ) → bit mask j ≡ 1 → P j
visited_all mask x P s z j e =
    ⊎_elim (λ q. absurd (let n : bit x j ≡ 0 = ap (λ (y : ℕ). bit y j) z ∙ bit_of_zero j in omega arith)) (λ p. p) (s.seen j e)

module _ (mask x : ℕ) (P : ℕ → Type 0) (s : Visited mask x P) (some : x ≢ 0) where
  -- the lowest of those that are left
  pub lowest : ℕ
  lowest = count_trailing_zeros 64 x

  positive : 0 < x
  positive = omega arith

  pub lowest-lt : count_trailing_zeros 64 x < 64
  lowest-lt = trailing_lt 64 x positive s.fits

  pub lowest_in : bit mask (count_trailing_zeros 64 x) ≡ 1
  lowest_in = s.left (count_trailing_zeros 64 x) (trailing_at 64 x lowest-lt)

  pub visited_less : clear x < x
  visited_less = clear_less x positive

  -- it is seen to, and those that were stay so
  pub visited_more : (Q : ℕ → Type 0) → ((j : ℕ) → P j → Q j) → Q (count_trailing_zeros 64 x) → Visited mask (clear x) Q
  visited_more Q keep new = record {
    fits = lt_of_le_of_lt (and_le_l x _) s.fits;
    left = λ j e. s.left j (back j e (ℕ_discrete j (count_trailing_zeros 64 x)));
    seen = λ j e. ⊎_elim (λ q. there j q (ℕ_discrete j (count_trailing_zeros 64 x))) (λ p. inr (keep j p)) (s.seen j e);
  }
    where
      back : (j : ℕ) → bit (clear x) j ≡ 1 → Dec (j ≡ count_trailing_zeros 64 x) → bit x j ≡ 1
      back j e (yes q) = absurd (let z : bit (clear x) j ≡ 0 = ap (bit (clear x)) q ∙ cleared_at 64 x positive s.fits in omega arith)
      back j e (no d) = sym (cleared_other 64 x j positive s.fits d) ∙ e

      there : (j : ℕ) → bit x j ≡ 1 → Dec (j ≡ count_trailing_zeros 64 x) → (bit (clear x) j ≡ 1) ⊎ Q j
      there j e (yes q) = inr (subst Q (sym q) new)
      there j e (no d) = inl (cleared_other 64 x j positive s.fits d ∙ e)

-- members that the loop leaves out, where they have what they are to have already
pub visited_skip : (mask x y : ℕ) (P : ℕ → Type 0) → Visited mask x P → y < 2 ^ 64 → ((j : ℕ) → bit y j ≡ 1 → bit x j ≡ 1)
    → ((j : ℕ) → bit x j ≡ 1 → (bit y j ≡ 1) ⊎ P j) → Visited mask y P
visited_skip mask x y P s h sub out = record {
  fits = h;
  left = λ j e. s.left j (sub j e);
  seen = λ j e. ⊎_elim (λ q. out j q) inr (s.seen j e);
}
