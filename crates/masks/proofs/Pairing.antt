-- Laws of a set in two masks. Assumes nothing.
use Rattle.counting.proofs.Prelude.{◌≡◌, sym, ap, ap₂, ◌∙◌, ◌⊎◌, inl, inr, ⊎_elim, List, [], ◌∷◌, ℕ, ◌+◌, ◌-◌, ◌*◌, ◌/◌, ◌%◌, ◌^◌, ◌<◌, max}
use Rattle.counting.proofs.Prelude.{min, arith, get_or}
use lib.Bits.{bit_or, bit_and}
use Rattle.counting.proofs.Truth.{lt-or-le}
use Rattle.specification.specs.Sets.{bit, member, at}
use Rattle.masks.proofs.Bits.{bit-lt, bit-or, bit-and, bit_not, bit_of_zero, without}
use Rattle.masks.specs.Pairs.{in_pair}

pub pair_lt : (a b v : ℕ) → in_pair a b v < 2
unfolding in_pair member
pair_lt a b v = bit-lt (get_or (a ∷ b ∷ []) (0 + v / 64) 0) (v % 64)

-- the first mask, or the second
record First (v : ℕ) : Type 0 where
  number : v / 64 ≡ 0
  pair : (a b : ℕ) → in_pair a b v ≡ bit a (v % 64)

record Second (v : ℕ) : Type 0 where
  number : v / 64 ≡ 1
  pair : (a b : ℕ) → in_pair a b v ≡ bit b (v % 64)

halves : (v : ℕ) → v < 128 → First v ⊎ Second v
unfolding in_pair member
halves v h =
    ⊎_elim
    (λ l. let q : v / 64 ≡ 0 = omega arith in
    inl
    (record {
      number = q;
      pair = λ a b. ap (λ (i : ℕ). bit (get_or (a ∷ b ∷ []) i 0) (v % 64)) (let e : 0 + v / 64 ≡ 0 = omega arith in e);
    }))
    (λ l. let q : v / 64 ≡ 1 = omega arith in
    inr
    (record {
      number = q;
      pair = λ a b. ap (λ (i : ℕ). bit (get_or (a ∷ b ∷ []) i 0) (v % 64)) (let e : 0 + v / 64 ≡ 1 = omega arith in e);
    }))
    (lt-or-le v 64)

pub pair_low : (a b j : ℕ) → j < 64 → in_pair a b j ≡ bit a j
pair_low a b j h =
    ⊎_elim (λ f. f.pair a b ∙ ap (bit a) (omega arith)) (λ f. absurd (let e = f.number in omega arith)) (halves j (omega arith))

pub pair_high : (a b j : ℕ) → j < 64 → in_pair a b (64 + j) ≡ bit b j
pair_high a b j h =
    ⊎_elim (λ f. absurd (let e = f.number in omega arith)) (λ f. f.pair a b ∙ ap (bit b) (omega arith)) (halves (64 + j) (omega arith))

pub pair_zero : (v : ℕ) → v < 128 → in_pair 0 0 v ≡ 0
pair_zero v h = ⊎_elim (λ f. f.pair 0 0 ∙ bit_of_zero (v % 64)) (λ f. f.pair 0 0 ∙ bit_of_zero (v % 64)) (halves v h)

pub pair_or : (a b c d v : ℕ) → v < 128 → in_pair (bit_or a c) (bit_or b d) v ≡ max (in_pair a b v) (in_pair c d v)
pair_or a b c d v h =
    ⊎_elim
    (λ f. f.pair _ _ ∙ bit-or a c (v % 64) ∙ sym (ap₂ max (f.pair a b) (f.pair c d)))
    (λ f. f.pair _ _ ∙ bit-or b d (v % 64) ∙ sym (ap₂ max (f.pair a b) (f.pair c d)))
    (halves v h)

pub pair_and : (a b c d v : ℕ) → v < 128 → in_pair (bit_and a c) (bit_and b d) v ≡ min (in_pair a b v) (in_pair c d v)
pair_and a b c d v h =
    ⊎_elim
    (λ f. f.pair _ _ ∙ bit-and a c (v % 64) ∙ sym (ap₂ min (f.pair a b) (f.pair c d)))
    (λ f. f.pair _ _ ∙ bit-and b d (v % 64) ∙ sym (ap₂ min (f.pair a b) (f.pair c d)))
    (halves v h)

-- a member of a, b that c, d lacks
pub pair_without : (a b c d v : ℕ) → v < 128 → c < 2 ^ 64 → d < 2 ^ 64
    → in_pair (without a c) (without b d) v ≡ min (in_pair a b v) (1 - in_pair c d v)
pair_without a b c d v h fc fd =
    ⊎_elim
    (λ f. f.pair _ _ ∙ bit-and a _ (v % 64)
    ∙ ap₂ min (sym (f.pair a b)) (bit_not 64 c (v % 64) fc (omega arith) ∙ ap (λ (x : ℕ). 1 - x) (sym (f.pair c d))))
    (λ f. f.pair _ _ ∙ bit-and b _ (v % 64)
    ∙ ap₂ min (sym (f.pair a b)) (bit_not 64 d (v % 64) fd (omega arith) ∙ ap (λ (x : ℕ). 1 - x) (sym (f.pair c d))))
    (halves v h)

-- the two masks that a table has for u
pub pair_at : (t : List ℕ) (u v : ℕ) → v < 128 → in_pair (get_or t (2 * u) 0) (get_or t (2 * u + 1) 0) v ≡ at 2 t u v
unfolding at member
pair_at t u v h =
    ⊎_elim
    (λ f. f.pair _ _ ∙ ap (λ (i : ℕ). bit (get_or t i 0) (v % 64))
    (let e : 2 * u ≡ 2 * u + v / 64 = (let q = f.number in omega arith) in e))
    (λ f. f.pair _ _ ∙ ap (λ (i : ℕ). bit (get_or t i 0) (v % 64))
    (let e : 2 * u + 1 ≡ 2 * u + v / 64 = (let q = f.number in omega arith) in e))
    (halves v h)

-- the larger of two bits
pub max_split : (x y : ℕ) → x < 2 → y < 2 → max x y ≡ 1 → (x ≡ 1) ⊎ (y ≡ 1)
max_split x y hx hy e = ⊎_elim (λ l. inr (omega arith)) (λ l. inl (omega arith)) (lt-or-le x 1)

pub max-make : (x y : ℕ) → x < 2 → y < 2 → (x ≡ 1) ⊎ (y ≡ 1) → max x y ≡ 1
max-make x y hx hy c = ⊎_elim (λ e. omega arith) (λ e. omega arith) c
