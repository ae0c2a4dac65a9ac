-- Members that are in the union already are left out. Assumes nothing.
use Rattle.counting.proofs.Prelude.{◌≡◌, refl, sym, ap, ◌∙◌, subst, ◌≢◌, ◌⊎◌, inl, inr, ⊎_elim, List, ℕ, ◌+◌, ◌-◌, ◌*◌, ◌^◌, ◌≤◌, ◌<◌, max}
use Rattle.counting.proofs.Prelude.{arith, get_or}
use native.Mathlib.Nat.{lt_of_le_of_lt}
use lib.Bits.{bit_or, and_le_l, or_lt}
use lib.Count.{count_trailing_zeros}
use Rattle.counting.proofs.Truth.{lt-or-le, two_cases}
use Rattle.specification.specs.Sets.{bit, at}
use Rattle.masks.specs.Pairs.{in_pair}
use Rattle.masks.proofs.Bits.{bit-lt, bit-and, bit_not, bit_high, bit_of_zero, without}
use Rattle.masks.proofs.Tables.{at_lt}
use Rattle.masks.proofs.Clearing.{clear}
use Rattle.masks.proofs.Visiting.{Visited, visited_skip, visited_less, lowest-lt, lowest_in}
use Rattle.masks.proofs.Pairing.{pair_lt, pair_low, pair_high, pair_or, pair_at, pair_zero, max_split, max-make}
use Rattle.descent.specs.Steps.Members.{Nested, Covered}
use Rattle.descent.proofs.Gathering.{Held, Gathering, gathering_none, gathering_more}

pub covered_none : (t : List ℕ) (low high : ℕ) → Covered t low high 0 0
covered_none t low high = record { inner = λ w v hw hv m i e. absurd (let z = pair_zero w hw in omega arith) }

module _ (t : List ℕ) (low high : ℕ) (n : Nested t low high) where
  covered_more : (a b w : ℕ) → Covered t low high a b → w < 128 → in_pair low high w ≡ 1
      → Covered t low high (bit_or a (get_or t (2 * w) 0)) (bit_or b (get_or t (2 * w + 1) 0))
  covered_more a b w g hw mw = record {
    inner = λ x v hx hv m i e. into v hv (⊎_elim
        (λ o. inl (g.inner x v hx hv m o e))
        (λ o. inr (n.holds w x v hw hx hv mw m o e))
        (max_split (in_pair a b x) (at 2 t w x) (pair_lt a b x) (at_lt 2 t w x) (sym (whole x hx) ∙ i)));
  }
    where
      whole : (v : ℕ) → v < 128
          → in_pair (bit_or a (get_or t (2 * w) 0)) (bit_or b (get_or t (2 * w + 1) 0)) v ≡ max (in_pair a b v) (at 2 t w v)
      whole v h = pair_or a b _ _ v h ∙ ap (max (in_pair a b v)) (pair_at t w v h)

      into : (v : ℕ) → v < 128 → (in_pair a b v ≡ 1) ⊎ (at 2 t w v ≡ 1)
          → in_pair (bit_or a (get_or t (2 * w) 0)) (bit_or b (get_or t (2 * w + 1) 0)) v ≡ 1
      into v h o = whole v h ∙ max-make (in_pair a b v) (at 2 t w v) (pair_lt a b v) (at_lt 2 t w v) o

  -- a mask of low, high that begins at vertex `base`
  module _ (mask base : ℕ) (few : base ≤ 64) (part : (j : ℕ) → j < 64 → bit mask j ≡ 1 → in_pair low high (base + j) ≡ 1) (c d : ℕ) where
    -- those of the mask that the union has, by its own mask `own`, are left out
    pub gathering_skip : (a b x own : ℕ) → Gathering t mask base c d a b x → Covered t low high a b → own < 2 ^ 64
        → ((j : ℕ) → j < 64 → in_pair a b (base + j) ≡ bit own j)
        → Gathering t mask base c d a b (without x own)
    gathering_skip a b x own g v f same = record {
      members =
          visited_skip mask x (without x own) (Held t base a b) g.members (lt_of_le_of_lt (and_le_l x _) g.members.fits) sub out;
      kept = g.kept;
      only = g.only;
    }
      where
        sub : (j : ℕ) → bit (without x own) j ≡ 1 → bit x j ≡ 1
        sub j e = let w = bit-and x ((2 ^ 64 - 1) - own) j in let y = bit-lt x j in omega arith

        inside : (j : ℕ) → bit x j ≡ 1 → j < 64
        inside j e = ⊎_elim (λ l. l) (λ l. absurd (let z = bit_high 64 x j g.members.fits l in omega arith)) (lt-or-le j 64)

        out : (j : ℕ) → bit x j ≡ 1 → (bit (without x own) j ≡ 1) ⊎ Held t base a b j
        out j e = ⊎_elim (λ z. inl (left j e z)) (λ z. inr (covered j e z)) (two_cases (bit own j) (bit-lt own j))
          where
            left : (j : ℕ) → bit x j ≡ 1 → bit own j ≡ 0 → bit (without x own) j ≡ 1
            left j e z = let w = bit-and x ((2 ^ 64 - 1) - own) j in let y = bit_not 64 own j f (inside j e) in omega arith

            covered : (j : ℕ) → bit x j ≡ 1 → bit own j ≡ 1 → Held t base a b j
            covered j e z u hu i =
                let h = inside j e in
                v.inner (base + j) u (omega arith) hu (part j h (g.members.left j e)) (same j h ∙ z) i

    -- one member more, and what the union then has is left out
    pub skipping_more : (a b x w : ℕ) → Gathering t mask base c d a b x → Covered t low high a b → x ≢ 0
        → w ≡ base + count_trailing_zeros 64 x
        → Gathering t mask base c d (bit_or a (get_or t (2 * w) 0)) (bit_or b (get_or t (2 * w + 1) 0)) (clear x)
        × Covered t low high (bit_or a (get_or t (2 * w) 0)) (bit_or b (get_or t (2 * w + 1) 0))
    skipping_more a b x w g v ne ew =
        let l = lowest-lt mask x _ g.members ne in (
          gathering_more t mask base c d a b x w _ _ g ne ew refl refl,
          covered_more a b w v (omega arith) (ap (in_pair low high) ew ∙ part _ l (lowest_in mask x _ g.members ne)),
        )

pub skip_less : (mask x : ℕ) (P : ℕ → Type 0) → Visited mask x P → x ≢ 0 → (own : ℕ) → without (clear x) own < x
skip_less mask x P s ne own = let k = and_le_l (clear x) ((2 ^ 64 - 1) - own) in let l = visited_less mask x P s ne in omega arith

-- ---- the two loops

-- in the loop over the first mask x is left
pub record First (t : List ℕ) (low high a b x : ℕ) : Type 0 where
  pub low_fits : a < 2 ^ 64
  pub high_fits : b < 2 ^ 64
  pub so_far : Gathering t low 0 0 0 a b x
  pub covered : Covered t low high a b

-- in the loop over the second mask x is left
pub record Second (t : List ℕ) (mask c d a b x : ℕ) : Type 0 where
  pub high_fits : b < 2 ^ 64
  pub so_far : Gathering t mask 64 c d a b x
  pub covered : Covered t 0 mask a b

pub first_none : (t : List ℕ) (low high : ℕ) → low < 2 ^ 64 → First t low high 0 0 low
first_none t low high h =
    record { low_fits = omega arith; high_fits = omega arith; so_far = gathering_none t low 0 0 0 h; covered = covered_none t low high }

module _ (t : List ℕ) (low high : ℕ) (n : Nested t low high) where
  low_part : (j : ℕ) → j < 64 → bit low j ≡ 1 → in_pair low high (0 + j) ≡ 1
  low_part j h e = ap (in_pair low high) (let z : 0 + j ≡ j = omega arith in z) ∙ pair_low low high j h ∙ e

  pub first_more : ((i : ℕ) → get_or t i 0 < 2 ^ 64) → (a b x : ℕ) → First t low high a b x → x ≢ 0
      → First t low high (bit_or a (get_or t (2 * count_trailing_zeros 64 x) 0)) (bit_or b (get_or t (2 * count_trailing_zeros 64 x + 1) 0))
      (without (clear x) (bit_or a (get_or t (2 * count_trailing_zeros 64 x) 0)))
  first_more fit a b x g ne =
      let w : ℕ = count_trailing_zeros 64 x in
      let fa = or_lt 64 a (get_or t (2 * w) 0) g.low_fits (fit (2 * w)) in
      let k = skipping_more t low high n low 0 (omega arith) low_part 0 0 a b x w g.so_far g.covered ne
      (let z : w ≡ 0 + w = omega arith in z) in
      record {
        low_fits = fa;
        high_fits = or_lt 64 b (get_or t (2 * w + 1) 0) g.high_fits (fit (2 * w + 1));
        so_far = gathering_skip t low high n low 0 (omega arith) low_part 0 0 _ _ (clear x) _ k.0 k.1 fa
            (λ j h. ap (in_pair _ _) (let z : 0 + j ≡ j = omega arith in z) ∙ pair_low _ _ j h);
        covered = k.1;
      }

-- what holds of both masks holds of the second
second_in : (low high w : ℕ) → w < 128 → in_pair 0 high w ≡ 1 → in_pair low high w ≡ 1
second_in low high w h e =
    ⊎_elim
    (λ l. absurd (let z = pair_low 0 high w l ∙ bit_of_zero w in omega arith))
    (λ l.
    let q : 64 + (w - 64) ≡ w = omega arith in
    subst (λ (x : ℕ). in_pair low high x ≡ 1) q
    (pair_high low high (w - 64) (omega arith) ∙ sym (pair_high 0 high (w - 64) (omega arith)) ∙ ap (in_pair 0 high) q ∙ e))
    (lt-or-le w 64)

pub nested_second : (t : List ℕ) (low high : ℕ) → Nested t low high → Nested t 0 high
nested_second t low high n =
    record { holds = λ x w v hx hw hv i j. n.holds x w v hx hw hv (second_in low high x hx i) (second_in low high w hw j) }

pub covered_second : (t : List ℕ) (low high a b : ℕ) → Covered t low high a b → Covered t 0 high a b
covered_second t low high a b g = record { inner = λ w v hw hv i. g.inner w v hw hv (second_in low high w hw i) }

module _ (t : List ℕ) (mask : ℕ) (n : Nested t 0 mask) where
  part : (j : ℕ) → j < 64 → bit mask j ≡ 1 → in_pair 0 mask (64 + j) ≡ 1
  part j h e = pair_high 0 mask j h ∙ e

  pub second_none : (a b : ℕ) → b < 2 ^ 64 → mask < 2 ^ 64 → Covered t 0 mask a b → Second t mask a b a b (without mask b)
  second_none a b fb fm g = record {
    high_fits = fb;
    so_far =
        gathering_skip t 0 mask n mask 64 (omega arith) part a b a b mask b (gathering_none t mask 64 a b fm) g fb
        (λ j l. pair_high a b j l);
    covered = g;
  }

  pub second_more : ((i : ℕ) → get_or t i 0 < 2 ^ 64) → (c d a b x : ℕ) → Second t mask c d a b x → x ≢ 0
      → Second t mask c d (bit_or a (get_or t (2 * (64 + count_trailing_zeros 64 x)) 0))
      (bit_or b (get_or t (2 * (64 + count_trailing_zeros 64 x) + 1) 0))
      (without (clear x) (bit_or b (get_or t (2 * (64 + count_trailing_zeros 64 x) + 1) 0)))
  second_more fit c d a b x g ne =
      let w : ℕ = 64 + count_trailing_zeros 64 x in
      let fb = or_lt 64 b (get_or t (2 * w + 1) 0) g.high_fits (fit (2 * w + 1)) in
      let k = skipping_more t 0 mask n mask 64 (omega arith) part c d a b x w g.so_far g.covered ne refl in
      record {
        high_fits = fb;
        so_far = gathering_skip t 0 mask n mask 64 (omega arith) part c d _ _ (clear x) _ k.0 k.1 fb (λ j h. pair_high _ _ j h);
        covered = k.1;
      }
