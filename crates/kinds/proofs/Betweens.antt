-- The candidates of a cross edge, as two masks. Assumes nothing.
use Rattle.counting.proofs.Prelude.{◌≡◌, refl, ap, ap₂, ◌∙◌, ◌⊎◌, inl, inr, ⊎_elim, Bool, true, false, not, ◌&&◌, List, ℕ, ◌+◌, ◌-◌, ◌*◌}
use Rattle.counting.proofs.Prelude.{◌^◌, ◌<◌, min, max, arith, eqb, ltb, get_or, lt-ltb, le-ltb, false≢true}
use Rattle.counting.proofs.Truth.{lt-or-le, two_cases, and_elim}
use Rattle.specification.specs.Sets.{at, has?}
use Rattle.specification.specs.Geometry.{Point, course_among}
use Rattle.specification.specs.declared.Course.TheVariants.{Straight}
use Rattle.masks.specs.Pairs.{in_pair}
use Rattle.masks.proofs.Bits.{without}
use Rattle.masks.proofs.Tables.{at_lt}
use Rattle.masks.proofs.Pairing.{pair_and, pair_without, pair_at}
use Rattle.geometry.proofs.Among.{pair_past, among_free, among_same}
use Rattle.kinds.specs.Kinds.{strictly?, candidate?}
use Rattle.kinds.specs.Steps.{between}

-- ---- two bits

bits_and : (x y : ℕ) → x < 2 → y < 2 → eqb (min x y) 1 ≡ (eqb x 1 && eqb y 1)
bits_and x y hx hy = each (two_cases x hx) (two_cases y hy)
  where
    each : (x ≡ 0) ⊎ (x ≡ 1) → (y ≡ 0) ⊎ (y ≡ 1) → eqb (min x y) 1 ≡ (eqb x 1 && eqb y 1)
    each (inl p) (inl q) = rw (p, q)
    each (inl p) (inr q) = rw (p, q)
    each (inr p) (inl q) = rw (p, q)
    each (inr p) (inr q) = rw (p, q)

bits_without : (x y : ℕ) → x < 2 → y < 2 → eqb (min x (1 - y)) 1 ≡ (eqb x 1 && not (eqb y 1))
bits_without x y hx hy = each (two_cases x hx) (two_cases y hy)
  where
    each : (x ≡ 0) ⊎ (x ≡ 1) → (y ≡ 0) ⊎ (y ≡ 1) → eqb (min x (1 - y)) 1 ≡ (eqb x 1 && not (eqb y 1))
    each (inl p) (inl q) = rw (p, q)
    each (inl p) (inr q) = rw (p, q)
    each (inr p) (inl q) = rw (p, q)
    each (inr p) (inr q) = rw (p, q)

-- ---- the masks of those strictly between by row and by channel

module _ (below left : List ℕ) (fb : (x : ℕ) → get_or below x 0 < 2 ^ 64) (fl : (x : ℕ) → get_or left x 0 < 2 ^ 64) where
  strictly_pair : (t : List ℕ) → ((x : ℕ) → get_or t x 0 < 2 ^ 64) → (a b w : ℕ) → w < 128
      → in_pair (without (get_or t (2 * b) 0) (get_or t (2 * (a + 1)) 0)) (without (get_or t (2 * b + 1) 0) (get_or t (2 * (a + 1) + 1) 0))
      w
      ≡ min (at 2 t b w) (1 - at 2 t (a + 1) w)
  strictly_pair t f a b w l =
      pair_without _ _ _ _ w l (f (2 * (a + 1))) (f (2 * (a + 1) + 1))
      ∙ ap₂ (λ (x y : ℕ). min x (1 - y)) (pair_at t b w l) (pair_at t (a + 1) w l)

  -- the two masks as the code makes them, from the ends' rows a and b, and x and y the lesser and the larger of their channels
  abbrev Masked : ℕ → ℕ → ℕ → ℕ → ℕ → ℕ → Type 0
  Masked a b x y first second =
      (first ≡ between (get_or below (2 * b) 0) (get_or below (2 * (a + 1)) 0) (get_or left (2 * y) 0) (get_or left (2 * (x + 1)) 0))
      × (second
      ≡ between (get_or below (2 * b + 1) 0) (get_or below (2 * (a + 1) + 1) 0) (get_or left (2 * y + 1) 0)
      (get_or left (2 * (x + 1) + 1) 0))

  module _ (a b x y first second : ℕ) (masked : Masked a b x y first second) where
    masked_low : (w : ℕ) → w < 128 → eqb (in_pair first second w) 1 ≡ (strictly? below a b w && strictly? left x y w)
    unfolding has?
    masked_low w l =
        ap (λ k. eqb k 1) (ap₂ (λ p q. in_pair p q w) masked.0 masked.1
        ∙ pair_and _ _ _ _ w l
        ∙ ap₂ min (strictly_pair below fb a b w l) (strictly_pair left fl x y w l))
        ∙ bits_and (min (at 2 below b w) (1 - at 2 below (a + 1) w)) (min (at 2 left y w) (1 - at 2 left (x + 1) w))
        (omega (arith, at_lt 2 below b w)) (omega (arith, at_lt 2 left y w))
        ∙ ap₂ (λ p q. p && q)
        (bits_without _ _ (at_lt 2 below b w) (at_lt 2 below (a + 1) w))
        (bits_without _ _ (at_lt 2 left y w) (at_lt 2 left (x + 1) w))

    masked-candidate : (c d : ℕ) → x ≡ min c d → y ≡ max c d → (w : ℕ) → eqb (in_pair first second w) 1 ≡ candidate? below left a b c d w
    unfolding candidate?
    masked-candidate c d ex ey w =
        ⊎_elim
        (λ l. masked_low w l ∙ rw (lt-ltb w 128 l, ex, ey) refl)
        (λ l. ap (λ k. eqb k 1) (pair_past first second w l) ∙ rw (le-ltb w 128 l) refl)
        (lt-or-le w 128)

-- the course by the code's masks; rows and channels as the code has read them
pub course-masked : (below left : List ℕ) → ((x : ℕ) → get_or below x 0 < 2 ^ 64) → ((x : ℕ) → get_or left x 0 < 2 ^ 64)
    → (a b c d ra rb x y first second : ℕ) → ra ≡ a → rb ≡ b → x ≡ min c d → y ≡ max c d
    → first ≡ between (get_or below (2 * rb) 0) (get_or below (2 * (ra + 1)) 0) (get_or left (2 * y) 0) (get_or left (2 * (x + 1)) 0)
    → second
    ≡ between (get_or below (2 * rb + 1) 0) (get_or below (2 * (ra + 1) + 1) 0) (get_or left (2 * y + 1) 0)
    (get_or left (2 * (x + 1) + 1) 0)
    → (at : ℕ → Point) (n u v : ℕ)
    → course_among (λ w. eqb (in_pair first second w) 1) at n u v ≡ course_among (candidate? below left a b c d) at n u v
course-masked below left fb fl a b c d ra rb x y first second ea eb ex ey p q at n u v =
    among_same _ _ at n u v (λ w _. masked-candidate below left fb fl ra rb x y first second (p, q) c d ex ey w ∙ rw (ea, eb) refl)

-- ---- channels next to each other

never_both : (b : Bool) → (b && not b) ≡ true → ⊥
never_both true e = false≢true e
never_both false e = false≢true e

-- have no vertex strictly between, by any sets
no_candidate : (below left : List ℕ) (a b c d w : ℕ) → max c d ≡ min c d + 1 → candidate? below left a b c d w ≡ true → ⊥
unfolding candidate?
no_candidate below left a b c d w next h =
    let q = (and_elim (strictly? below a b w) (strictly? left (min c d) (max c d) w) (and_elim (ltb w 128) _ h).1).1 in
    never_both (has? 2 left (min c d + 1) w) (rw next at q)

pub course-next : (below left : List ℕ) (a b c d : ℕ) (at : ℕ → Point) (n u v : ℕ) → max c d ≡ min c d + 1
    → course_among (candidate? below left a b c d) at n u v ≡ Straight
course-next below left a b c d at n u v next =
    among_free (candidate? below left a b c d) at n u v (λ k. no_candidate below left a b c d k.blocked.vertex next k.among)
