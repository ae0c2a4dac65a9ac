-- Kinds by their numbers, and the cases of a kind by tables. Assumes nothing.
use Rattle.counting.proofs.Prelude.{◌≡◌, refl, true, false, ◌||◌, List, ℕ, ◌+◌, min, arith, eqb, eq-eqb, ne_eqb}
use Rattle.std.specs.Int.{abs_diff}
use native.Mathlib.Decide.{ℕ_discrete}
use Rattle.counting.specs.Quads.{quad}
use Rattle.specification.specs.Bundles.{adjacent?}
use Rattle.geometry.specs.Segment.{point_of, vertex_count}
use Rattle.specification.specs.Geometry.{course_of, course_among}
use Rattle.specification.specs.Chart.{crossing}
use Rattle.specification.specs.declared.Kind.{Kind}
use Rattle.specification.specs.declared.Kind.TheVariants.{Path, PathTransitive, Straight, Bent}
use Rattle.specification.specs.declared.Course.{Course}
use Rattle.kinds.specs.Codes.{kind_of}
use Rattle.specification.specs.Numbers.{code_of}
use Rattle.kinds.specs.Kinds.{kind_in, candidate?, kind_among}

-- a kind is known by its code
pub kind_coded : (k : Kind) → kind_of (code_of k).code (code_of k).value (code_of k).row ≡ k
unfolding kind_of code_of
kind_coded Path = refl
kind_coded (PathTransitive b) = refl
kind_coded Straight = refl
kind_coded (Bent b) = refl

-- ---- neighbours are one apart

pub one_apart : (p q : ℕ) → abs_diff p q ≡ 1 → adjacent? p q ≡ true
unfolding adjacent?
one_apart p q e = go (ℕ_discrete (p + 1) q)
  where
    go : Dec (p + 1 ≡ q) → (eqb (p + 1) q || eqb (q + 1) p) ≡ true
    go (yes h) = rw (eq-eqb (p + 1) q h) refl
    go (no ne) = rw (ne_eqb (p + 1) q ne, eq-eqb (q + 1) p (omega (arith, e, ne))) refl

pub not_one_apart : (p q : ℕ) → (abs_diff p q ≡ 1 → ⊥) → adjacent? p q ≡ false
unfolding adjacent?
not_one_apart p q ne =
    rw (ne_eqb (p + 1) q (λ h. ne (omega (arith, h))), ne_eqb (q + 1) p (λ h. ne (omega (arith, h)))) refl

-- ---- the three cases

-- of the ends' channels and positions, and the numbers of their bundles
module _ (c d p q into out_of : ℕ) (columns places below left : List ℕ) (u v : ℕ) where
  abbrev kind : Kind
  kind = kind_among c d p q into out_of columns places below left u v

  abbrev course : Course
  course =
      course_among (candidate? below left (quad 2 places u) (quad 2 places v) c d) (point_of columns places) (vertex_count columns places)
      u v

  pub between-path : c ≡ d → adjacent? p q ≡ true → kind ≡ Path
  unfolding kind_among
  between-path e a = rw (eq-eqb c d e) (rw a refl)

  pub between_bundle : c ≡ d → adjacent? p q ≡ false → kind ≡ PathTransitive (min into out_of)
  unfolding kind_among
  between_bundle e a = rw (eq-eqb c d e) (rw a refl)

  pub between_across : (c ≡ d → ⊥) → kind ≡ crossing course
  unfolding kind_among
  between_across e = rw (ne_eqb c d e) refl

  -- ---- and with every vertex in place of the candidates

  pub across : (c ≡ d → ⊥) → kind_in c d p q into out_of columns places u v
      ≡ crossing (course_of (point_of columns places) (vertex_count columns places) u v)
  unfolding kind_in
  across e = rw (ne_eqb c d e) refl

  -- within a channel candidates make no difference
  pub within : c ≡ d → kind ≡ kind_in c d p q into out_of columns places u v
  unfolding kind_among kind_in
  within e = rw (eq-eqb c d e) refl
