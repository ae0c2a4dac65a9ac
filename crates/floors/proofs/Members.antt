-- The loop that lifts each member of a mask. Assumes nothing.
use Rattle.counting.proofs.Prelude.{◌≡◌, refl, sym, ap, ◌∙◌, ◌≢◌, List, ℕ, ◌+◌, ◌*◌, ◌^◌, ◌<◌, max, arith, length, set}
use native.Mathlib.Decide.{ℕ_discrete}
use lib.Count.{count_trailing_zeros}
use Rattle.counting.specs.Quads.{quad}
use Rattle.counting.proofs.Quads.{quad-same, quad_other}
use Rattle.specification.specs.Sets.{bit}
use Rattle.masks.proofs.Bits.{trailing_at}
use Rattle.masks.proofs.Clearing.{clear, cleared_at, cleared_other}
use Rattle.masks.proofs.Visiting.{Visited, visited_none, visited_all, visited_more, lowest-lt, lowest_in}
use Rattle.floors.specs.Steps.{Lifted}

-- x has the members that are left: they are as they were
pub record Lifting (mask base r : ℕ) (p s : List ℕ) (x : ℕ) : Type 0 where
  pub members : Visited mask x (λ j. quad 2 s (base + j) ≡ max (quad 2 p (base + j)) r)
  pub still : (j : ℕ) → bit x j ≡ 1 → quad 2 s (base + j) ≡ quad 2 p (base + j)
  pub others : (k v : ℕ) → k < 4 → (k ≡ 2 → (j : ℕ) → j < 64 → bit mask j ≡ 1 → v ≢ base + j) → quad k s v ≡ quad k p v

module _ (mask base r : ℕ) (p : List ℕ) where
  pub lifting_none : mask < 2 ^ 64 → Lifting mask base r p p mask
  lifting_none h = record {
    members = visited_none mask (λ j. quad 2 p (base + j) ≡ max (quad 2 p (base + j)) r) h;
    still = λ j e. refl;
    others = λ k v l o. refl;
  }

  module _ (s : List ℕ) (x v y : ℕ) (g : Lifting mask base r p s x) (ne : x ≢ 0) (ev : v ≡ base + count_trailing_zeros 64 x)
      (hv : 4 * v + 2 < length s) (ey : y ≡ max (quad 2 s v) r) where
    abbrev s' : List ℕ
    s' = set s (4 * v + 2) y

    now : quad 2 s' v ≡ y
    now = quad-same s v 2 y hv

    away : (i : ℕ) → i ≢ v → quad 2 s' i ≡ quad 2 s i
    away i d = quad_other s i 2 v 2 y (omega arith) (omega arith) (λ q _. d q)

    lowest : bit x (count_trailing_zeros 64 x) ≡ 1
    lowest = trailing_at 64 x (lowest-lt mask x _ g.members ne)

    kept : (i : ℕ) → quad 2 s i ≡ max (quad 2 p i) r → Dec (i ≡ v) → quad 2 s' i ≡ max (quad 2 p i) r
    kept i e (yes q) = let a = ap (quad 2 s') q ∙ now in let b = ap (quad 2 s) q in omega (arith, a, b, e, ey)
    kept i e (no d) = away i d ∙ e

    new : quad 2 s' (base + count_trailing_zeros 64 x) ≡ max (quad 2 p (base + count_trailing_zeros 64 x)) r
    new =
        let a = ap (quad 2 s') (sym ev) ∙ now ∙ ey in
        let b = ap (quad 2 s) ev ∙ g.still (count_trailing_zeros 64 x) lowest in
        omega (arith, a, b)

    waits : (j : ℕ) → bit (clear x) j ≡ 1 → Dec (j ≡ count_trailing_zeros 64 x) → quad 2 s' (base + j) ≡ quad 2 p (base + j)
    waits j e (yes q) =
        absurd (let z : bit (clear x) j ≡ 0 = ap (bit (clear x)) q ∙ cleared_at 64 x (omega (arith, ne)) g.members.fits in omega arith)
    waits j e (no d) =
        away (base + j) (λ q. d (omega (arith, q, ev)))
        ∙ g.still j (sym (cleared_other 64 x j (omega (arith, ne)) g.members.fits d) ∙ e)

    pub lifting_more : Lifting mask base r p s' (clear x)
    lifting_more = record {
      members = visited_more mask x (λ j. quad 2 s (base + j) ≡ max (quad 2 p (base + j)) r) g.members ne
          (λ j. quad 2 s' (base + j) ≡ max (quad 2 p (base + j)) r) (λ j e. kept (base + j) e (ℕ_discrete (base + j) v)) new;
      still = λ j e. waits j e (ℕ_discrete j (count_trailing_zeros 64 x));
      others = λ k w l o. quad_other s w k v 2 y l (omega arith)
          (λ e f. o f (count_trailing_zeros 64 x) (lowest-lt mask x _ g.members ne) (lowest_in mask x _ g.members ne) (e ∙ ev))
          ∙ g.others k w l o;
    }

  pub lifting_all : (s : List ℕ) (x : ℕ) → Lifting mask base r p s x → x ≡ 0 → Lifted mask base r p s
  lifting_all s x g z = record {
    members = λ j h e. visited_all mask x (λ i. quad 2 s (base + i) ≡ max (quad 2 p (base + i)) r) g.members z j e;
    others = g.others;
  }
