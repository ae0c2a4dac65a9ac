-- A field that is found lies within the record, and what a good layout rests on. Assumes nothing.
use mathlib.Core.Path.{◌≡◌, refl, sym, ap, ◌∙◌}
use mathlib.Core.Bool.{Bool, true, false, ◌&&◌, and-eq-true_iff}
use mathlib.Core.List.{List, ◌∷◌}
use Prim.Native.Nat.{ℕ, ◌+◌, ◌≤◌, ◌<◌}
use native.Mathlib.Numerals.{add-one}
use native.Mathlib.Omega.{arith}
use lib.Dec.{eqb, leb}
use lib.ListN.{length, get_or, drop}
use lib.Seq.{drop-cons}
use borrow.Author.Tests.{eqb-true, leb-true}
use Rattle.specification.specs.Count.{choose}
use Rattle.specification.specs.Layout.{Found, Missing}
use Rattle.specification.specs.Layout.{Fields}
use Rattle.specification.specs.Layout.{Layout}
use Rattle.specification.specs.Layout.{Good, Bad}
use Rattle.specification.specs.Layout.{size_at, field_at}

-- the byte at i, and what follows
pub byte : (b : List ℕ) (i j : ℕ) → j ≡ i + 1 → i < length b → drop i b ≡ get_or b i 0 ∷ drop j b
byte b i j e h = drop-cons b i 0 h ∙ ap (λ k. get_or b i 0 ∷ drop k b) (sym (e ∙ add-one i))

-- where a found field stands
pub record Inside (tag : ℕ) (b : List ℕ) (at start size : ℕ) : Type 0 where
  pub begins : start ≡ at + 3
  pub ends : start + size ≤ length b
  pub tagged : get_or b at 0 ≡ tag
  pub sized : size ≡ size_at b at

pub found_inside : (tag : ℕ) (b : List ℕ) (at start size : ℕ) → field_at tag b at ≡ Found start size → Inside tag b at start size
unfolding field_at
found_inside tag b at start size = go ((leb (at + 3) (length b) && eqb (get_or b at 0) tag) && leb (at + 3 + size_at b at) (length b)) refl
  where
    go : (t : Bool) → ((leb (at + 3) (length b) && eqb (get_or b at 0) tag) && leb (at + 3 + size_at b at) (length b)) ≡ t
        → choose t (λ _. Found (at + 3) (size_at b at)) (λ _. Missing) ≡ Found start size → Inside tag b at start size
    go true p e =
        let q = (and-eq-true_iff (leb (at + 3) (length b) && eqb (get_or b at 0) tag) (leb (at + 3 + size_at b at) (length b))).0 p in
        let s : at + 3 ≡ start = cc in
        let l : size_at b at ≡ size = cc in
        let h : at + 3 + size_at b at ≤ length b = leb-true _ _ q.1 in
        let t = (and-eq-true_iff (leb (at + 3) (length b)) (eqb (get_or b at 0) tag)).0 q.0 in
        record { begins = sym s; ends = omega arith; tagged = eqb-true _ _ t.1; sized = sym l }
    go false p e = absurd (let z : ◌≡◌ {A = ℕ} 0 1 = cc in omega arith)

-- ---- layouts

pub bad_good : (f : Fields) → Bad ≡ Good f → ⊥
bad_good f e = let z : ◌≡◌ {A = ℕ} 0 1 = cc in omega arith

pub good_same : (f g : Fields) → Good f ≡ Good g → f ≡ g
good_same f g e = cc

pub chosen : (t : Bool) (x : Layout) (f : Fields) → choose t (λ _. x) (λ _. Bad) ≡ Good f → (t ≡ true) × (x ≡ Good f)
chosen true x f e = (refl, e)
chosen false x f e = absurd (bad_good f e)
