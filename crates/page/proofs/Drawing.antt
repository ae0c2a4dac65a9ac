-- Cells on the page have exact points, and what the calls give is what is right for their cells. Assumes nothing.
use Rattle.counting.proofs.Prelude.{◌≡◌, refl, sym, ap₂, subst, ◌∙◌, Bool, true, false, List, [], ◌∷◌, map, ℕ, ◌*◌, ◌^◌, ◌<◌, ◌≤◌}
use Rattle.counting.proofs.Prelude.{arith, leb, lit≤, leb-false}
use Rattle.std.proofs.Common.{Some}
use native.Mathlib.Nat.{lt_of_lt_of_le, mul-lt-mul_of_pos_right}
use lib.Ieee.Exact.{HasValue}
use Rattle.counting.proofs.Truth.{or_neither}
use Rattle.specification.specs.declared.Cell.{Cell}
use Rattle.specification.specs.declared.Point.{Point}
use Rattle.specification.specs.declared.Polyline.{Polyline}
use Rattle.specification.specs.Limits.{page_columns, page_rows}
use Rattle.specification.specs.Page.{column_pitch, row_pitch, per_point, to_points, point_of, At, AllAt}
use Rattle.specification.specs.Page.{off_page, any_off, accepted, answer_of, Answers}
use Rattle.page.specs.Places.{place_if, place_of}
use Rattle.page.proofs.Exact.{exact}

-- the test in numbers
pub record OnPage (c : Cell) : Type 0 where
  pub in_columns : c.column < page_columns
  pub in_rows : c.row < page_rows

pub on : (c : Cell) → off_page c ≡ false → OnPage c
on c h =
    let w = or_neither (leb page_columns c.column) (leb page_rows c.row) h in
    record { in_columns = leb-false _ _ w.0; in_rows = leb-false _ _ w.1 }

-- a multiple of the pitch is exact on any page of at most 2 ^ 24 quarter points
spaced : (k bound pitch : ℕ) → k < bound → 0 < pitch → bound * pitch ≤ 2 ^ 24 → HasValue (to_points (k * pitch)) false (k * pitch) per_point
spaced k bound pitch h p fits = exact (k * pitch) (lt_of_lt_of_le (mul-lt-mul_of_pos_right h p) fits)

at : (c : Cell) → off_page c ≡ false → At c (point_of c)
at c h = let o = on c h in record {
  across = spaced c.column page_columns column_pitch o.in_columns (omega arith) (lit≤ tt);
  up = spaced c.row page_rows row_pitch o.in_rows (omega arith) (lit≤ tt);
}

pub on_page : (c : Cell) → off_page c ≡ false → Some (point_of c) ≡ place_of c
on_page c h = rw h refl

-- each cell's place is its point
abbrev pub AllPlaced : List Cell → List Point → Type 0
AllPlaced [] [] = Unit {0}
AllPlaced [] (p ∷ ps) = ⊥
AllPlaced (c ∷ cs) [] = ⊥
AllPlaced (c ∷ cs) (p ∷ ps) = (place_of c ≡ Some p) × AllPlaced cs ps

placed : (off : Bool) (q p : Point) → place_if off q ≡ Some p → (off ≡ false) × (q ≡ p)
placed true q p e = absurd (cc)
placed false q p e = (refl, cc)

all_on : (cs : List Cell) (ps : List Point) → AllPlaced cs ps → (any_off cs ≡ false) × (map point_of cs ≡ ps) × AllAt cs ps
all_on [] [] o = (refl, refl, tt)
all_on [] (p ∷ ps) o = absurd o
all_on (c ∷ cs) [] o = absurd o
all_on (c ∷ cs) (p ∷ ps) o =
    let one = placed (off_page c) (point_of c) p o.0 in
    let more = all_on cs ps o.1 in
    (rw one.0 more.0, ap₂ ◌∷◌ one.1 more.1, (subst (At c) one.1 (at c one.0), more.2))

-- where each cell has a place the answer is right for the cells
pub draw : (cs : List Cell) (ps : List Point) (r : Polyline) → AllPlaced cs ps → answer_of r ≡ accepted ps → Answers cs r
draw cs ps r o is =
    let w = all_on cs ps o in
    record { answer = is ∙ sym (rw (w.0, w.1) refl); exact = λ _. rw is w.2 }
