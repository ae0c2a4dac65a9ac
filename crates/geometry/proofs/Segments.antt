-- Laws of segments. Assumes nothing.
use Rattle.counting.proofs.Prelude.{◌≡◌, ap, ◌⊎◌, inl, inr, ⊎_elim, ℕ, ◌+◌, ◌-◌, ◌≤◌, ◌<◌, arith}
use native.Mathlib.Nat.{le_antisymm}
use Rattle.counting.proofs.Truth.{lt-or-le}
use Rattle.specification.specs.Geometry.{Point, On, Inside, Hit, left, right}
use Rattle.geometry.proofs.Means.{mean_swap, mean_low, mean_high, mean_first, first_mean, mean_other, mean_products, products_mean}
use Rattle.geometry.proofs.Means.{mean_height}

pub point-eq : (p a : Point) → p.column ≡ a.column → p.row ≡ a.row → p ≡ a
point-eq p a e f = λ i. record { column = e i; row = f i }

pub on_swap : {a b p : Point} → On a b p → On b a p
on_swap {a} {b} {p} o = record {
  rest = o.part;
  part = o.rest;
  some_way = omega arith;
  across = mean_swap o.rest o.part a.column b.column p.column o.some_way o.across;
  along = mean_swap o.rest o.part a.row b.row p.row o.some_way o.along;
}

module _ {a b p : Point} (o : On a b p) where
  no_part : o.part ≡ 0 → p ≡ a
  no_part z = point-eq p a
      (mean_first o.rest o.part a.column b.column p.column o.some_way o.across z)
      (mean_first o.rest o.part a.row b.row p.row o.some_way o.along z)

  -- a point of a rising segment lies between its ends
  pub row_low : a.row ≤ b.row → a.row ≤ p.row
  row_low h = mean_low o.rest o.part a.row b.row p.row o.some_way o.along h

  pub row-high : a.row ≤ b.row → p.row ≤ b.row
  row-high h = mean_high o.rest o.part a.row b.row p.row o.some_way o.along h

  pub column_low : a.column ≤ b.column → a.column ≤ p.column
  column_low h = mean_low o.rest o.part a.column b.column p.column o.some_way o.across h

  pub column_high : a.column ≤ b.column → p.column ≤ b.column
  column_high h = mean_high o.rest o.part a.column b.column p.column o.some_way o.across h

  -- on a level or upright segment it is level with them
  pub row-level : a.row ≡ b.row → p.row ≡ a.row
  row-level e = le_antisymm (let h : p.row ≤ b.row = row-high (omega arith) in omega arith) (row_low (omega arith))

  pub column_level : a.column ≡ b.column → p.column ≡ a.column
  column_level e = le_antisymm (let h : p.column ≤ b.column = column_high (omega arith) in omega arith) (column_low (omega arith))

  -- and is an end where it shares with it a coordinate in which the ends differ
  pub at_row : (a.row ≡ b.row → ⊥) → p.row ≡ a.row → p ≡ a
  at_row ne e = no_part (first_mean o.rest o.part a.row b.row p.row o.some_way o.along ne e)

  pub at_column : (a.column ≡ b.column → ⊥) → p.column ≡ a.column → p ≡ a
  at_column ne e = no_part (first_mean o.rest o.part a.column b.column p.column o.some_way o.across ne e)

-- c lies between a and b, whichever is lower
abbrev pub Between : ℕ → ℕ → ℕ → Type 0
Between a b c = ((a ≤ c) × (c ≤ b)) ⊎ ((b ≤ c) × (c ≤ a))

pub column_between : {a b p : Point} → On a b p → Between a.column b.column p.column
column_between {a} {b} {p} o =
    ⊎_elim
    (λ h. inl (column_low o (omega arith), column_high o (omega arith)))
    (λ h. inr (column_low (on_swap o) h, column_high (on_swap o) h))
    (lt-or-le a.column b.column)

-- the test's equation
abbrev pub Products : Point → Point → Point → Type 0
Products a b p =
    left a.column a.row b.column b.row p.column p.row
    ≡ right a.column a.row b.column b.row p.column p.row

-- ---- the test by products decides whether a rising segment has p strictly inside

module _ (a b p : Point) (low : a.row < p.row) (high : p.row < b.row) where
  heights : p.row ≡ a.row + (p.row - a.row)
  heights = omega arith

  top : b.row ≡ a.row + (p.row - a.row) + (b.row - p.row)
  top = omega arith

  pub on_products : On a b p → Products a b p
  on_products o =
      mean_products a.column b.column p.column a.row (p.row - a.row) (b.row - p.row) p.row b.row heights top
      (mean_other o.rest o.part (p.row - a.row) (b.row - p.row) a.row a.column b.column p.column o.some_way
      o.across
      (rw (← top, ← heights) o.along))

  pub products_on : Products a b p → On a b p
  products_on e = record {
    rest = b.row - p.row;
    part = p.row - a.row;
    some_way = omega arith;
    across = products_mean a.column b.column p.column a.row (p.row - a.row) (b.row - p.row) p.row b.row heights top e;
    along = mean_height a.column b.column p.column a.row (p.row - a.row) (b.row - p.row) p.row b.row heights top;
  }

  pub between-inside : On a b p → Inside a b p
  between-inside o = record {
    on = o;
    not_tail = λ e. omega (arith, ap (λ (x : Point). x.row) e);
    not_head = λ e. omega (arith, ap (λ (x : Point). x.row) e);
  }

-- strictly inside is strictly between
pub inside-low : {a b p : Point} → a.row < b.row → Inside a b p → a.row < p.row
inside-low {a} {b} {p} h i =
    let l : a.row ≤ p.row = row_low i.on (omega arith) in
    let n : p.row ≡ a.row → ⊥ = λ e. i.not_tail (at_row i.on (λ q. omega arith) e) in
    omega arith

pub inside-high : {a b p : Point} → a.row < b.row → Inside a b p → p.row < b.row
inside-high {a} {b} {p} h i =
    let l : p.row ≤ b.row = row-high i.on (omega arith) in
    let n : p.row ≡ b.row → ⊥ = λ e. i.not_head (at_row (on_swap i.on) (λ q. omega arith) e) in
    omega arith

-- a segment with a point strictly inside rises by two rows or more
pub hit_rise : {a b p : Point} → Hit a b p → a.row + 2 ≤ b.row
hit_rise {a} {b} {p} i =
    let l : a.row < p.row = inside-low i.rises i.inside in
    let h : p.row < b.row = inside-high i.rises i.inside in
    omega arith

-- and by columns too, where the ends' columns differ
module _ {a b p : Point} (h : Hit a b p) where
  pub column_past : a.column < b.column → (a.column < p.column) × (p.column < b.column)
  column_past l =
      let o = h.inside.on in
      let x : a.column ≤ p.column = column_low o (omega arith) in
      let y : p.column ≤ b.column = column_high o (omega arith) in
      let s : p.column ≡ a.column → ⊥ = λ e. h.inside.not_tail (at_column o (λ q. omega arith) e) in
      let t : p.column ≡ b.column → ⊥ = λ e. h.inside.not_head (at_column (on_swap o) (λ q. omega arith) e) in
      (omega arith, omega arith)

  pub column_back : b.column < a.column → (b.column < p.column) × (p.column < a.column)
  column_back l =
      let o = on_swap h.inside.on in
      let x : b.column ≤ p.column = column_low o (omega arith) in
      let y : p.column ≤ a.column = column_high o (omega arith) in
      let s : p.column ≡ b.column → ⊥ = λ e. h.inside.not_head (at_column o (λ q. omega arith) e) in
      let t : p.column ≡ a.column → ⊥ = λ e. h.inside.not_tail (at_column (on_swap o) (λ q. omega arith) e) in
      (omega arith, omega arith)
