use Rattle.counting.proofs.Prelude.{ℕ, ◌+◌, ◌*◌, ◌<◌, arith, lit<}
use lib.IntN.{ℤ, ◌-ℤ◌, ◌*ℤ◌}
use mir.Syntax.{w32}
use mir.Val.{SFits, to_z, of_z}
use Rattle.geometry.specs.Steps.{Diff}
use Rattle.geometry.proofs.Differences.{cast_minus_diff, product_diff, product_fits, bits_equal}
use Rattle.geometry.proofs.aligned.Goals as goal

-- `geometry::aligned` meets its contract. Columns are below 2^16 and rows below 2^8, so the products fit an `i32`. Assumes nothing.
-- of differences of columns and of rows
module _ (a b c d : ℕ) (za : a < 65536) (zb : b < 65536) (vc : c < 256) (vd : d < 256) where
  abbrev columns : ℤ
  columns = to_z w32 a -ℤ to_z w32 b

  abbrev rows : ℤ
  rows = to_z w32 c -ℤ to_z w32 d

  hz : Diff columns a b
  hz = cast_minus_diff w32 a b (omega arith) (omega arith)

  hv : Diff rows c d
  hv = cast_minus_diff w32 c d (omega arith) (omega arith)

  fits : SFits w32 (to_z w32 (of_z w32 columns) *ℤ to_z w32 (of_z w32 rows))
  fits = product_fits w32 65536 256 (lit< tt) (lit< tt) (lit< tt) columns rows a b c d za zb vc vd hz hv

  diff : Diff (to_z w32 (of_z w32 columns) *ℤ to_z w32 (of_z w32 rows)) (a * c + b * d) (a * d + b * c)
  diff = product_diff w32 65536 256 (lit< tt) (lit< tt) (lit< tt) columns rows a b c d za zb vc vd hz hv

pub returns : goal.returns
returns c =
    let a = c.args in
    bits_equal w32 _ _ _ _ _ _
    (fits a.px a.ax a.by a.ay (omega arith) (omega arith) (omega arith) (omega arith))
    (fits a.bx a.ax a.py a.ay (omega arith) (omega arith) (omega arith) (omega arith))
    (diff a.px a.ax a.by a.ay (omega arith) (omega arith) (omega arith) (omega arith))
    (diff a.bx a.ax a.py a.ay (omega arith) (omega arith) (omega arith) (omega arith))

pub overflow_mul-left : goal.overflow_mul-left
overflow_mul-left c = let a = c.args in fits a.px a.ax a.by a.ay (omega arith) (omega arith) (omega arith) (omega arith)

pub overflow_mul-right : goal.overflow_mul-right
overflow_mul-right c = let a = c.args in fits a.bx a.ax a.py a.ay (omega arith) (omega arith) (omega arith) (omega arith)
