-- A whole number below 2 ^ 24 times 0.25 is that number of quarters, exactly. Assumes nothing.
use Rattle.counting.proofs.Prelude.{◌≡◌, refl, sym, ap, ◌∙◌, Bool, false, ℕ, ◌*◌, ◌^◌, ◌<◌, arith, lit≤}
use native.Mathlib.Nat.{mul_assoc, lt_of_lt_of_le}
use lib.Pow.{shl_lt}
use lib.IntN.{pos, negsuc}
use lib.Ieee.{Float, nan, inf, fin, binary32, up, down, round, mul, of_int, unlike, of_bits}
use lib.Ieee.Exact.{HasValue, round_exact}
use lib.Ieee.Scale.{round_same}
use lib.Ieee.Back.{round_whole}
use lib.Ieee.Fits.{down_pos}
use Rattle.specification.specs.Page.{per_point, to_points}

-- 2 ^ 147 of the smallest f32 are a quarter
pub exact : (n : ℕ) → n < 2 ^ 24 → HasValue (to_points n) false n per_point
unfolding to_points
exact n h =
    round_exact binary32 false n per_point n 147 (omega arith) h (lt_of_lt_of_le (shl_lt 24 147 h) (lit≤ tt))
    (sym (mul_assoc n (2 ^ 147) per_point))

-- 0.25, of which these are the bits
abbrev quarter : Float
quarter = fin false 1 (negsuc 1)

literal : of_bits binary32 1048576000 ≡ quarter
unfolding of_bits
literal = refl

by_quarter : (x : Float) (n : ℕ) → HasValue x false n 1 → mul binary32 x quarter ≡ to_points n
unfolding mul to_points
by_quarter nan n v = absurd v
by_quarter (inf s) n v = absurd v
by_quarter (fin s m e) n v =
    ap (λ (t : Bool). round binary32 (unlike t false) (m * up e * 1) (down e * per_point)) v.0
    ∙ round_same binary32 false (m * up e * 1) (down e * per_point) n per_point (omega (arith, down_pos e)) (omega arith)
    (ap (λ (k : ℕ). k * per_point) v.1 ∙ mul_assoc n (down e) per_point)

-- what the code computes
pub made : (n : ℕ) → n < 2 ^ 24 → mul binary32 (of_int binary32 (pos n)) (of_bits binary32 1048576000) ≡ to_points n
unfolding of_int
made n h =
    ap (mul binary32 (round binary32 false n 1)) literal
    ∙ by_quarter (round binary32 false n 1) n (round_whole binary32 false n (omega arith))
