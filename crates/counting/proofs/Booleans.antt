-- Laws of truth values in `||` and `&&`. Assumes nothing.
use Rattle.counting.proofs.Prelude.{◌≡◌, refl, Bool, true, false, true≢false, not, ◌&&◌, ◌||◌, ◌≤◌, arith}
use Rattle.specification.specs.Count.{indicator}
use Rattle.counting.proofs.Truth.{indicator-le}

pub or_swap : (a b c d : Bool) → ((a || b) || (c || d)) ≡ ((a || c) || (b || d))
or_swap true b c d = refl
or_swap false true true d = refl
or_swap false true false d = refl
or_swap false false true d = refl
or_swap false false false d = refl

pub or_assoc : (a b c : Bool) → ((a || b) || c) ≡ (a || (b || c))
or_assoc true b c = refl
or_assoc false b c = refl

-- the second of two of which one holds
pub rest_of : (a b : Bool) → a ≡ false → (a || b) ≡ true → b ≡ true
rest_of true b p e = absurd (true≢false p)
rest_of false b p e = e

pub and-not : (s t y : Bool) → (s && not (t || y)) ≡ ((s && not t) && not y)
and-not true true y = refl
and-not true false y = refl
and-not false t y = refl

pub and_neither : (s a b : Bool) → (s && not (a || b)) ≡ (s && (not a && not b))
and_neither true true b = refl
and_neither true false b = refl
and_neither false a b = refl

pub and-turn : (s a b : Bool) → (s && not (a || b)) ≡ (s && (not b && not a))
and-turn true true true = refl
and-turn true true false = refl
and-turn true false true = refl
and-turn true false false = refl
and-turn false a b = refl

pub and_no : (a : Bool) → (a && false) ≡ false
and_no true = refl
and_no false = refl

pub and_yes : (a : Bool) → (a && true) ≡ a
and_yes true = refl
and_yes false = refl

pub or_no : (a b : Bool) → b ≡ false → (a || b) ≡ a
or_no true b e = refl
or_no false b e = e

pub and_left : (a b : Bool) → indicator (a && b) ≤ indicator a
and_left true b = indicator-le b
and_left false b = omega arith
