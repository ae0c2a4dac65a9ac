-- Worked examples of lines (14.3), by computation. Assumes nothing.
use Rattle.std.specs.Prelude.{◌≡◌, refl, [], ◌∷◌}
use Rattle.specification.specs.Orders.{prepend, parts, same, digit?, decimal, number_of, Order, with_one, with_two, read, order}

pub record Worked : Type 0 where
  -- `words 007`
  pub zeros : order (119 ∷ 111 ∷ 114 ∷ 100 ∷ 115 ∷ 32 ∷ 48 ∷ 48 ∷ 55 ∷ []) ≡ Order.words 7
  -- `add 3 12`
  pub two : order (97 ∷ 100 ∷ 100 ∷ 32 ∷ 51 ∷ 32 ∷ 49 ∷ 50 ∷ []) ≡ Order.add 3 12
  -- two blanks, a blank at the end, a carriage return, and nothing
  pub blanks : order (97 ∷ 100 ∷ 100 ∷ 32 ∷ 32 ∷ 51 ∷ 32 ∷ 52 ∷ []) ≡ Order.unreadable
  pub trailing : order (97 ∷ 100 ∷ 100 ∷ 32 ∷ 51 ∷ 32 ∷ 52 ∷ 32 ∷ []) ≡ Order.unreadable
  pub return : order (97 ∷ 100 ∷ 100 ∷ 32 ∷ 51 ∷ 32 ∷ 52 ∷ 13 ∷ []) ≡ Order.unreadable
  pub empty : order [] ≡ Order.unreadable
  -- `words` with two numbers, and `add` with one
  pub many : order (119 ∷ 111 ∷ 114 ∷ 100 ∷ 115 ∷ 32 ∷ 49 ∷ 32 ∷ 50 ∷ []) ≡ Order.unreadable
  pub few : order (97 ∷ 100 ∷ 100 ∷ 32 ∷ 51 ∷ []) ≡ Order.unreadable

pub worked : Worked
unfolding order read parts prepend same digit? decimal number_of with_one with_two
worked = record {
  zeros = refl;
  two = refl;
  blanks = refl;
  trailing = refl;
  return = refl;
  empty = refl;
  many = refl;
  few = refl;
}
