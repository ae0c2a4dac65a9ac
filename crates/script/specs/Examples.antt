-- A number over the largest counts as that, by computation. Assumes nothing.
use Rattle.std.specs.Prelude.{◌≡◌, refl, [], ◌∷◌}
use Rattle.specification.specs.Orders.{Order, prepend, parts, same, digit?, decimal, number_of, with_one, with_two, read, order}
use Rattle.script.specs.Scanning.{cut}

-- `leads 0 99999`, whose second number counts as 129
pub large : cut (order (108 ∷ 101 ∷ 97 ∷ 100 ∷ 115 ∷ 32 ∷ 48 ∷ 32 ∷ 57 ∷ 57 ∷ 57 ∷ 57 ∷ 57 ∷ [])) ≡ Order.leads 0 129
unfolding order read parts prepend same digit? decimal number_of with_one with_two cut
large = refl
