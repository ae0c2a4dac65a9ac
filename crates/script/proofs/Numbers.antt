-- A number read digit by digit: its value, cut to the largest. Assumes nothing.
use Rattle.counting.proofs.Prelude.{◌≡◌, refl, ap, ◌∙◌, Bool, true, false, List, [], ◌∷◌, ℕ, ◌+◌, ◌-◌, ◌*◌, min, arith}
use Rattle.specification.specs.Count.{choose}
use Rattle.script.specs.declared.Numeral.{Numeral}
use Rattle.specification.specs.Orders.{Number, digit?, decimal, number_of, Order}
use Rattle.script.specs.Scanning.{appended, extended, with_number}

-- the number that a part comes to
unfoldable pub gathered : Numeral → List ℕ → Numeral
gathered x [] = x
gathered x (b ∷ l) = gathered (extended x b) l

unfoldable pub valued : Number → Numeral
valued Number.none = Numeral.Bad
valued (Number.number n) = Numeral.Value (min n 129)

bad_stays : (l : List ℕ) → gathered Numeral.Bad l ≡ Numeral.Bad
unfolding gathered
bad_stays [] = refl
bad_stays (b ∷ l) = bad_stays l

gathered_from : (v : ℕ) (l : List ℕ) → gathered (Numeral.Value (min v 129)) l ≡ valued (decimal v l)
unfolding gathered valued decimal appended
gathered_from v [] = refl
gathered_from v (b ∷ l) = go (digit? b) (gathered_from (v * 10 + (b - 48)) l)
  where
    go : (t : Bool) → gathered (Numeral.Value (min (v * 10 + (b - 48)) 129)) l ≡ valued (decimal (v * 10 + (b - 48)) l)
        → gathered (choose t (λ _. Numeral.Value (min (min (min v 129) 129 * 10 + (b - 48)) 129)) (λ _. Numeral.Bad)) l
        ≡ valued (choose t (λ _. decimal (v * 10 + (b - 48)) l) (λ _. Number.none))
    go true rest =
        ap (λ (n : ℕ). gathered (Numeral.Value n) l)
        (let e : min (min (min v 129) 129 * 10 + (b - 48)) 129 ≡ min (v * 10 + (b - 48)) 129 = omega arith in e) ∙ rest
    go false rest = bad_stays l

-- a part that is no number is as one with no byte
pub gathered-number : (l : List ℕ) (f : ℕ → Order) → with_number (gathered Numeral.Empty l) f ≡ with_number (valued (number_of l)) f
unfolding gathered valued number_of
gathered-number [] f = refl
gathered-number (b ∷ l) f = ap (λ (x : Numeral). with_number x f) (gathered_from 0 (b ∷ l))
