-- What a line of a script orders (SPECIFICATION.md, 14.3): `words N`, `add U V` or `leads U V`, with decimal numbers of any length, parted
-- by one blank each. Assumes nothing.
use Rattle.std.specs.Prelude.{Bool, true, false, ◌&&◌, List, [], ◌∷◌, ℕ, ◌+◌, ◌-◌, ◌*◌, eqb, leb}
use Rattle.specification.specs.Count.{choose}

-- a line, cut at each blank: a part more than it has blanks
pub data Parts : Type 0 where
  last : List ℕ → Parts
  more : List ℕ → Parts → Parts

unfoldable pub prepend : ℕ → Parts → Parts
prepend b (Parts.last p) = Parts.last (b ∷ p)
prepend b (Parts.more p ps) = Parts.more (b ∷ p) ps

unfoldable pub parts : List ℕ → Parts
parts [] = Parts.last []
parts (b ∷ l) = choose (eqb b 32) (λ _. Parts.more [] (parts l)) (λ _. prepend b (parts l))

-- ---- a part as a name

unfoldable pub same : List ℕ → List ℕ → Bool
same [] [] = true
same [] (c ∷ m) = false
same (b ∷ l) [] = false
same (b ∷ l) (c ∷ m) = eqb c b && same l m

-- the bytes of `words`, `add` and `leads`
abbrev pub words_name : List ℕ
words_name = 119 ∷ 111 ∷ 114 ∷ 100 ∷ 115 ∷ []

abbrev pub add_name : List ℕ
add_name = 97 ∷ 100 ∷ 100 ∷ []

abbrev pub leads_name : List ℕ
leads_name = 108 ∷ 101 ∷ 97 ∷ 100 ∷ 115 ∷ []

-- ---- a part as a number

pub data Number : Type 0 where
  none : Number
  number : ℕ → Number

unfoldable pub digit? : ℕ → Bool
digit? b = leb 48 b && leb b 57

-- the digits after those of v
unfoldable pub decimal : ℕ → List ℕ → Number
decimal v [] = Number.number v
decimal v (b ∷ l) = choose (digit? b) (λ _. decimal (v * 10 + (b - 48)) l) (λ _. Number.none)

-- one digit or more, and nothing else
unfoldable pub number_of : List ℕ → Number
number_of [] = Number.none
number_of (b ∷ l) = decimal 0 (b ∷ l)

-- ---- what the parts order

pub data Order : Type 0 where
  words : ℕ → Order
  add : ℕ → ℕ → Order
  leads : ℕ → ℕ → Order
  unreadable : Order

unfoldable pub with_one : (ℕ → Order) → Number → Order
with_one f Number.none = Order.unreadable
with_one f (Number.number n) = f n

unfoldable pub with_two : (ℕ → ℕ → Order) → Number → Number → Order
with_two f Number.none y = Order.unreadable
with_two f (Number.number m) y = with_one (f m) y

unfoldable pub read : Parts → Order
read (Parts.last p) = Order.unreadable
read (Parts.more p (Parts.last q)) = choose (same p words_name) (λ _. with_one Order.words (number_of q)) (λ _. Order.unreadable)
read (Parts.more p (Parts.more q (Parts.last r))) =
    choose (same p add_name) (λ _. with_two Order.add (number_of q) (number_of r))
    (λ _. choose (same p leads_name) (λ _. with_two Order.leads (number_of q) (number_of r)) (λ _. Order.unreadable))
read (Parts.more p (Parts.more q (Parts.more r ps))) = Order.unreadable

-- the order of a line, without its line end
unfoldable pub order : List ℕ → Order
order line = read (parts line)
