-- A line read byte by byte, and the order that it comes to. Assumes nothing.
use Rattle.std.specs.Prelude.{Bool, false, ◌&&◌, List, [], ◌∷◌, ℕ, ◌+◌, ◌-◌, ◌*◌, min, eqb, ltb, length, get_or, Option, Some, None}
use Rattle.specification.specs.Count.{choose}
use Rattle.script.specs.declared.Numeral.{Numeral}
use Rattle.script.specs.declared.Part.{Part}
use Rattle.script.specs.declared.Part.TheVariants.{Name, First, Second, Rest}
use Rattle.script.specs.declared.Scanner.{Scanner}
use Rattle.script.specs.declared.Command.{Command}
use Rattle.specification.specs.Orders.{words_name, add_name, leads_name, digit?, Order}

-- a larger number counts as this one: more than the most vertices, so that every call answers it alike
abbrev pub largest : ℕ
largest = 129

-- how many bytes of the name are matched, after one byte more; none where a byte is not the name's
unfoldable pub advanced : List ℕ → Option ℕ → ℕ → Option ℕ
advanced name None b = None
advanced name (Some m) b = choose (ltb m (length name) && eqb (get_or name m 0) b) (λ _. Some (m + 1)) (λ _. None)

-- the digit b after those of v
unfoldable pub appended : ℕ → ℕ → Numeral
appended v b = choose (digit? b) (λ _. Numeral.Value (min (min v largest * 10 + (b - 48)) largest)) (λ _. Numeral.Bad)

abbrev pub extended : Numeral → ℕ → Numeral
extended Numeral.Empty b = appended 0 b
extended (Numeral.Value v) b = appended v b
extended Numeral.Bad b = Numeral.Bad

-- a byte of a part: of the name, or of a number
abbrev pub within_part : Part → Scanner → ℕ → Scanner
within_part Name s b = record {
  part = s.part;
  words = advanced words_name s.words b;
  add = advanced add_name s.add b;
  leads = advanced leads_name s.leads b;
  first = s.first;
  second = s.second;
}
within_part First s b = record {
  part = s.part;
  words = s.words;
  add = s.add;
  leads = s.leads;
  first = extended s.first b;
  second = s.second;
}
within_part Second s b = record {
  part = s.part;
  words = s.words;
  add = s.add;
  leads = s.leads;
  first = s.first;
  second = extended s.second b;
}
within_part Rest s b = s

unfoldable pub within : Scanner → ℕ → Scanner
within s b = within_part s.part s b

-- the part after a blank
abbrev pub part_after : Part → Part
part_after Name = First
part_after First = Second
part_after Second = Rest
part_after Rest = Rest

-- after a blank
unfoldable pub next_part : Scanner → Scanner
next_part s = record {
  part = part_after s.part;
  words = s.words;
  add = s.add;
  leads = s.leads;
  first = s.first;
  second = s.second;
}

unfoldable pub scanned : Scanner → ℕ → Scanner
scanned s b = choose (eqb b 32) (λ _. next_part s) (λ _. within s b)

abbrev pub begun : Scanner
begun = record {
  part = Name;
  words = Some 0;
  add = Some 0;
  leads = Some 0;
  first = Numeral.Empty;
  second = Numeral.Empty;
}

-- the scanner after a line
unfoldable pub scan : Scanner → List ℕ → Scanner
scan s [] = s
scan s (b ∷ l) = scan (scanned s b) l

-- ---- the order

-- the order of each command, with its numbers
unfoldable pub order_of : Command → Order
order_of (Command.Words n) = Order.words n
order_of (Command.Add u v) = Order.add u v
order_of (Command.Leads u v) = Order.leads u v
order_of Command.Unreadable = Order.unreadable

abbrev pub with_number : Numeral → (ℕ → Order) → Order
with_number Numeral.Empty f = Order.unreadable
with_number (Numeral.Value n) f = f n
with_number Numeral.Bad f = Order.unreadable

-- a name of k bytes is matched whole
abbrev pub whole? : ℕ → Option ℕ → Bool
whole? k None = false
whole? k (Some m) = eqb m k

-- the order with the numbers u and v
unfoldable pub finished_two : Scanner → ℕ → ℕ → Order
finished_two s u v =
    choose (whole? 3 s.add) (λ _. Order.add u v) (λ _.
    choose (whole? 5 s.leads) (λ _. Order.leads u v) (λ _. Order.unreadable))

-- the order of a line that ends in a part, whose first number is u
abbrev pub finished_in : Part → Scanner → ℕ → Order
finished_in Name s u = Order.unreadable
finished_in First s u = choose (whole? 5 s.words) (λ _. Order.words u) (λ _. Order.unreadable)
finished_in Second s u = with_number s.second (finished_two s u)
finished_in Rest s u = Order.unreadable

unfoldable pub finished_one : Scanner → ℕ → Order
finished_one s u = finished_in s.part s u

unfoldable pub finished : Scanner → Order
finished s = with_number s.first (finished_one s)

-- an order as the scanner has it, with its numbers cut to the largest
unfoldable pub cut : Order → Order
cut (Order.words n) = Order.words (min n largest)
cut (Order.add u v) = Order.add (min u largest) (min v largest)
cut (Order.leads u v) = Order.leads (min u largest) (min v largest)
cut Order.unreadable = Order.unreadable
