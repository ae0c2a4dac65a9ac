-- A line read byte by byte comes to its order. Assumes nothing.
use Rattle.counting.proofs.Prelude.{◌≡◌, refl, sym, ap, ap₂, ◌∙◌, Bool, true, false, List, [], ◌∷◌, ℕ, zero-le, eqb}
use Rattle.specification.specs.Count.{choose}
use Rattle.script.specs.declared.Numeral.{Numeral}
use Rattle.script.specs.declared.Part.{Part}
use Rattle.script.specs.declared.Part.TheVariants.{Name, First, Second, Rest}
use Rattle.script.specs.declared.Scanner.{Scanner}
use Rattle.std.specs.Prelude.{Option, Some}
use Rattle.specification.specs.Orders.{Parts, prepend, parts, same, words_name, add_name, leads_name, Number, number_of, Order, with_one}
use Rattle.specification.specs.Orders.{with_two, read, order}
use Rattle.script.specs.Scanning.{advanced, extended, within, next_part, scanned, begun, scan, with_number, finished_two, finished_one}
use Rattle.script.specs.Scanning.{finished, cut}
use Rattle.script.proofs.Names.{followed, followed_same}
use Rattle.script.proofs.Numbers.{gathered, valued, gathered-number}

-- ---- the line part by part

-- the scanner after the bytes of a part
unfoldable absorbed : Scanner → List ℕ → Scanner
absorbed s [] = s
absorbed s (b ∷ p) = absorbed (within s b) p

unfoldable over : Scanner → Parts → Scanner
over s (Parts.last p) = absorbed s p
over s (Parts.more p ps) = over (next_part (absorbed s p)) ps

over-prepend : (s : Scanner) (b : ℕ) (ps : Parts) → over s (prepend b ps) ≡ over (within s b) ps
unfolding over prepend absorbed
over-prepend s b (Parts.last p) = refl
over-prepend s b (Parts.more p ps) = refl

scan-over : (s : Scanner) (l : List ℕ) → scan s l ≡ over s (parts l)
unfolding scan over parts absorbed scanned
scan-over s [] = refl
scan-over s (b ∷ l) = go (eqb b 32) (λ z. scan-over z l)
  where
    go : (t : Bool) → ((z : Scanner) → scan z l ≡ over z (parts l))
        → scan (choose t (λ _. next_part s) (λ _. within s b)) l
        ≡ over s (choose t (λ _. Parts.more [] (parts l)) (λ _. prepend b (parts l)))
    go true rest = rest (next_part s)
    go false rest = rest (within s b) ∙ sym (over-prepend s b (parts l))

-- ---- the parts one by one

abbrev state : Part → Option ℕ → Option ℕ → Option ℕ → Numeral → Numeral → Scanner
state k w a l x y = record { part = k; words = w; add = a; leads = l; first = x; second = y }

absorbed_name : (w a l : Option ℕ) (x y : Numeral) (p : List ℕ)
    → absorbed (state Name w a l x y) p ≡ state Name (followed words_name w p) (followed add_name a p) (followed leads_name l p) x y
unfolding absorbed within followed
absorbed_name w a l x y [] = refl
absorbed_name w a l x y (b ∷ p) = absorbed_name (advanced words_name w b) (advanced add_name a b) (advanced leads_name l b) x y p

absorbed-first : (w a l : Option ℕ) (x y : Numeral) (p : List ℕ) → absorbed (state First w a l x y) p ≡ state First w a l (gathered x p) y
unfolding absorbed within gathered
absorbed-first w a l x y [] = refl
absorbed-first w a l x y (b ∷ p) = absorbed-first w a l (extended x b) y p

absorbed-second : (w a l : Option ℕ) (x y : Numeral) (p : List ℕ)
    → absorbed (state Second w a l x y) p ≡ state Second w a l x (gathered y p)
unfolding absorbed within gathered
absorbed-second w a l x y [] = refl
absorbed-second w a l x y (b ∷ p) = absorbed-second w a l x (extended y b) p

absorbed-rest : (w a l : Option ℕ) (x y : Numeral) (p : List ℕ) → absorbed (state Rest w a l x y) p ≡ state Rest w a l x y
unfolding absorbed within
absorbed-rest w a l x y [] = refl
absorbed-rest w a l x y (b ∷ p) = absorbed-rest w a l x y p

over-rest : (w a l : Option ℕ) (x y : Numeral) (ps : Parts) → over (state Rest w a l x y) ps ≡ state Rest w a l x y
unfolding over next_part
over-rest w a l x y (Parts.last p) = absorbed-rest w a l x y p
over-rest w a l x y (Parts.more p ps) =
    ap (λ (s : Scanner). over (next_part s) ps) (absorbed-rest w a l x y p) ∙ over-rest w a l x y ps

-- ---- what they come to

nothing : (x : Numeral) → with_number x (λ _. Order.unreadable) ≡ Order.unreadable
nothing Numeral.Empty = refl
nothing (Numeral.Value n) = refl
nothing Numeral.Bad = refl

one_number : (t : Bool) (n : Number) → with_number (valued n) (λ u. choose t (λ _. Order.words u) (λ _. Order.unreadable))
    ≡ cut (choose t (λ _. with_one Order.words n) (λ _. Order.unreadable))
unfolding valued cut with_one
one_number true Number.none = refl
one_number true (Number.number n) = refl
one_number false n = nothing (valued n)

two-numbers : (t d : Bool) (m n : Number)
    → with_number (valued m) (λ u. with_number (valued n) (λ v.
    choose t (λ _. Order.add u v) (λ _. choose d (λ _. Order.leads u v) (λ _. Order.unreadable))))
    ≡ cut (choose t (λ _. with_two Order.add m n) (λ _. choose d (λ _. with_two Order.leads m n) (λ _. Order.unreadable)))
unfolding valued cut with_one with_two
two-numbers true d Number.none n = refl
two-numbers true d (Number.number m) Number.none = refl
two-numbers true d (Number.number m) (Number.number n) = refl
two-numbers false true Number.none n = refl
two-numbers false true (Number.number m) Number.none = refl
two-numbers false true (Number.number m) (Number.number n) = refl
two-numbers false false Number.none n = refl
two-numbers false false (Number.number m) Number.none = refl
two-numbers false false (Number.number m) (Number.number n) = refl

same_number : (x : Numeral) (f g : ℕ → Order) → ((n : ℕ) → f n ≡ g n) → with_number x f ≡ with_number x g
same_number Numeral.Empty f g e = refl
same_number (Numeral.Value n) f g e = e n
same_number Numeral.Bad f g e = refl

-- how much of each name a first part matches, with two numbers
abbrev named : Part → List ℕ → Numeral → Numeral → Scanner
named k p x y = state k (followed words_name (Some 0) p) (followed add_name (Some 0) p) (followed leads_name (Some 0) p) x y

-- the states after the first, the second and the third part
module _ (p q r : List ℕ) where
  first_part : absorbed begun p ≡ named Name p Numeral.Empty Numeral.Empty
  first_part = absorbed_name (Some 0) (Some 0) (Some 0) Numeral.Empty Numeral.Empty p

  second-part : absorbed (next_part (absorbed begun p)) q ≡ named First p (gathered Numeral.Empty q) Numeral.Empty
  unfolding next_part
  second-part = ap (λ (s : Scanner). absorbed (next_part s) q) first_part ∙ absorbed-first _ _ _ Numeral.Empty Numeral.Empty q

  third_part : absorbed (next_part (absorbed (next_part (absorbed begun p)) q)) r
      ≡ named Second p (gathered Numeral.Empty q) (gathered Numeral.Empty r)
  unfolding next_part
  third_part = ap (λ (s : Scanner). absorbed (next_part s) r) second-part ∙ absorbed-second _ _ _ (gathered Numeral.Empty q) Numeral.Empty r

finished-over : (ps : Parts) → finished (over begun ps) ≡ cut (read ps)
unfolding over next_part finished finished_one finished_two read cut
finished-over (Parts.last p) = ap finished (first_part p [] [])
finished-over (Parts.more p (Parts.last q)) =
    ap finished (second-part p q []) ∙ gathered-number q _
    ∙ ap (λ (t : Bool). with_number (valued (number_of q)) (λ u. choose t (λ _. Order.words u) (λ _. Order.unreadable)))
    (followed_same words_name 0 p zero-le)
    ∙ one_number (same p words_name) (number_of q)
finished-over (Parts.more p (Parts.more q (Parts.last r))) =
    ap finished (third_part p q r) ∙ gathered-number q _ ∙ same_number (valued (number_of q)) _ _ (λ u. gathered-number r _)
    ∙ ap₂ (λ (t d : Bool). with_number (valued (number_of q)) (λ u. with_number (valued (number_of r)) (λ v.
    choose t (λ _. Order.add u v) (λ _. choose d (λ _. Order.leads u v) (λ _. Order.unreadable)))))
    (followed_same add_name 0 p zero-le) (followed_same leads_name 0 p zero-le)
    ∙ two-numbers (same p add_name) (same p leads_name) (number_of q) (number_of r)
finished-over (Parts.more p (Parts.more q (Parts.more r ps))) =
    ap finished (ap (λ (s : Scanner). over (next_part s) ps) (third_part p q r) ∙ over-rest _ _ _ _ _ ps)
    ∙ nothing (gathered Numeral.Empty q)

-- EVERY LINE: read byte by byte from its begin, a line comes to its order
pub every-line : (line : List ℕ) → finished (scan begun line) ≡ cut (order line)
unfolding order
every-line line = ap finished (scan-over begun line) ∙ finished-over (parts line)
