-- Why a call is refused, by number (SPECIFICATION.md, 13). Assumes nothing.
use Rattle.std.specs.Prelude.{◌≡◌, List, ℕ, Result, Ok, Err}
use Rattle.std.specs.Fmt.{decimal}
use Rattle.specification.specs.declared.Refusal.{Refusal}
use Rattle.specification.specs.declared.Refusal.TheVariants.{Layout, Size, Stranger, Double, Ring, Cover, Broken, Short}
use Rattle.specification.specs.declared.Refusal.TheVariants.{Full, OffPage, Broad, Floor}

-- the number of each refusal
abbrev pub refusal_number : Refusal → ℕ
refusal_number Layout = 1
refusal_number Size = 2
refusal_number Stranger = 3
refusal_number Double = 4
refusal_number Ring = 5
refusal_number Cover = 6
refusal_number Broken = 7
refusal_number Short = 8
refusal_number Full = 9
refusal_number OffPage = 10
refusal_number Broad = 11
refusal_number Floor = 12

abbrev pub IsNumberOf : Refusal → ℕ → Type 0
IsNumberOf refusal k = k ≡ refusal_number refusal

-- what is printed for a refusal: its number
abbrev pub refusal_text : Refusal → List ℕ
refusal_text refusal = decimal (refusal_number refusal)

-- the number that an answer tells: 0 where it is no refusal
abbrev pub number_in : {A : Type 0} → Result A Refusal → ℕ
number_in (Ok a) = 0
number_in (Err refusal) = refusal_number refusal
