-- Entries as numbers (SPECIFICATION.md, 9.4). Assumes nothing.
use Rattle.std.specs.Prelude.{◌≡◌, ℕ, ◌/◌, ◌%◌, eqb}
use Rattle.specification.specs.Count.{choose, indicator}
use Rattle.specification.specs.Chart.{crossing}
use Rattle.specification.specs.declared.Course.{Course}
use Rattle.specification.specs.declared.VertexEntry.{VertexEntry}
use Rattle.specification.specs.declared.EdgeEntry.{EdgeEntry}
use Rattle.specification.specs.declared.BundleEntry.{BundleEntry}
use Rattle.specification.specs.declared.Kind.{Kind}
use Rattle.specification.specs.declared.Kind.TheVariants.{Path, PathTransitive, Straight, Bent}
use Rattle.specification.specs.declared.Code.{Code}

-- a kind by its number: 0 path, 1 path-transitive with its bundle, 2 straight, 3 bent with its bend's column and row
unfoldable pub code_of : Kind → Code
code_of Path = record { code = 0; value = 0; row = 0 }
code_of (PathTransitive b) = record { code = 1; value = b; row = 0 }
code_of Straight = record { code = 2; value = 0; row = 0 }
code_of (Bent b) = record { code = 3; value = b.column; row = b.row }

abbrev pub IsCodeOf : Kind → Code → Type 0
IsCodeOf kind c = c ≡ code_of kind

-- a course by the number and the bend of its kind
abbrev pub course_code : Course → Code
course_code c = code_of (crossing c)

-- how many numbers an entry has
abbrev pub word_numbers : ℕ
word_numbers = 6

abbrev pub arrow_numbers : ℕ
arrow_numbers = 5

abbrev pub bundle_numbers : ℕ
bundle_numbers = 4

-- number f of a word: line, position, column, row, descendants, floor
unfoldable pub word_number : VertexEntry → ℕ → ℕ
word_number e f =
    choose (eqb f 0) (λ _. e.channel) (λ _.
    choose (eqb f 1) (λ _. e.position) (λ _.
    choose (eqb f 2) (λ _. e.column) (λ _.
    choose (eqb f 3) (λ _. e.row) (λ _.
    choose (eqb f 4) (λ _. e.descendants) (λ _. e.floor)))))

-- of an arrow: its number, its kind as three numbers (`code_of`), and 1 if it is implied
unfoldable pub arrow_number : EdgeEntry → ℕ → ℕ
arrow_number e f =
    choose (eqb f 0) (λ _. e.number) (λ _.
    choose (eqb f 1) (λ _. (code_of e.kind).code) (λ _.
    choose (eqb f 2) (λ _. (code_of e.kind).value) (λ _.
    choose (eqb f 3) (λ _. (code_of e.kind).row) (λ _. indicator e.transitive))))

-- of a bundle: channel, first row, last row, track
unfoldable pub bundle_number : BundleEntry → ℕ → ℕ
bundle_number e f =
    choose (eqb f 0) (λ _. e.channel) (λ _.
    choose (eqb f 1) (λ _. e.first_row) (λ _.
    choose (eqb f 2) (λ _. e.last_row) (λ _. e.track)))

-- number i of a list of entries
abbrev pub words : (ℕ → VertexEntry) → ℕ → ℕ
words g i = word_number (g (i / word_numbers)) (i % word_numbers)

abbrev pub arrows : (ℕ → EdgeEntry) → ℕ → ℕ
arrows g i = arrow_number (g (i / arrow_numbers)) (i % arrow_numbers)

abbrev pub bundles : (ℕ → BundleEntry) → ℕ → ℕ
bundles g i = bundle_number (g (i / bundle_numbers)) (i % bundle_numbers)
