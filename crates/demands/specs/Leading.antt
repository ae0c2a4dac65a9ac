-- How one word leads to another, as statements about what the calls answer (SPECIFICATION.md, 2.4, 14.4 and 15.5); of charts they are in
-- Demands.antt. Assumes nothing.
use Rattle.std.specs.Prelude.{◌≡◌, ◌≢◌, ◌↔◌, true, List, ℕ, suc, ◌<◌, length, get_or}
use Rattle.specification.specs.Graph.{Edge}
use Rattle.specification.specs.Connection.{connection_number, Means}
use Rattle.specification.specs.Checks.{Content, connection_in, given_line, record_refusal, said, SoundRecord}

-- the number of the answer, by the definition
abbrev pub how : Content → ℕ → ℕ → ℕ
how c u v = connection_number (connection_in c u v)

-- both are words of the record
abbrev pub Within : List ℕ → ℕ → ℕ → Type 0
Within b u v = (u < (said b).vertices) × (v < (said b).vertices)

-- a record is asked how u leads to v, and k and a are the refusal and the answer. A refusal is the record's, else 3 exactly where one of
-- the two is no word of it, and carries 0; an answer means what its number says, which of a word and itself is 0
pub record Asks (b : List ℕ) (u v k a : ℕ) : Type 0 where
  pub known : (k ≡ 0) ↔ (SoundRecord b × Within b u v)
  pub unsound : (SoundRecord b → ⊥) → k ≡ record_refusal b
  pub stranger : SoundRecord b → (k ≡ 3) ↔ (Within b u v → ⊥)
  pub refused : k ≢ 0 → a ≡ 0
  pub told : k ≡ 0 → a ≡ how (said b) u v
  pub means : k ≡ 0 → Means (Edge (said b).tails (said b).heads) u v a
  pub itself : u ≡ v → a ≡ 0

-- in a given channel (house line) a vertex, asked how it reaches the next, answers 'not at all'
pub record Unled (c : Content) : Type 0 where
  pub given : c.given ≡ true
  pub line : ℕ
  pub place : ℕ
  pub within : suc place < length (given_line c line)
  pub unreached : how c (get_or (given_line c line) place 0) (get_or (given_line c line) (suc place) 0) ≡ 0
