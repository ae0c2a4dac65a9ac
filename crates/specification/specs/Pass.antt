-- The pass that marks the transitive edges (implied arrows) and counts the reduced ones (firm arrows), state by state (SPECIFICATION.md,
-- 5.2). Assumes nothing.
use Rattle.std.specs.Prelude.{Bool, not, List, ℕ, zero, suc, ◌+◌, ◌*◌, eqb, set}
use Rattle.specification.specs.Count.{indicator}
use Rattle.specification.specs.Numbers.{arrow_numbers, arrow_number}
use Rattle.specification.specs.declared.EdgeEntry.{EdgeEntry}

-- how edges stand in a list: so many values an edge, which they are, at which of them its mark stands, and how it is read
pub record Form (E : Type 0) : Type 0 where
  pub width : ℕ
  pub value : EdgeEntry → ℕ → E
  pub mark : ℕ
  pub marked? : E → Bool

-- the numbers of an edge, the last of them 1 where it is transitive (9.4)
abbrev pub as_numbers : Form ℕ
as_numbers = record { width = arrow_numbers; value = arrow_number; mark = 4; marked? = λ x. eqb x 1 }

-- an entry an edge
abbrev pub as_entries : Form EdgeEntry
as_entries = record { width = 1; value = λ e _. e; mark = 0; marked? = λ e. e.transitive }

-- l with n 0, n 1, .. n (w - 1) at the places from i on
unfoldable pub stored : {E : Type 0} → (ℕ → E) → ℕ → ℕ → List E → List E
stored n i zero l = l
stored n i (suc w) l = set (stored n i w l) (i + w) (n w)

-- what there is after some edges: the list that is lent, and how many of them are reduced
pub record State (E : Type 0) : Type 0 where
  pub list : List E
  pub reduced : ℕ

abbrev pub state : {E : Type 0} → List E → ℕ → State E
state l r = record { list = l; reduced = r }

module _ {E : Type 0} (f : Form E) (entry : ℕ → EdgeEntry) where
  -- edge k: its entry is written at its own place, and it counts unless it is transitive
  unfoldable pub next : ℕ → State E → State E
  next k s =
      state (stored (f.value (entry k)) (k * f.width) f.width s.list) (s.reduced + indicator (not (entry k).transitive))

  -- the state after the first k edges, in a list that had `was`
  unfoldable pub after : List E → ℕ → State E
  after was zero = state was 0
  after was (suc k) = next k (after was k)
