-- How one vertex reaches another (how a word leads to another), one of four answers (SPECIFICATION.md, 2.4). Assumes nothing.
use Rattle.std.specs.Prelude.{◌≡◌, ◌↔◌, Bool, true, false, ◌&&◌, ℕ, zero, suc}
use Rattle.specification.specs.Count.{some}
use Rattle.specification.specs.Graph.{Reaches, Longer, reaches?}
use Rattle.specification.specs.declared.Connection.{Connection}
use Rattle.specification.specs.declared.Connection.TheVariants.{Unreached, EdgeOnly, LongerOnly, Both}

-- the answer, by whether an edge goes there, and whether a longer route does, one of two edges or more
abbrev pub connection : (edge longer : Bool) → Connection
connection false false = Unreached
connection true false = EdgeOnly
connection false true = LongerOnly
connection true true = Both

-- the number of each answer: 'not at all', 'by an arrow only', 'by longer routes only', 'by both'
abbrev pub connection_number : Connection → ℕ
connection_number Unreached = 0
connection_number EdgeOnly = 1
connection_number LongerOnly = 2
connection_number Both = 3

abbrev pub IsNumberOf : Connection → ℕ → Type 0
IsNumberOf a k = k ≡ connection_number a

-- the answer that a number stands for
unfoldable pub numbered : ℕ → Connection
numbered zero = Unreached
numbered (suc zero) = EdgeOnly
numbered (suc (suc zero)) = LongerOnly
numbered (suc (suc (suc k))) = Both

-- there is a way: any answer but 'not at all'
abbrev pub leading? : Connection → Bool
leading? Unreached = false
leading? EdgeOnly = true
leading? LongerOnly = true
leading? Both = true

-- there is an edge, and a longer route beside it
abbrev pub both? : Connection → Bool
both? Unreached = false
both? EdgeOnly = false
both? LongerOnly = false
both? Both = true

-- u reaches v by two edges or more: an edge goes from u to some w, of n vertices, that reaches v
unfoldable pub longer? : (ℕ → ℕ → Bool) → ℕ → ℕ → ℕ → Bool
longer? E n u v = some n (λ w. E u w && reaches? E n w v)

-- how u reaches v by the edges E of n vertices
unfoldable pub connects : (ℕ → ℕ → Bool) → ℕ → ℕ → ℕ → Connection
connects E n u v = connection (E u v) (longer? E n u v)

-- what the number k of an answer says of u and v, by routes of the edges E
pub record Means (E : ℕ → ℕ → Type 0) (u v k : ℕ) : Type 0 where
  pub unreached : (k ≡ 0) ↔ (Reaches E u v → ⊥)
  pub edge_only : (k ≡ 1) ↔ (E u v × (Longer E u v → ⊥))
  pub longer_only : (k ≡ 2) ↔ ((E u v → ⊥) × Longer E u v)
  pub both : (k ≡ 3) ↔ (E u v × Longer E u v)
