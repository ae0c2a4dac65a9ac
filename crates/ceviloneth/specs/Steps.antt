-- What the private steps write into a list. Assumes nothing.
use Rattle.std.specs.Prelude.{◌≡◌, List, ℕ, ◌≤◌, length, get_or}
use Rattle.editing.specs.Promise.{Changed}
use Rattle.editing.specs.declared.Session.{Session}
use Rattle.ceviloneth.specs.State.{state_numbers, session_of, Kept}

-- the list `is` is `was` with the session s in it: it spells s, and is as it was past it
pub record Stored (was : List ℕ) (s : Session) (is : List ℕ) : Type 0 where
  pub as_long : length is ≡ length was
  pub past : (k d : ℕ) → state_numbers ≤ k → get_or is k d ≡ get_or was k d
  pub spells : session_of is ≡ s

-- the change is told by r, and where it is made the list spells its session; else it is as it was
pub record Changes (was : List ℕ) (change : Changed) (r : ℕ) (is : List ℕ) : Type 0 where
  pub refusal : r ≡ change.refusal
  pub kept : Kept was r is
  pub spells : r ≡ 0 → session_of is ≡ change.session
