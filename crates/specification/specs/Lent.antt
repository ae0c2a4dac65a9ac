-- What a call leaves of what it is lent (SPECIFICATION.md, 9 and 13). Assumes nothing.
use Rattle.std.specs.Prelude.{◌≡◌, List, ℕ, ◌<◌, ◌≤◌, length, get_or}

-- nothing has changed
abbrev pub Untouched : {A : Type 0} → A → A → Type 0
Untouched was is = is ≡ was

-- from entry i on a list of numbers has what it had
abbrev pub KeptFrom : ℕ → List ℕ → List ℕ → Type 0
KeptFrom i was is = (j : ℕ) → i ≤ j → get_or is j 0 ≡ get_or was j 0

-- the first `top` entries of a list are what g says, the others as before: with none to write the list is untouched
pub record Filled {E : Type 0} (was : List E) (g : ℕ → E) (top : ℕ) (is : List E) : Type 0 where
  pub as_long : length is ≡ length was
  pub made : (k : ℕ) (d : E) → k < top → get_or is k d ≡ g k
  pub kept : (k : ℕ) (d : E) → top ≤ k → get_or is k d ≡ get_or was k d
