-- What is printed for each outcome (SPECIFICATION.md, 14.3). Assumes nothing.
use Rattle.std.specs.Prelude.{List, [], ◌∷◌, ℕ}
use Rattle.specification.specs.Refusals.{refusal_text}
use Rattle.specification.specs.declared.Connection.{Connection}
use Rattle.specification.specs.declared.Connection.TheVariants.{Unreached, EdgeOnly, LongerOnly, Both}
use Rattle.script.specs.declared.Outcome.{Outcome}

-- `no`, `arrow`, `longer` or `both`
abbrev pub connection_text : Connection → List ℕ
connection_text Unreached = 110 ∷ 111 ∷ []
connection_text EdgeOnly = 97 ∷ 114 ∷ 114 ∷ 111 ∷ 119 ∷ []
connection_text LongerOnly = 108 ∷ 111 ∷ 110 ∷ 103 ∷ 101 ∷ 114 ∷ []
connection_text Both = 98 ∷ 111 ∷ 116 ∷ 104 ∷ []

-- `ok`, `refused` and the number, how one vertex reaches another, or `unreadable`
abbrev pub outcome_text : Outcome → List ℕ
outcome_text Outcome.Done = 111 ∷ 107 ∷ []
outcome_text (Outcome.Refused k) = 114 ∷ 101 ∷ 102 ∷ 117 ∷ 115 ∷ 101 ∷ 100 ∷ 32 ∷ refusal_text k
outcome_text (Outcome.Told a) = connection_text a
outcome_text Outcome.Unreadable = 117 ∷ 110 ∷ 114 ∷ 101 ∷ 97 ∷ 100 ∷ 97 ∷ 98 ∷ 108 ∷ 101 ∷ []
