-- How one vertex of a record reaches another (SPECIFICATION.md, 14.4). Assumes nothing.
use Rattle.std.specs.Prelude.{◌||◌, ℕ, List, eqb, leb, Result, Ok, Err}
use Rattle.specification.specs.Count.{choose}
use Rattle.specification.specs.Connection.{connection_number}
use Rattle.specification.specs.declared.Connection.{Connection}
use Rattle.specification.specs.declared.Connection.TheVariants.{Unreached}
use Rattle.specification.specs.declared.Leading.{Leading}
use Rattle.specification.specs.declared.Refusal.{Refusal}
use Rattle.specification.specs.Refusals.{refusal_number}
use Rattle.specification.specs.Checks.{record_refusal, said, connection_in}

-- the refusal, or 0, and how one vertex reaches the other: not at all where the call is refused
pub record Reply : Type 0 where
  pub refusal : ℕ
  pub connection : Connection

abbrev pub reply_by : ℕ → Connection → Reply
reply_by k a = record { refusal = k; connection = a }

-- what a call says, of a connection or of a refusal
abbrev pub reply_of : Result Connection Refusal → Reply
reply_of (Ok a) = reply_by 0 a
reply_of (Err k) = reply_by (refusal_number k) Unreached

-- an answer as two numbers
abbrev pub leading_of : Reply → Leading
leading_of r = record { refusal = r.refusal; leads = connection_number r.connection }

-- why it is not told: the record is refused, or one of the two is no word of it
unfoldable pub ask_refusal : List ℕ → ℕ → ℕ → ℕ
ask_refusal b u v =
    choose (eqb (record_refusal b) 0)
    (λ _. choose (leb (said b).vertices u || leb (said b).vertices v) (λ _. 3) (λ _. 0))
    (λ _. record_refusal b)

-- the answer; a refusal tells nothing
unfoldable pub asked : List ℕ → ℕ → ℕ → Reply
asked b u v =
    reply_by (ask_refusal b u v) (choose (eqb (ask_refusal b u v) 0) (λ _. connection_in (said b) u v) (λ _. Unreached))
