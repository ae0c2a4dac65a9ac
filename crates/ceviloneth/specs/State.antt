-- A session as numbers in a list that the caller keeps, and what the calls on it promise, for any numbers whatever. Assumes nothing.
use Rattle.std.specs.Prelude.{◌≡◌, ◌≢◌, List, ℕ, ◌+◌, ◌*◌, ◌<◌, ◌≤◌, ltb, length, get_or, take, drop}
use Rattle.specification.specs.Limits.{table_masks}
use Rattle.specification.specs.Count.{choose}
use Rattle.specification.specs.Graph.{size_refusal}
use Rattle.specification.specs.Lent.{Untouched}
use Rattle.editing.specs.Promise.{refusal_of, StartPromise, AddPromise, LeadsPromise}
use Rattle.editing.specs.declared.Session.{Session}
use Rattle.specification.specs.declared.Connection.TheVariants.{Unreached}
use Rattle.specification.specs.Asked.{Reply}
use Rattle.specification.specs.declared.Leading.{Leading}
use Rattle.specification.specs.Asked.{reply_by, leading_of}

-- the numbers of a session: words, arrows, the masks of arrows and those of descent
abbrev pub state_numbers : ℕ
state_numbers = 2 + 2 * table_masks

-- the session that a list spells, whatever its numbers are
unfoldable pub session_of : List ℕ → Session
session_of s = record {
  vertices = get_or s 0 0;
  count = get_or s 1 0;
  edges = take table_masks (drop 2 s);
  reach = take table_masks (drop (2 + table_masks) s);
}

-- 8 'short' where the list is too short for a session, before anything else
unfoldable pub state_refusal : List ℕ → ℕ → ℕ
state_refusal was k = choose (ltb (length was) state_numbers) (λ _. 8) (λ _. k)

-- what a change leaves of the list, whatever it does: all of it on a refusal, and else what is past the session
pub record Kept (was : List ℕ) (r : ℕ) (is : List ℕ) : Type 0 where
  pub untouched : r ≢ 0 → Untouched was is
  pub as_long : length is ≡ length was
  pub past : (k d : ℕ) → state_numbers ≤ k → get_or is k d ≡ get_or was k d

-- a start with n words: where it is accepted the list spells the fresh session
pub record Starts (was : List ℕ) (n r : ℕ) (is : List ℕ) : Type 0 where
  pub refusal : r ≡ state_refusal was (size_refusal n)
  pub kept : Kept was r is
  pub started : r ≡ 0 → StartPromise n (record { refusal = r; session = session_of is })

-- an arrow from u to v: the answer and the session are those that `editing` promises of the session that the list spelt
pub record Adds (was : List ℕ) (u v r : ℕ) (is : List ℕ) : Type 0 where
  pub refusal : r ≡ state_refusal was (refusal_of (session_of was) u v)
  pub kept : Kept was r is
  pub added : state_numbers ≤ length was → AddPromise (session_of was) u v (record { refusal = r; session = session_of is })

-- r answers a question how u leads to v, as `editing` promises of the session that the list spells
pub record Tells (was : List ℕ) (u v : ℕ) (r : Leading) : Type 0 where
  pub short : length was < state_numbers → r ≡ leading_of (reply_by 8 Unreached)
  pub told : state_numbers ≤ length was → (a : Reply) × LeadsPromise (session_of was) u v a × (r ≡ leading_of a)
