-- What one walk over the bytes of given channels finds. Assumes nothing.
use Rattle.std.specs.Prelude.{◌≡◌, Bool, true, List, [], ℕ, ◌≤◌, eqb, length, Option, Some, None, Result, Ok, Err}
use Rattle.specification.specs.Count.{choose}
use Rattle.specification.specs.Channels.{lines_of, vertices_of}
use Rattle.specification.specs.Given.{held_in}
use Rattle.specification.specs.Sets.{member?}
use Rattle.specification.specs.Connection.{leading?}
use Rattle.specification.specs.Refusals.{refusal_number}
use Rattle.specification.specs.declared.Connection.{Connection}
use Rattle.specification.specs.declared.Refusal.{Refusal}
use Rattle.planning.specs.Arranged.{Arranged, Kept}
use Rattle.channels.specs.Promise.{given_refusal}
use Rattle.channels.specs.declared.Laid.{Laid}

-- why given channels are refused, or 0, how many are laid, how many vertices they have, and the set of these
pub record Walked : Type 0 where
  pub refusal : ℕ
  pub count : ℕ
  pub vertices : ℕ
  pub seen : List ℕ

-- what the walk says
abbrev pub walked_of : Result Laid Refusal → Walked
walked_of (Ok laid) = record { refusal = 0; count = laid.count; vertices = laid.vertices; seen = laid.seen }
walked_of (Err k) = record { refusal = refusal_number k; count = 0; vertices = 0; seen = [] }

-- whether v may follow the vertex before it, if there is one: that one, asked how it reaches v, does not answer 'not at all'
abbrev pub may_follow : (ask : ℕ → ℕ → Connection) → Option ℕ → ℕ → Bool
may_follow ask None v = true
may_follow ask (Some u) v = leading? (ask u v)

-- what is known after one vertex more: whether it stood before, whether it may follow, and what was known
unfoldable pub weighed : Bool → Bool → ℕ → ℕ
weighed again follows fault = choose again (λ _. 6) (λ _. choose (eqb fault 0) (λ _. choose follows (λ _. 0) (λ _. 7)) (λ _. fault))

-- the first check that fails; where none does the channels, no more than their vertices, and the set of these
pub record Walks (ask : ℕ → ℕ → Connection) (n : ℕ) (field p : List ℕ) (r : Walked) (p' : List ℕ) : Type 0 where
  pub answer : r.refusal ≡ given_refusal ask n field
  pub laid : r.refusal ≡ 0 → Arranged n (lines_of field) r.count p'
  pub few : r.refusal ≡ 0 → r.count ≤ r.vertices
  pub total : r.refusal ≡ 0 → r.vertices ≡ length (vertices_of field)
  pub held : r.refusal ≡ 0 → (v : ℕ) → member? r.seen 0 v ≡ held_in (lines_of field) v
  pub kept : Kept n p p'
