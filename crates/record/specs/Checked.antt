-- What the checks of a graph hand over. Assumes nothing.
use Rattle.std.specs.Prelude.{◌≡◌, ◌≢◌, Bool, true, false, List, [], ℕ, ◌+◌, ◌*◌, ◌≤◌, ◌<◌, length, Result, Ok, Err}
use Rattle.counting.specs.Quads.{quad}
use Rattle.specification.specs.Graph.{tails_of, heads_of}
use Rattle.descent.specs.Promise.{edges_refusal, Left}
use Rattle.floors.specs.Promise.{Roomy, Raised, Flat}
use Rattle.specification.specs.Sets.{has?}
use Rattle.specification.specs.Channels.{given_lines}
use Rattle.specification.specs.Given.{with_given}
use Rattle.planning.specs.Arranged.{Arranged}
use Rattle.specification.specs.declared.Refusal.{Refusal}
use Rattle.specification.specs.Refusals.{refusal_number}
use Rattle.record.specs.declared.checks.Checked.{Checked as Counts}
use Rattle.specification.specs.Checks.{content, unfloored?, floor_at, refusal_of}
use Rattle.specification.specs.Lent.{Untouched, KeptFrom}

-- why a graph is refused, or 0; how many rows are used, and how many channels there are
pub record Checked : Type 0 where
  pub refusal : ℕ
  pub used : ℕ
  pub channels : ℕ

-- a refusal with no count
abbrev pub unchecked_by : ℕ → Checked
unchecked_by k = record { refusal = k; used = 0; channels = 0 }

-- what a call says
abbrev pub checked_of : Result Counts Refusal → Checked
checked_of (Ok r) = record { refusal = 0; used = r.used; channels = r.channels }
checked_of (Err k) = unchecked_by (refusal_number k)

-- ---- the channels: the given ones, and then those planned by the table t

abbrev pub channels_by : ℕ → List ℕ → Bool → List ℕ → List (List ℕ)
channels_by n t given field = with_given (has? 2 t) n (given_lines given field)

-- ---- the whole

-- a graph that passes: its tables, its channels, and in p the places of its vertices
pub record Passes (n : ℕ) (ends : List ℕ) (given : Bool) (field : List ℕ) (floored : Bool) (floors : List ℕ) (r : Checked)
    (e b t l p : List ℕ) : Type 0 where
  pub raised : Raised n (tails_of ends) (heads_of ends) (floor_at floored floors) r.used e b t l p
  pub arranged : Arranged n (channels_by n t given field) r.channels p

-- the tables of edges and floors that are not refused, whatever is said of the channels
pub record Tables (n : ℕ) (ends : List ℕ) (floored : Bool) (floors b e' b' t' l' p' : List ℕ) : Type 0 where
  pub used : ℕ
  pub raised : Raised n (tails_of ends) (heads_of ends) (floor_at floored floors) used e' b' t' l' p'
  pub past : KeptFrom (2 * used + 2) b b'

-- r is the first check that fails and no count, or 0 and what passes; e, b, t, l and p are the lists that are lent, and e' to p' what they
-- hold afterwards, which goes by the refusals of the edges and of the floors alone. The entries of p past the vertices stay. Where the
-- given channels are refused and those are not, no vertex has a channel: both numbers of each are 0
pub record Checks (n : ℕ) (ends : List ℕ) (given : Bool) (field : List ℕ) (floored : Bool) (floors e b t l p : List ℕ) (r : Checked)
    (e' b' t' l' p' : List ℕ) : Type 0 where
  pub answer : Roomy n floored e b t l p → r.refusal ≡ refusal_of (content n (tails_of ends) (heads_of ends) given field floored floors)
  pub short : (Roomy n floored e b t l p → ⊥)
      → (r.refusal ≡ 8) × Untouched e e' × Untouched b b' × Untouched t t' × Untouched l l' × Untouched p p'
  pub none : r.refusal ≢ 0 → r ≡ unchecked_by r.refusal
  pub passes : r.refusal ≡ 0 → Passes n ends given field floored floors r e' b' t' l' p'
  pub left : Roomy n floored e b t l p → edges_refusal n (tails_of ends) (heads_of ends) ≢ 0
      → Left (edges_refusal n (tails_of ends) (heads_of ends)) n ends e b t l p e' b' t' l' p'
  pub flat : Roomy n floored e b t l p → edges_refusal n (tails_of ends) (heads_of ends) ≡ 0 → unfloored? n floored floors ≡ true
      → Flat n ends b e' b' t' l' p' × ((k v : ℕ) → k < 2 → quad k p' v ≡ quad k p v)
  pub tables : Roomy n floored e b t l p → edges_refusal n (tails_of ends) (heads_of ends) ≡ 0 → unfloored? n floored floors ≡ false
      → Tables n ends floored floors b e' b' t' l' p'
  pub cleared : Roomy n floored e b t l p → edges_refusal n (tails_of ends) (heads_of ends) ≡ 0 → unfloored? n floored floors ≡ false
      → r.refusal ≢ 0 → Arranged n [] 0 p'
  pub past : (k v : ℕ) → k < 4 → n ≤ v → quad k p' v ≡ quad k p v
  pub long : (length e' ≡ length e) × (length b' ≡ length b) × (length t' ≡ length t) × (length l' ≡ length l) × (length p' ≡ length p)
