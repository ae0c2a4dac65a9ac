-- The rule by which channels are planned (SPECIFICATION.md, 3), over any relation. Assumes nothing.
use Rattle.std.specs.Prelude.{Bool, true, false, not, ◌&&◌, List, [], ◌∷◌, ◌++◌, ℕ, zero, suc, eqb}
use Rattle.specification.specs.Count.{choose}
use Rattle.std.proofs.Math.Option.{Option, none, some}
use Rattle.specification.specs.Channels.{has}

-- a vertex and its predecessor (its holder)
pub record Held : Type 0 where
  pub vertex : ℕ
  pub predecessor : ℕ

-- v's predecessor, if it has one: the first that stands there was put there last, and counts
unfoldable pub predecessor_of : List Held → ℕ → Option ℕ
predecessor_of [] v = none
predecessor_of (e ∷ held) v = choose (eqb e.vertex v) (λ _. some e.predecessor) (λ _. predecessor_of held v)

-- there is no predecessor
unfoldable pub none? : Option ℕ → Bool
none? none = true
none? (some p) = false

-- the predecessor is h
unfoldable pub is? : ℕ → Option ℕ → Bool
is? h none = false
is? h (some p) = eqb p h

-- who has which predecessor, the vertices visited (tried) in this search, and whether who asked last found a successor (a follower; 3.3)
pub record State : Type 0 where
  pub held : List Held
  pub visited : List ℕ
  pub found : Bool

-- h may try v: it leads to v, and v is not visited yet
unfoldable pub candidate : (ℕ → ℕ → Bool) → ℕ → ℕ → State → Bool
candidate leads h v s = leads h v && not (has v s.visited)

-- v is visited
unfoldable pub marked : ℕ → State → State
marked v s = record { held = s.held; visited = v ∷ s.visited; found = s.found }

-- h is now v's predecessor, and has found a successor
unfoldable pub taken : ℕ → ℕ → State → State
taken h v s = record { held = record { vertex = v; predecessor = h } ∷ s.held; visited = s.visited; found = true }

-- a successor was found, or none was
unfoldable pub answered : Bool → State → State
answered found s = record { held = s.held; visited = s.visited; found = found }

-- a vertex without predecessor may be taken, and one with a predecessor if that finds another successor, by `again`
unfoldable pub freed : (ℕ → State → State) → Option ℕ → State → State
freed again none s = answered true s
freed again (some p) s = again p s

-- v is h's, if it may be taken, which r says; else h goes on
abbrev pub settle : ℕ → ℕ → State → (State → State) → State
settle h v r next = choose r.found (λ _. taken h v r) (λ _. next r)

-- h tries v, which is visited now; `next` goes on where that fails
abbrev pub try : (ℕ → State → State) → ℕ → ℕ → State → (State → State) → State
try again h v s next = settle h v (freed again (predecessor_of s.held v) (marked v s)) next

-- a search begins with no vertex visited
abbrev pub fresh : List Held → State
fresh held = record { held = held; visited = []; found = false }

module _ (leads : ℕ → ℕ → Bool) (n : ℕ) where
  -- h tries the j vertices from v on, those that it may, in ascending number
  unfoldable pub scan : (ℕ → State → State) → ℕ → ℕ → ℕ → State → State
  scan again h zero v s = answered false s
  scan again h (suc j) v s =
      choose (candidate leads h v s) (λ _. try again h v s (scan again h j (suc v))) (λ _. scan again h j (suc v) s)

  -- h asks for a successor. The depth falls with each predecessor asked, so that the definition ends, and is no limit: who asks a
  -- predecessor has marked a vertex first, so every depth above n gives the same (`matching/proofs/Depth`)
  unfoldable pub augment : ℕ → ℕ → State → State
  augment zero h s = answered false s
  augment (suc depth) h s = scan (augment depth) h n 0 s

  -- each of the j vertices from h on asks once
  unfoldable pub asks : ℕ → ℕ → ℕ → List Held → List Held
  asks depth zero h held = held
  asks depth (suc j) h held = asks depth j (suc h) (augment depth h (fresh held)).held

  -- the predecessors after every vertex, from 0 up, has asked
  unfoldable pub matching_to : ℕ → List Held
  matching_to depth = asks depth n 0 []

  unfoldable pub matching : List Held
  matching = matching_to (suc n)

module _ (n : ℕ) (held : List Held) where
  -- the first of the j vertices from v on whose predecessor is h, if there is one
  unfoldable pub successor_from : ℕ → ℕ → ℕ → Option ℕ
  successor_from h zero v = none
  successor_from h (suc j) v = choose (is? h (predecessor_of held v)) (λ _. some v) (λ _. successor_from h j (suc v))

  unfoldable pub successor : ℕ → Option ℕ
  successor h = successor_from h n 0

  -- the vertex given, its successor, that one's successor and so on, at most as many as the depth says
  unfoldable pub chain : ℕ → Option ℕ → List ℕ
  chain zero v = []
  chain (suc depth) none = []
  chain (suc depth) (some v) = v ∷ chain depth (successor v)

  -- the vertex v has no predecessor, so that a channel begins with it
  unfoldable pub begins : ℕ → Bool
  begins v = none? (predecessor_of held v)

  -- the channels that begin with the vertices below v, in ascending order of these
  unfoldable pub begun : ℕ → ℕ → List (List ℕ)
  begun depth zero = []
  begun depth (suc v) = choose (begins v) (λ _. begun depth v ++ (chain depth (some v) ∷ [])) (λ _. begun depth v)

-- the channels of n vertices, with searches and channels as long as the depth allows
unfoldable pub planned_to : ℕ → (ℕ → ℕ → Bool) → ℕ → List (List ℕ)
planned_to depth leads n = begun n (matching_to leads n depth) depth n

-- the channels of n vertices by the rule; every depth above n gives the same
unfoldable pub planned : (ℕ → ℕ → Bool) → ℕ → List (List ℕ)
planned leads n = planned_to (suc n) leads n
