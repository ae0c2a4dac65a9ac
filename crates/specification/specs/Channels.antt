-- Channels (lines) as lists, and the bytes of given ones (house lines; SPECIFICATION.md, 1 and 3). Assumes nothing.
use Rattle.std.specs.Prelude.{Bool, true, false, ◌&&◌, ◌||◌, not, ℕ, suc, ◌+◌, zero, eqb, leb}
use mathlib.Core.List.{List, [], ◌∷◌, flatten}
use Rattle.specification.specs.Count.{indicator, choose}
use Rattle.specification.specs.Connection.{leading?}
use Rattle.specification.specs.declared.Connection.{Connection}

-- how often v stands in the list
unfoldable pub times : ℕ → List ℕ → ℕ
times v [] = 0
times v (x ∷ l) = indicator (eqb x v) + times v l

-- whether v stands in the list
unfoldable pub has : ℕ → List ℕ → Bool
has v [] = false
has v (x ∷ l) = eqb x v || has v l

-- the place of v in the list, counted from p; 0 where it does not stand there
unfoldable pub place_from : ℕ → List ℕ → ℕ → ℕ
place_from p [] v = 0
place_from p (x ∷ l) v = choose (eqb x v) (λ _. p) (λ _. place_from (suc p) l v)

-- each vertex of the list leads to the next
unfoldable pub linked : (ℕ → ℕ → Bool) → List ℕ → Bool
linked leads [] = true
linked leads (x ∷ []) = true
linked leads (x ∷ y ∷ l) = leads x y && linked leads (y ∷ l)

-- the number of v's channel, counted from c; 0 where no channel has v
unfoldable pub channel_from : ℕ → List (List ℕ) → ℕ → ℕ
channel_from c [] v = 0
channel_from c (l ∷ ls) v = choose (has v l) (λ _. c) (λ _. channel_from (suc c) ls v)

unfoldable pub channel_of : List (List ℕ) → ℕ → ℕ
channel_of ls v = channel_from 0 ls v

-- v's position in its channel, from 0; 0 where no channel has v
unfoldable pub position_of : List (List ℕ) → ℕ → ℕ
position_of [] v = 0
position_of (l ∷ ls) v = choose (has v l) (λ _. place_from 0 l v) (λ _. position_of ls v)

-- every channel passes the test
unfoldable pub every : (List ℕ → Bool) → List (List ℕ) → Bool
every p [] = true
every p (l ∷ ls) = p l && every p ls

-- each vertex leads to the next of its channel
abbrev pub all_linked : (ℕ → ℕ → Bool) → List (List ℕ) → Bool
all_linked leads = every (linked leads)

-- v in front of the first list
unfoldable pub front : ℕ → List (List ℕ) → List (List ℕ)
front v [] = (v ∷ []) ∷ []
front v (l ∷ ls) = (v ∷ l) ∷ ls

-- the rest of a line that has k vertices left, and then the lines that follow it; a line is cut where the bytes end
unfoldable pub lines : ℕ → List ℕ → List (List ℕ)
lines zero [] = [] ∷ []
lines zero (k ∷ s) = [] ∷ lines k s
lines (suc k) [] = [] ∷ []
lines (suc k) (v ∷ s) = front v (lines k s)

-- the lists that hold something
unfoldable pub filled : List (List ℕ) → List (List ℕ)
filled [] = []
filled ([] ∷ ls) = filled ls
filled ((v ∷ l) ∷ ls) = (v ∷ l) ∷ filled ls

-- the lines of a field; a line of no vertex is none
unfoldable pub lines_of : List ℕ → List (List ℕ)
lines_of field = filled (lines 0 field)

-- the given channels, in their order: those of the field if it is there. An empty one gives none, as no field does
unfoldable pub given_lines : Bool → List ℕ → List (List ℕ)
given_lines given field = choose given (λ _. lines_of field) (λ _. [])

-- the vertices of a field, line by line
abbrev pub vertices_of : List ℕ → List ℕ
vertices_of field = flatten (lines_of field)

-- ---- the checks

-- a number that is no vertex, of n or more
unfoldable pub unknown? : ℕ → List ℕ → Bool
unknown? n [] = false
unknown? n (v ∷ l) = leb n v || unknown? n l

-- a vertex that stands twice
unfoldable pub repeats? : List ℕ → Bool
repeats? [] = false
repeats? (v ∷ l) = has v l || repeats? l

-- a vertex that the one before it in its line does not lead to: asked how, the answer is 'not at all'
unfoldable pub broken? : (ask : ℕ → ℕ → Connection) → List (List ℕ) → Bool
broken? ask ls = not (all_linked (λ u v. leading? (ask u v)) ls)
