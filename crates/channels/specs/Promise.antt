-- What the public calls promise. Assumes nothing.
use Rattle.std.specs.Prelude.{◌≡◌, ◌≢◌, true, false, List, [], ℕ, ◌*◌, ◌≤◌, ◌<◌, min, length}
use Rattle.specification.specs.Count.{choose}
use Rattle.specification.specs.Planning.{planned}
use Rattle.specification.specs.Channels.{lines_of, vertices_of, unknown?, repeats?, broken?}
use Rattle.specification.specs.Given.{with_given}
use Rattle.planning.specs.Arranged.{Arranged, Kept}
use Rattle.planning.specs.Promise.{Channels}
use Rattle.specification.specs.Sets.{has?}
use Rattle.specification.specs.Graph.{unsized?, size_refusal}
use Rattle.specification.specs.declared.Connection.{Connection}
use Rattle.reach.specs.Closure.{connection_by}
use Rattle.specification.specs.Lent.{Untouched}

-- the number of the first check that given channels fail (SPECIFICATION.md, 13), or 0: 2 'size', 3 'stranger', 6 'cover', 7 'broken'
unfoldable pub given_refusal : (ask : ℕ → ℕ → Connection) → ℕ → List ℕ → ℕ
given_refusal ask n field =
    choose (unsized? n) (λ _. 2) (λ _.
    choose (unknown? n (vertices_of field)) (λ _. 3) (λ _.
    choose (repeats? (vertices_of field)) (λ _. 6) (λ _.
    choose (broken? ask (lines_of field)) (λ _. 7) (λ _. 0))))

-- r is 8 where the list has no room, and nothing changed; else the refusal, and where that is 0 the channels stand in p'. By size nothing
-- changed either; after 3, 6 and 7 no vertex has a channel: both numbers of each are 0. Nothing else has changed
pub record Answers (n refusal : ℕ) (ls : List (List ℕ)) (p : List ℕ) (r : Channels) (p' : List ℕ) : Type 0 where
  pub refused : 4 * min n 128 ≤ length p → r.refusal ≡ refusal
  pub short : length p < 4 * min n 128 → (r.refusal ≡ 8) × Untouched p p'
  pub none : r.refusal ≢ 0 → r.count ≡ 0
  pub unsized : unsized? n ≡ true → Untouched p p'
  pub arranged : r.refusal ≡ 0 → Arranged n ls r.count p'
  pub cleared : r.refusal ≢ 0 → 4 * min n 128 ≤ length p → unsized? n ≡ false → Arranged n [] 0 p'
  pub kept : Kept n p p'

abbrev pub Plans : ℕ → List ℕ → List ℕ → Channels → List ℕ → Type 0
Plans n table p r p' = Answers n (size_refusal n) (planned (has? 2 table) n) p r p'

-- checked by the tables of edges and of longer routes, and the others planned by that of what reaches what
abbrev pub Gives : ℕ → List ℕ → List ℕ → List ℕ → List ℕ → List ℕ → Channels → List ℕ → Type 0
Gives n edges longer table field p r p' =
    Answers n (given_refusal (connection_by 2 edges longer) n field) (with_given (has? 2 table) n (lines_of field)) p r p'
