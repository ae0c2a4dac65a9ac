-- What the private steps of the checks leave behind. Assumes nothing.
use Rattle.std.specs.Prelude.{◌≡◌, ◌↔◌, Bool, List, ℕ, ◌<◌, length, Result, Ok, Err}
use Rattle.specification.specs.Limits.{most_vertices, table_masks}
use Rattle.specification.specs.Sets.{at}
use Rattle.specification.specs.Checks.{Content, record_refusal, said}
use Rattle.specification.specs.Count.{choose}
use Rattle.specification.specs.Graph.{Adjacent, Reachable, size_refusal}
use Rattle.reach.specs.Closure.{Composed, connection_by}
use Rattle.channels.specs.Promise.{given_refusal}
use Rattle.specification.specs.declared.Refusal.{Refusal}
use Rattle.specification.specs.Refusals.{refusal_number}

-- by the tables of edges and of longer routes
abbrev pub channels_refusal : ℕ → List ℕ → List ℕ → Bool → List ℕ → ℕ
channels_refusal n e l given field = choose given (λ _. given_refusal (connection_by 2 e l) n field) (λ _. size_refusal n)

-- ---- a record

-- e, l and t are the tables of the edges, of longer routes and of what reaches what in the graph that a record says
pub record Tabled (c : Content) (e l t : List ℕ) : Type 0 where
  pub arcs : (u v : ℕ) → u < most_vertices → v < most_vertices → at 2 e u v ≡ 1 ↔ Adjacent c.vertices c.tails c.heads u v
  pub bits : (u v : ℕ) → u < most_vertices → v < most_vertices → at 2 t u v ≡ 1 ↔ Reachable c.vertices c.tails c.heads u v
  pub longer : Composed 2 t l

-- why a record is refused, or 0, and how many vertices it has
pub record Judged : Type 0 where
  pub refusal : ℕ
  pub vertices : ℕ

-- what a step says
abbrev pub judged_of : Result ℕ Refusal → Judged
judged_of (Ok n) = record { refusal = 0; vertices = n }
judged_of (Err k) = record { refusal = refusal_number k; vertices = 0 }

-- r is why the record is refused, or 0, and how many vertices it has, none where it is refused; where it is not, the lists hold its tables
pub record Judges (b : List ℕ) (r : Judged) (e l t : List ℕ) : Type 0 where
  pub answer : r.refusal ≡ record_refusal b
  pub vertices : r.vertices ≡ (said b).vertices
  pub long : length t ≡ table_masks
  pub tables : r.refusal ≡ 0 → Tabled (said b) e l t
