-- What reading a record hands over; what a record says is in specification/specs/Checks. Assumes nothing.
use Rattle.std.specs.Prelude.{◌≡◌, ◌≢◌, ◌↔◌, List, ℕ, ◌<◌, length, replicate, Result, Ok, Err}
use Rattle.specification.specs.Limits.{most_vertices, table_masks}
use Rattle.specification.specs.Sets.{at}
use Rattle.specification.specs.Graph.{Reachable}
use Rattle.specification.specs.Checks.{record_refusal, said}
use Rattle.specification.specs.declared.Refusal.{Refusal}
use Rattle.specification.specs.Refusals.{refusal_number}
use Rattle.record.specs.declared.reading.Reading.{Reading as Tables}

-- why a record is refused, or 0, how many vertices it has, and the table of what reaches what
pub record Reading : Type 0 where
  pub refusal : ℕ
  pub vertices : ℕ
  pub table : List ℕ

-- a refusal: every count and mask is 0
abbrev pub unread_by : ℕ → Reading
unread_by k = record { refusal = k; vertices = 0; table = replicate table_masks 0 }

-- what a call says
abbrev pub reading_of : Result Tables Refusal → Reading
reading_of (Ok r) = record { refusal = 0; vertices = r.vertices; table = r.table }
reading_of (Err k) = unread_by (refusal_number k)

-- r is why the record is refused, or 0, and its vertices and what reaches what in it; a refused one has none
pub record Reads (b : List ℕ) (r : Reading) : Type 0 where
  pub answer : r.refusal ≡ record_refusal b
  pub vertices : r.vertices ≡ (said b).vertices
  pub masks : length r.table ≡ table_masks
  pub bits : (u v : ℕ) → u < most_vertices → v < most_vertices → at 2 r.table u v ≡ 1
      ↔ Reachable (said b).vertices (said b).tails (said b).heads u v
  pub none : r.refusal ≢ 0 → r ≡ unread_by r.refusal
