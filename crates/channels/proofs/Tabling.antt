-- The tables of given channels, laid byte by byte in the walk that checks them. Assumes nothing.
use Rattle.counting.proofs.Prelude.{◌≡◌, sym, ap, ◌∙◌, ◌≢◌, false, List, [], ℕ, ◌+◌, ◌-◌, ◌*◌, ◌≤◌, ◌<◌, arith, length, get_or}
use Rattle.std.specs.Prelude.{Option}
use Rattle.matching.proofs.Lists.{length-bound}
use Rattle.specification.specs.declared.Connection.{Connection}
use Rattle.specification.specs.Channels.{vertices_of, unknown?, repeats?}
use Rattle.planning.specs.Arranged.{Arranged, Kept}
use Rattle.channels.specs.Steps.Laid.{Lays}
use Rattle.channels.specs.Promise.{given_refusal}
use Rattle.channels.specs.Steps.Walked.{Walked, Walks}
use Rattle.channels.proofs.Fields.{left, left_vertex}
use Rattle.channels.proofs.Checks.{unknown_wider, unknown-within, repeats_once}
use Rattle.channels.proofs.Reading.{Reading, reading_none, reading_length, reading_more, reading_all}
use Rattle.channels.proofs.Theorems.{given-passed}
use Rattle.channels.proofs.Walking.{Walking, walked_all, walked_total, walked_held}

module _ (n : ℕ) (field : List ℕ) where
  -- the lines before byte i are laid, if they pass, so many vertices in all; of the present line p vertices are laid, and k are left
  pub record Tabling (i k p vertices count : ℕ) (s : List ℕ) : Type 0 where
    pub place : p ≤ vertices
    pub lines : count ≤ vertices
    pub some : 0 < vertices → 0 < count
    pub laid : repeats? (vertices_of field) ≡ false → unknown? 128 (vertices_of field) ≡ false → Reading n field i k p count s

  pub tabling_none : (s : List ℕ) → Arranged n [] 0 s → Tabling 0 0 0 0 0 s
  tabling_none s a = record {
    place = omega arith;
    lines = omega arith;
    some = λ l. l;
    laid = λ once few. reading_none n field s a;
  }

  module _ (i : ℕ) (h : i < length field) (k p vertices count : ℕ) (s : List ℕ) (f : Tabling i k p vertices count s)
      (x : ℕ) (ex : x ≡ get_or field i 0) where
    pub tabling_length : k ≡ 0 → Tabling (i + 1) x 0 vertices count s
    tabling_length e = record {
      place = omega arith;
      lines = f.lines;
      some = f.some;
      laid = λ once few. reading_length n field once i h k p count s (f.laid once few) e x ex;
    }

    module _ (counted : length (vertices_of field) ≡ vertices + length (left field i k)) (d : k ≢ 0) where
      -- vertices that pass have room
      room : repeats? (vertices_of field) ≡ false → unknown? 128 (vertices_of field) ≡ false → vertices < 128
      room once few = omega (
        arith,
        length-bound 128 (vertices_of field) (unknown-within 128 (vertices_of field) few) (λ v m. repeats_once (vertices_of field) once v),
        counted,
        ap length (left_vertex field i h k d),
      )

      pub tabling_more : 4 * n ≤ length s → (c : ℕ) (s' : List ℕ) → Lays vertices p x count s c s'
          → Tabling (i + 1) (k - 1) (p + 1) (vertices + 1) c s'
      tabling_more fits c s' l = record {
        place = let q = f.place in omega arith;
        lines = l.few;
        some = λ _. l.some;
        laid = λ once few. reading_more n field once i h k p count s (f.laid once few) d x ex fits c s'
            (l.opened (room once few)) (l.stored (room once few));
      }

  -- ---- the end

  module _ (ask : ℕ → ℕ → Connection) (was is : List ℕ) (g : Kept n was is) (r : Walked) where
    pub walks_refused : r.refusal ≢ 0 → r.refusal ≡ given_refusal ask n field → Walks ask n field was r is
    walks_refused never answer =
        record {
          answer = answer;
          laid = λ z. absurd (never z);
          few = λ z. absurd (never z);
          total = λ z. absurd (never z);
          held = λ z. absurd (never z);
          kept = g;
        }

    pub walks_all : n ≢ 0 → n ≤ 128 → (i k p : ℕ) (last : Option ℕ) → length field ≤ i
        → Walking ask n field i k last r.seen r.vertices r.refusal
        → Tabling i k p r.vertices r.count is → Walks ask n field was r is
    walks_all some small i k p last h w f =
        let answer = walked_all ask n field i k last r.seen r.vertices r.refusal w h some small in record {
          answer = answer;
          laid = λ z.
              let q = given-passed ask n field (sym answer ∙ z) in
              reading_all n field i k p r.count is
              (f.laid q.once (unknown_wider n 128 (vertices_of field) small q.known)) h;
          few = λ _. f.lines;
          total = λ _. walked_total ask n field i k last r.seen r.vertices r.refusal w h;
          held = walked_held ask n field i k last r.seen r.vertices r.refusal w h;
          kept = g;
        }
