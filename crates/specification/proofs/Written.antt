-- What is written is laid out as it must be, and reads back. Assumes nothing.
use mathlib.Core.Path.{◌≡◌, refl, sym, ap, ap₂, ◌∙◌}
use mathlib.Core.Bool.{Bool, true, false, ◌&&◌}
use mathlib.Core.List.{List, [], ◌∷◌, ◌++◌, append-nil, append_assoc, map}
use Prim.Native.Nat.{ℕ, ◌+◌, ◌*◌, ◌/◌, ◌%◌, ◌≤◌}
use native.Mathlib.Omega.{arith}
use lib.Dec.{eqb, leb}
use lib.ListN.{length, get_or, take, drop, length-append}
use lib.Seq.{take-append_seam, drop-append-add, get_or-append_seam, get_or-append-add}
use borrow.Author.Tests.{eq-eqb, ne_eqb, le-leb}
use Rattle.specification.specs.Count.{choose}
use Rattle.specification.specs.Graph.{alternate, tails_of, heads_of}
use Rattle.specification.specs.Channels.{front, lines, filled, lines_of}
use Rattle.specification.specs.Checks.{content_of}
use Rattle.specification.specs.Layout.{Found, Missing}
use Rattle.specification.specs.Layout.{Fields}
use Rattle.specification.specs.Layout.{Layout}
use Rattle.specification.specs.Layout.{Good}
use Rattle.specification.specs.Layout.{size_at, field_at, lined, with_floors, after_lines, with_lines, after_edges, with_edges}
use Rattle.specification.specs.Layout.{with_vertices, layout_of}
use Rattle.specification.specs.Writing.{Draft, field, end_bytes, line_bytes, channel_field, floor_field, written, Lines, Writable}
use Rattle.specification.specs.Writing.{edges_end, lines_end, fields_of}
use Rattle.specification.specs.Writing.Lines.{none, more}

-- ---- one field

-- a field is found where it was written
written_found : (tag : ℕ) (pre s post : List ℕ)
    → field_at tag (pre ++ (field tag s ++ post)) (length pre) ≡ Found (length pre + 3) (length s)
unfolding field_at size_at field
written_found tag pre s post =
    let rest = field tag s ++ post in
    let b = pre ++ rest in
    let at = length pre in
    let t : get_or b at 0 ≡ tag = get_or-append_seam pre tag (drop 1 rest) 0 in
    let high : get_or b (at + 1) 0 ≡ length s / 256 = get_or-append-add pre rest 1 0 in
    let low : get_or b (at + 2) 0 ≡ length s % 256 = get_or-append-add pre rest 2 0 in
    let size : get_or b (at + 1) 0 * 256 + get_or b (at + 2) 0 ≡ length s = omega arith in
    let whole : length b ≡ at + 3 + (length s + length post) = omega (arith, length-append pre rest, length-append s post) in
    let begins : at + 3 ≤ length b = omega arith in
    let ends : at + 3 + (get_or b (at + 1) 0 * 256 + get_or b (at + 2) 0) ≤ length b = omega arith in
    simp (le-leb _ _ begins, eq-eqb _ _ t, le-leb _ _ ends) (ap (Found (at + 3)) size)

-- and its bytes stand there
written_stands : (tag : ℕ) (pre s post : List ℕ) → take (length s) (drop (length pre + 3) (pre ++ (field tag s ++ post))) ≡ s
unfolding field
written_stands tag pre s post = ap (take (length s)) (drop-append-add pre (field tag s ++ post) 3) ∙ take-append_seam s post

-- another tag, or the end of the record, is no such field
other_tag : (tag : ℕ) (b : List ℕ) (at : ℕ) → (get_or b at 0 ≡ tag → ⊥) → field_at tag b at ≡ Missing
unfolding field_at
other_tag tag b at h = go (leb (at + 3) (length b)) (eqb (get_or b at 0) tag) (ne_eqb _ _ h)
  where
    go : (s t : Bool) → t ≡ false
        → choose ((s && t) && leb (at + 3 + size_at b at) (length b)) (λ _. Found (at + 3) (size_at b at)) (λ _. Missing) ≡ Missing
    go true t e = simp e
    go false t e = refl

-- ---- the edges

pub ends-length : (es : List (ℕ × ℕ)) → length (end_bytes es) ≡ 2 * length es
unfolding end_bytes
ends-length [] = refl
ends-length (e ∷ es) = omega (arith, ends-length es)

ends-tails : (es : List (ℕ × ℕ)) → tails_of (end_bytes es) ≡ map (λ e. e.0) es
unfolding end_bytes tails_of alternate
ends-tails [] = refl
ends-tails (e ∷ es) = ap (λ l. e.0 ∷ l) (ends-tails es)

ends-heads : (es : List (ℕ × ℕ)) → heads_of (end_bytes es) ≡ map (λ e. e.1) es
unfolding end_bytes heads_of alternate
ends-heads [] = refl
ends-heads (e ∷ []) = refl
ends-heads (e ∷ d ∷ es) = ap (λ l. e.1 ∷ l) (ends-heads (d ∷ es))

-- ---- the channels

lined-line : (l s : List ℕ) → lined (length l) (l ++ s) ≡ lined 0 s
unfolding lined
lined-line [] s = refl
lined-line (v ∷ l) s = lined-line l s

lined-written : (ls : List (List ℕ)) → Lines ls → lined 0 (line_bytes ls) ≡ true
unfolding lined line_bytes
lined-written [] w = refl
lined-written ([] ∷ ls) (more some few bytes w) = absurd (omega (arith, some))
lined-written ((v ∷ l) ∷ ls) (more some few bytes w) = lined-line l (line_bytes ls) ∙ lined-written ls w

lines-line : (l s : List ℕ) (ls : List (List ℕ)) → lines 0 s ≡ [] ∷ ls → lines (length l) (l ++ s) ≡ l ∷ ls
unfolding lines front
lines-line [] s ls e = e
lines-line (v ∷ l) s ls e = ap (front v) (lines-line l s ls e)

lines-written : (ls : List (List ℕ)) → lines 0 (line_bytes ls) ≡ [] ∷ ls
unfolding lines line_bytes
lines-written [] = refl
lines-written (l ∷ ls) = ap (λ r. [] ∷ r) (lines-line l (line_bytes ls) ls (lines-written ls))

filled-all : (ls : List (List ℕ)) → Lines ls → filled ls ≡ ls
unfolding filled
filled-all [] w = refl
filled-all ([] ∷ ls) (more some few bytes w) = absurd (omega (arith, some))
filled-all ((v ∷ l) ∷ ls) (more some few bytes w) = ap (λ r. (v ∷ l) ∷ r) (filled-all ls w)

lines_back : (ls : List (List ℕ)) → Lines ls → lines_of (line_bytes ls) ≡ ls
unfolding lines_of filled
lines_back ls w = ap filled (lines-written ls) ∙ filled-all ls w

-- ---- the floors

-- no field of floors begins as one of given channels
not-lines : (floored : Bool) (s : List ℕ) → get_or (floor_field floored s) 0 0 ≡ 3 → ⊥
unfolding floor_field field
not-lines true s e = omega (arith, e)
not-lines false s e = omega (arith, e)

-- ---- the whole

module _ (x : Draft) where
  abbrev m : ℕ
  m = length x.edges

  abbrev ends : List ℕ
  ends = end_bytes x.edges

  -- the fields of vertices and edges, of the given channels, and of the floors
  abbrev body : List ℕ
  body = field 1 (x.vertices ∷ []) ++ field 2 ends

  abbrev middle : List ℕ
  middle = channel_field x.given x.channels

  abbrev final : List ℕ
  final = floor_field x.floored x.floors

  whole : written x ≡ body ++ (middle ++ final)
  unfolding written
  whole = sym (append_assoc (field 1 (x.vertices ∷ [])) (field 2 ends) (middle ++ final))

  whole-final : written x ≡ (body ++ middle) ++ final
  whole-final = whole ∙ sym (append_assoc body middle final)

  body-length : length body ≡ edges_end x
  unfolding field
  body-length = omega (arith, ends-length x.edges)

  front_length : length (body ++ middle) ≡ lines_end x
  front_length = length-append body middle ∙ ap (λ k. k + length middle) body-length

  pub written-length : length (written x) ≡ edges_end x + length middle + length final
  written-length = omega (arith, ap length whole-final, length-append (body ++ middle) final, front_length)

  edges_stand : take (2 * m) (drop 7 (written x)) ≡ ends
  unfolding written field
  edges_stand = ap (λ k. take k (ends ++ (middle ++ final))) (sym (ends-length x.edges)) ∙ take-append_seam ends (middle ++ final)

  -- ---- where the floors stand

  -- there are floors: tag 4, to the end
  module _ (e : x.floored ≡ true) where
    here-floors : written x ≡ (body ++ middle) ++ (field 4 x.floors ++ [])
    unfolding floor_field
    here-floors =
        let is : final ≡ field 4 x.floors = ap (λ g. floor_field g x.floors) e in
        whole-final ∙ ap (λ r. (body ++ middle) ++ r) (is ∙ sym (append-nil (field 4 x.floors)))

    floors_found : field_at 4 (written x) (lines_end x) ≡ Found (lines_end x + 3) (length x.floors)
    floors_found =
        ap₂ (field_at 4) here-floors (sym front_length) ∙ written_found 4 (body ++ middle) x.floors []
        ∙ ap (λ k. Found (k + 3) (length x.floors)) front_length

    floors_stand : take (length x.floors) (drop (lines_end x + 3) (written x)) ≡ x.floors
    floors_stand =
        ap₂ (λ k b. take (length x.floors) (drop (k + 3) b)) (sym front_length) here-floors
        ∙ written_stands 4 (body ++ middle) x.floors []

    floors_longer : length (written x) ≡ lines_end x + 3 + length x.floors
    unfolding floor_field field
    floors_longer = omega (arith, written-length, ap (λ g. length (floor_field g x.floors)) e)

  -- where the fields before the floors stand
  abbrev before : Bool → Fields
  before given = record {
    vertices = x.vertices;
    edges = 7;
    count = m;
    given = given;
    lines = choose given (λ _. edges_end x + 3) (λ _. 0);
    size = choose given (λ _. length (line_bytes x.channels)) (λ _. 0);
    floored = false;
    floors = 0;
    extent = 0;
  }

  laid-floors : after_lines (written x) (before x.given) (lines_end x) ≡ Good (fields_of x)
  unfolding after_lines with_floors floor_field fields_of
  laid-floors = go x.floored refl
    where
      go : (h : Bool) → x.floored ≡ h → after_lines (written x) (before x.given) (lines_end x) ≡ Good (fields_of x)
      go true e =
          simp (
            ne_eqb (lines_end x) (length (written x)) (λ z. omega (arith, floors_longer e, z)),
            floors_found e,
            eq-eqb (lines_end x + 3 + length x.floors) (length (written x)) (sym (floors_longer e)),
            e,
          )
      go false e =
          let none : length final ≡ 0 = ap (λ h. length (floor_field h x.floors)) e in
          simp (eq-eqb (lines_end x) (length (written x)) (omega (arith, written-length)), e)

  -- ---- where the given channels stand

  abbrev afterwards : Layout
  afterwards = after_edges (written x) x.vertices 7 m (edges_end x)

  -- no channels are given: no tag 3
  module _ (e : x.given ≡ false) where
    here-bare : written x ≡ body ++ final
    unfolding channel_field
    here-bare = whole ∙ ap (λ g. body ++ (channel_field g x.channels ++ final)) e

    lines_missing : field_at 3 (written x) (edges_end x) ≡ Missing
    lines_missing =
        let tag : get_or (written x) (edges_end x) 0 ≡ get_or final 0 0 =
        ap₂ (λ b k. get_or b k 0) here-bare (let z : edges_end x ≡ length body + 0 = omega (arith, body-length) in z)
        ∙ get_or-append-add body final 0 0 in
        other_tag 3 (written x) (edges_end x) (λ z. not-lines x.floored x.floors (sym tag ∙ z))

    laid-bare : afterwards ≡ Good (fields_of x)
    unfolding after_edges with_lines channel_field
    laid-bare =
        let none : length middle ≡ 0 = ap (λ g. length (channel_field g x.channels)) e in
        let at : edges_end x ≡ lines_end x = omega arith in
        ap (with_lines (written x) x.vertices 7 m (edges_end x)) lines_missing
        ∙ ap₂ (λ g k. after_lines (written x) (before g) k) (sym e) at ∙ laid-floors

  -- channels are given: tag 3
  module _ (e : x.given ≡ true) where
    abbrev told : List ℕ
    told = line_bytes x.channels

    is_told : middle ≡ field 3 told
    unfolding channel_field
    is_told = ap (λ g. channel_field g x.channels) e

    here-lines : written x ≡ body ++ (field 3 told ++ final)
    here-lines = whole ∙ ap (λ r. body ++ (r ++ final)) is_told

    lines_found : field_at 3 (written x) (edges_end x) ≡ Found (edges_end x + 3) (length told)
    lines_found =
        ap₂ (field_at 3) here-lines (sym body-length) ∙ written_found 3 body told final
        ∙ ap (λ k. Found (k + 3) (length told)) body-length

    lines_stand : take (length told) (drop (edges_end x + 3) (written x)) ≡ told
    lines_stand =
        ap₂ (λ k b. take (length told) (drop (k + 3) b)) (sym body-length) here-lines ∙ written_stands 3 body told final

    laid-lines : Lines x.channels → afterwards ≡ Good (fields_of x)
    unfolding after_edges with_lines field
    laid-lines w =
        let at : edges_end x + 3 + length told ≡ lines_end x = omega (arith, ap length is_told) in
        simp (lines_found, lines_stand, lined-written x.channels w)
        (ap₂ (λ g k. after_lines (written x) (before g) k) (sym e) at ∙ laid-floors)

  laid-after : Lines x.channels → afterwards ≡ Good (fields_of x)
  laid-after w = go x.given refl
    where
      go : (g : Bool) → x.given ≡ g → afterwards ≡ Good (fields_of x)
      go true e = laid-lines e w
      go false e = laid-bare e

  vertices_found : field_at 1 (written x) 0 ≡ Found 3 1
  unfolding written
  vertices_found = written_found 1 [] (x.vertices ∷ []) (field 2 ends ++ (middle ++ final))

  edges_found : field_at 2 (written x) 4 ≡ Found 7 (2 * m)
  unfolding written field
  edges_found = written_found 2 (field 1 (x.vertices ∷ [])) ends (middle ++ final) ∙ ap (Found 7) (ends-length x.edges)

  vertices_stand : get_or (written x) 3 0 ≡ x.vertices
  unfolding written field
  vertices_stand = refl

  laid_out : Writable x → layout_of (written x) ≡ Good (fields_of x)
  unfolding layout_of with_vertices with_edges
  laid_out w =
      let even : 2 * m % 2 ≡ 0 = omega arith in
      let half : 2 * m / 2 ≡ m = omega arith in
      simp (le-leb _ _ w.short, vertices_found, vertices_stand, edges_found, eq-eqb _ _ even, half) (laid-after w.channels)

  -- ---- what is read

  -- the bytes at a place, where there are any
  abbrev read_at : Bool → ℕ → ℕ → List ℕ
  read_at g size start = take (choose g (λ _. size) (λ _. 0)) (drop (choose g (λ _. start) (λ _. 0)) (written x))

  channels_back : Writable x → lines_of (read_at x.given (length (line_bytes x.channels)) (edges_end x + 3)) ≡ x.channels
  unfolding line_bytes
  channels_back w = go x.given refl
    where
      go : (g : Bool) → x.given ≡ g → lines_of (read_at g (length (line_bytes x.channels)) (edges_end x + 3)) ≡ x.channels
      go true e = ap lines_of (lines_stand e) ∙ lines_back x.channels w.channels
      go false e = lines_back [] none ∙ sym (w.bare e)

  floors_back : Writable x → read_at x.floored (length x.floors) (lines_end x + 3) ≡ x.floors
  floors_back w = go x.floored refl
    where
      go : (g : Bool) → x.floored ≡ g → read_at g (length x.floors) (lines_end x + 3) ≡ x.floors
      go true e = floors_stand e
      go false e = sym (w.floorless e)

  -- the content of what is written is what was to be written
  pub record ReadsBack : Type 0 where
    pub laid : layout_of (written x) ≡ Good (fields_of x)
    pub vertices : (content_of (written x) (fields_of x)).vertices ≡ x.vertices
    pub tails : (content_of (written x) (fields_of x)).tails ≡ map (λ e. e.0) x.edges
    pub heads : (content_of (written x) (fields_of x)).heads ≡ map (λ e. e.1) x.edges
    pub given : (content_of (written x) (fields_of x)).given ≡ x.given
    pub channels : lines_of (content_of (written x) (fields_of x)).field ≡ x.channels
    pub floored : (content_of (written x) (fields_of x)).floored ≡ x.floored
    pub floors : (content_of (written x) (fields_of x)).floors ≡ x.floors

  pub written_reads_back : Writable x → ReadsBack
  unfolding content_of fields_of
  written_reads_back w = record {
    laid = laid_out w;
    vertices = refl;
    tails = ap tails_of edges_stand ∙ ends-tails x.edges;
    heads = ap heads_of edges_stand ∙ ends-heads x.edges;
    given = refl;
    channels = channels_back w;
    floored = refl;
    floors = floors_back w;
  }
