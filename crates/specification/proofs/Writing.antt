-- A list of bytes is well laid out exactly when it is the fields of a record written one after the other. Assumes nothing.
use mathlib.Core.Path.{◌≡◌, refl, sym, ap, ap₂, ◌∙◌, subst}
use mathlib.Core.Logic.{◌↔◌}
use mathlib.Core.Bool.{Bool, true, false, true≢false, false≢true}
use mathlib.Core.List.{List, [], ◌∷◌, ◌++◌, append-nil}
use Prim.Native.Nat.{ℕ, zero, suc, ◌+◌, ◌/◌, ◌%◌, ◌≤◌, ◌<◌}
use native.Mathlib.Omega.{arith}
use lib.Arith.{digits_div, digits_mod}
use lib.Dec.{eqb, leb}
use lib.ListN.{length, get_or, take, drop, drop_of_length-le, length-drop, take-append-drop}
use lib.Seq.{length-take-le, drop-drop}
use borrow.Author.Tests.{eqb-true, leb-true}
use Rattle.specification.specs.Count.{choose}
use Rattle.specification.specs.Layout.{Field}
use Rattle.specification.specs.Layout.{Found, Missing}
use Rattle.specification.specs.Layout.{Fields}
use Rattle.specification.specs.Layout.{Good}
use Rattle.specification.specs.Limits.{most_bytes}
use Rattle.specification.specs.Layout.{size_at, field_at, lined, bare_fields, lined_fields, floored_fields}
use Rattle.specification.specs.Layout.{with_floors, after_lines, with_lines, after_edges, with_edges, with_vertices, layout_of}
use Rattle.specification.specs.Writing.{Draft, field, end_bytes, line_bytes, channel_field, floor_field, written, Bytes, Lines, Writable}
use Rattle.specification.specs.Writing.{fields_of}
use Rattle.specification.specs.Writing.Lines.{none, more}
use Rattle.specification.proofs.Placing.{byte, Inside, found_inside, bad_good, good_same, chosen}
use Rattle.specification.proofs.Fitting.{bytes_none, bytes-cons, bytes_left, bytes-append, bytes-part, bytes-field, bytes-lines}
use Rattle.specification.proofs.Written.{ends-length, written-length, written_reads_back}

-- ---- one field

module _ (tag : ℕ) (b : List ℕ) (at start size : ℕ) (i : Inside tag b at start size) where
  abbrev part : List ℕ
  part = take size (drop start b)

  found_length : length part ≡ size
  found_length = length-take-le size (drop start b) (omega (arith, i.ends, length-drop start b))

  -- a field that is found was written there
  found_written : Bytes b → drop at b ≡ field tag part ++ drop (start + size) b
  unfolding field size_at
  found_written bytes =
      let h = i.ends in
      let s = i.begins in
      let tagged = i.tagged in
      let sized = found_length ∙ i.sized in
      let high : length part / 256 ≡ get_or b (at + 1) 0 = ap (λ k. k / 256) sized ∙ digits_div (get_or b (at + 1) 0) (bytes (at + 2)) in
      let low : length part % 256 ≡ get_or b (at + 2) 0 = ap (λ k. k % 256) sized ∙ digits_mod (get_or b (at + 1) 0) (bytes (at + 2)) in
      let split : drop start b ≡ part ++ drop size (drop start b) = sym (take-append-drop size (drop start b)) in
      let rest = drop-drop size start b in
      let first = byte b at (at + 1) refl (omega arith) in
      let second = byte b (at + 1) (at + 2) (omega arith) (omega arith) in
      let third = byte b (at + 2) start (omega arith) (omega arith) in
      cc

-- ---- edges and channels

ends_read : (s : List ℕ) → length s % 2 ≡ 0 → (es : List (ℕ × ℕ)) × (s ≡ end_bytes es)
unfolding end_bytes
ends_read [] e = ([], refl)
ends_read (u ∷ []) e = absurd (omega (arith, e))
ends_read (u ∷ v ∷ s) e = let r = ends_read s (omega (arith, e)) in ((u, v) ∷ r.0, ap (λ l. u ∷ v ∷ l) r.1)

-- the rest of a line, and the lines that follow it
record Rest (left : ℕ) (s : List ℕ) : Type 0 where
  line : List ℕ
  next : List (List ℕ)
  size : length line ≡ left
  bytes : Bytes line
  lines : Lines next
  whole : s ≡ line ++ line_bytes next

lines-read : (left : ℕ) (s : List ℕ) → Bytes s → lined left s ≡ true → Rest left s
unfolding lined line_bytes
lines-read zero [] b e = record { line = []; next = []; size = refl; bytes = bytes_none; lines = none; whole = refl }
lines-read zero (zero ∷ s) b e = absurd (false≢true e)
lines-read zero (suc k ∷ s) b e =
    let r = lines-read (suc k) s (λ j. b (suc j)) e in
    let z = r.size in
    record {
      line = [];
      next = r.line ∷ r.next;
      size = refl;
      bytes = bytes_none;
      lines = more {l = r.line} (omega arith) (omega (arith, b 0)) r.bytes r.lines;
      whole = cc;
    }
lines-read (suc left) [] b e = absurd (false≢true e)
lines-read (suc left) (v ∷ s) b e =
    let r = lines-read left s (λ j. b (suc j)) e in
    record {
      line = v ∷ r.line;
      next = r.next;
      size = ap suc r.size;
      bytes = bytes-cons v r.line (b 0) r.bytes;
      lines = r.lines;
      whole = ap (λ t. v ∷ t) r.whole;
    }

-- no vertex is to come: all that is there is lines
all_lines : (s : List ℕ) (r : Rest 0 s) → s ≡ line_bytes r.next
all_lines s r = r.whole ∙ ap (λ l. l ++ line_bytes r.next) (empty r.line r.size)
  where
    empty : (l : List ℕ) → length l ≡ 0 → l ≡ []
    empty [] e = refl
    empty (v ∷ l) e = absurd (omega (arith, e))

-- ---- the whole

-- the given channels, or that none are given
record Told : Type 0 where
  given : Bool
  channels : List (List ℕ)
  lines : Lines channels
  bare : given ≡ false → channels ≡ []

-- the floors, or that there are none
record Raised : Type 0 where
  floored : Bool
  floors : List ℕ
  bytes : Bytes floors
  floorless : floored ≡ false → floors ≡ []

abbrev told : Told → List ℕ
told c = channel_field c.given c.channels

abbrev raised : Raised → List ℕ
raised h = floor_field h.floored h.floors

abbrev draft : ℕ → List (ℕ × ℕ) → Told → Raised → Draft
draft n es c h =
    record { vertices = n; edges = es; given = c.given; channels = c.channels; floored = h.floored; floors = h.floors }

-- what is bytes when it is written can be written
writable : (n : ℕ) (es : List (ℕ × ℕ)) (c : Told) (h : Raised) → n < 256 → Bytes (written (draft n es c h))
    → length (written (draft n es c h)) ≤ most_bytes → Writable (draft n es c h)
unfolding written field
writable n es c h few bytes short = record {
  vertices = few;
  edges = bytes_left (end_bytes es) (told c ++ raised h) (λ i. bytes (suc (suc (suc (suc (suc (suc (suc i))))))));
  channels = c.lines;
  bare = c.bare;
  floors = h.bytes;
  floorless = h.floorless;
  short = short;
}

module _ (b : List ℕ) (bytes : Bytes b) (f : Fields) where
  abbrev RaisedAt : ℕ → Type 0
  RaisedAt at = (h : Raised) × (drop at b ≡ raised h)

  floors-laid : (g : Fields) (at : ℕ) → with_floors b g (field_at 4 b at) ≡ Good f → RaisedAt at
  unfolding with_floors floor_field
  floors-laid g at = go (field_at 4 b at) refl
    where
      go : (fd : Field) → field_at 4 b at ≡ fd → with_floors b g fd ≡ Good f → RaisedAt at
      go Missing i p = absurd (bad_good f p)
      go (Found s l) i p =
          let t = take l (drop s b) in
          let ends : s + l ≡ length b = eqb-true _ _ (chosen (eqb (s + l) (length b)) (Good (floored_fields g s l)) f p).0 in
          let last : drop (s + l) b ≡ [] = drop_of_length-le b {i = s + l} (omega arith) in
          let here = found_written 4 b at s l (found_inside 4 b at s l i) bytes in (
            record { floored = true; floors = t; bytes = bytes-part b s l bytes; floorless = λ z. absurd (true≢false z) },
            here ∙ ap (λ k. field 4 t ++ k) last ∙ append-nil (field 4 t),
          )

  end_laid : (g : Fields) (end : ℕ) → after_lines b g end ≡ Good f → RaisedAt end
  unfolding after_lines floor_field
  end_laid g end = go (eqb end (length b)) refl
    where
      go : (t : Bool) → eqb end (length b) ≡ t → choose t (λ _. Good g) (λ _. with_floors b g (field_at 4 b end)) ≡ Good f → RaisedAt end
      go true t p =
          let ends : end ≡ length b = eqb-true _ _ t in
          (record { floored = false; floors = []; bytes = bytes_none; floorless = λ _. refl }, drop_of_length-le b {i = end} (omega arith))
      go false t p = floors-laid g end p

  abbrev ToldAt : ℕ → Type 0
  ToldAt at = (c : Told) × (h : Raised) × (drop at b ≡ told c ++ raised h)

  lines-laid : (n e m end : ℕ) → after_edges b n e m end ≡ Good f → ToldAt end
  unfolding after_edges with_lines channel_field
  lines-laid n e m end = go (field_at 3 b end) refl
    where
      go : (fd : Field) → field_at 3 b end ≡ fd → with_lines b n e m end fd ≡ Good f → ToldAt end
      go Missing i p =
          let h = end_laid (bare_fields n e m) end p in
          (record { given = false; channels = []; lines = none; bare = λ _. refl }, h.0, h.1)
      go (Found s l) i p =
          let t = take l (drop s b) in
          let q = chosen (lined 0 t) (after_lines b (lined_fields n e m s l) (s + l)) f p in
          let r = lines-read 0 t (bytes-part b s l bytes) q.0 in
          let h = end_laid (lined_fields n e m s l) (s + l) q.1 in
          let here = found_written 3 b end s l (found_inside 3 b end s l i) bytes in (
            record { given = true; channels = r.next; lines = r.lines; bare = λ z. absurd (true≢false z) },
            h.0,
            here ∙ ap₂ (λ (x y : List ℕ). field 3 x ++ y) (all_lines t r) h.1,
          )

  abbrev EdgesAt : ℕ → Type 0
  EdgesAt at = (es : List (ℕ × ℕ)) × (c : Told) × (h : Raised) × (drop at b ≡ field 2 (end_bytes es) ++ (told c ++ raised h))

  edges-laid : (n at : ℕ) → with_edges b n (field_at 2 b at) ≡ Good f → EdgesAt at
  unfolding with_edges
  edges-laid n at = go (field_at 2 b at) refl
    where
      go : (fd : Field) → field_at 2 b at ≡ fd → with_edges b n fd ≡ Good f → EdgesAt at
      go Missing i p = absurd (bad_good f p)
      go (Found s l) i p =
          let q = chosen (eqb (l % 2) 0) (after_edges b n s (l / 2) (s + l)) f p in
          let inside = found_inside 2 b at s l i in
          let even = ap (λ k. k % 2) (found_length 2 b at s l inside) ∙ eqb-true _ _ q.0 in
          let r = ends_read (take l (drop s b)) even in
          let c = lines-laid n s (l / 2) (s + l) q.1 in
          (r.0, c.0, c.1, found_written 2 b at s l inside bytes ∙ ap₂ (λ (x y : List ℕ). field 2 x ++ y) r.1 c.2)

  is_written : layout_of b ≡ Good f → (x : Draft) × Writable x × (b ≡ written x)
  unfolding layout_of with_vertices written
  is_written p = go (field_at 1 b 0) refl whole.1
    where
      whole : (leb (length b) most_bytes ≡ true) × (with_vertices b (field_at 1 b 0) ≡ Good f)
      whole = chosen (leb (length b) most_bytes) (with_vertices b (field_at 1 b 0)) f p

      go : (fd : Field) → field_at 1 b 0 ≡ fd → with_vertices b fd ≡ Good f → (x : Draft) × Writable x × (b ≡ written x)
      go Missing i q = absurd (bad_good f q)
      go (Found s l) i q =
          let w = chosen (eqb l 1) (with_edges b (get_or b s 0) (field_at 2 b (s + l))) f q in
          let r = edges-laid (get_or b s 0) (s + l) w.1 in
          let c = r.1 in
          let h = r.2 in
          let inside = found_inside 1 b 0 s l i in
          let one : l ≡ 1 = eqb-true _ _ w.0 in
          let first = byte b s (s + 1) refl (omega (arith, inside.ends)) in
          let n : take l (drop s b) ≡ get_or b s 0 ∷ [] = ap (λ k. take k (drop s b)) one ∙ ap (take 1) first in
          let x = draft (get_or b s 0) r.0 c h in
          let same : b ≡ written x = found_written 1 b 0 s l inside bytes ∙ ap₂ (λ (u v : List ℕ). field 1 u ++ v) n r.3 in
          let short : length b ≤ most_bytes = leb-true _ _ whole.0 in
          (x, writable (get_or b s 0) r.0 c h (bytes s) (subst Bytes same bytes) (omega (arith, ap length same)), same)

-- ---- the theorem

-- a field that may be left out
channel-bytes : (given : Bool) (ls : List (List ℕ)) → Lines ls → length (channel_field given ls) ≤ most_bytes
    → Bytes (channel_field given ls)
unfolding channel_field field
channel-bytes true ls w h = bytes-field 3 (line_bytes ls) (omega arith) (omega (arith, h)) (bytes-lines ls w)
channel-bytes false ls w h = bytes_none

floor_bytes : (floored : Bool) (s : List ℕ) → Bytes s → length (floor_field floored s) ≤ most_bytes → Bytes (floor_field floored s)
unfolding floor_field field
floor_bytes true s w h = bytes-field 4 s (omega arith) (omega (arith, h)) w
floor_bytes false s w h = bytes_none

written-bytes : (x : Draft) → Writable x → Bytes (written x)
unfolding written
written-bytes x w =
    let n = bytes-field 1 (x.vertices ∷ []) (omega arith) (omega arith) (bytes-cons x.vertices [] w.vertices bytes_none) in
    let ends = end_bytes x.edges in
    let whole = written-length x in
    let short = w.short in
    let e = bytes-field 2 ends (omega arith) (omega (arith, ends-length x.edges)) w.edges in
    let middle = channel_field x.given x.channels in
    let final = floor_field x.floored x.floors in
    let c = channel-bytes x.given x.channels w.channels (omega arith) in
    let h = floor_bytes x.floored x.floors w.floors (omega arith) in
    bytes-append (field 1 (x.vertices ∷ [])) (field 2 ends ++ (middle ++ final)) n
    (bytes-append (field 2 ends) (middle ++ final) e (bytes-append middle final c h))

-- a list is of bytes and well laid out, with its fields where f says, exactly when it is a draft's fields written one after the other and
-- f says where these stand
pub well_laid_out_is_written : (b : List ℕ) (f : Fields)
    → (Bytes b × (layout_of b ≡ Good f)) ↔ ((x : Draft) × Writable x × (b ≡ written x) × (f ≡ fields_of x))
well_laid_out_is_written b f = (λ h. there (is_written b h.0 f h.1) h.1, λ h. back h.0 h.1 h.2 h.3)
  where
    laid : (x : Draft) → Writable x → b ≡ written x → layout_of b ≡ Good (fields_of x)
    laid x w e = ap layout_of e ∙ (written_reads_back x w).laid

    there : ((x : Draft) × Writable x × (b ≡ written x)) → layout_of b ≡ Good f
        → (x : Draft) × Writable x × (b ≡ written x) × (f ≡ fields_of x)
    there r p = (r.0, r.1, r.2, good_same f (fields_of r.0) (sym p ∙ laid r.0 r.1 r.2))

    back : (x : Draft) → Writable x → b ≡ written x → f ≡ fields_of x → Bytes b × (layout_of b ≡ Good f)
    back x w e g = (subst Bytes (sym e) (written-bytes x w), laid x w e ∙ ap Good (sym g))
