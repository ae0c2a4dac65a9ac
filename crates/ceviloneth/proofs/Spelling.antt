-- What is written into a part of a list, and the session that the list spells then. Assumes nothing.
use Rattle.counting.proofs.Prelude.{◌≡◌, refl, sym, ap, ap₂, ◌∙◌, List, ℕ, ◌+◌, ◌<◌, ◌≤◌, ◌++◌, arith, length, get_or, set, take}
use Rattle.counting.proofs.Prelude.{drop, length-drop}
use lib.Seq.{length-take-le, get_or-take, get_or-drop, ext_get_or, take_at, drop_at}
use borrow.Rule.Slice.PartMut.{put_mid, post_of, same_len_mid}
use Rattle.std.proofs.lemmas.List.{length-set, get_or-set_same, get_or-set_other}
use Rattle.std.proofs.lemmas.Slice.{take-put_mid_below, drop-put_mid}
use Rattle.editing.specs.declared.Session.{Session}
use Rattle.ceviloneth.specs.State.{session_of}
use Rattle.ceviloneth.specs.Steps.{Stored}

-- ---- a part of a list

long : (s : List ℕ) (first : ℕ) → first + 256 ≤ length s → length (take 256 (drop first s)) ≡ 256
long s first h = length-take-le 256 (drop first s) (omega (arith, length-drop first s))

part : (s : List ℕ) (first i : ℕ) → i < 256 → get_or (take 256 (drop first s)) i 0 ≡ get_or s (first + i) 0
part s first i h = get_or-take 256 (drop first s) i 0 h ∙ get_or-drop first s i 0

-- two lists have the same part where they have the same numbers there
same_part : (s t : List ℕ) (first : ℕ) → first + 256 ≤ length s → first + 256 ≤ length t
    → ((i : ℕ) → i < first + 256 → get_or s i 0 ≡ get_or t i 0) → take 256 (drop first s) ≡ take 256 (drop first t)
same_part s t first h k same =
    ext_get_or 0 (take 256 (drop first s)) (take 256 (drop first t)) (long s first h ∙ sym (long t first k))
    (λ i l.
    let b : i < 256 = omega (arith, l, long s first h) in
    part s first i b ∙ same (first + i) (omega arith) ∙ sym (part t first i b))

-- ---- the list with 256 other numbers from `first` on

module _ (s ys : List ℕ) (first : ℕ) (room : first + 256 ≤ length s) (many : length ys ≡ 256) where
  abbrev written : List ℕ
  written = put_mid first 256 s ys

  as_long : length written ≡ length s
  as_long = same_len_mid first 256 s ys (many ∙ sym (long s first room))

  in_part : take 256 (drop first written) ≡ ys
  in_part =
      ap (take 256) (drop_at (take first s) (ys ++ post_of first 256 s) first (length-take-le first s (omega arith)))
      ∙ take_at ys (post_of first 256 s) 256 many

  before : (i d : ℕ) → i < first → get_or written i d ≡ get_or s i d
  before i d l =
      sym (get_or-take first written i d l)
      ∙ ap (λ (z : List ℕ). get_or z i d) (take-put_mid_below first 256 s ys first (omega arith) (omega arith))
      ∙ get_or-take first s i d l

  after : (i d : ℕ) → first + 256 ≤ i → get_or written i d ≡ get_or s i d
  after i d l =
      let e : i + 0 ≡ i = omega arith in
      rw e at
      (sym (get_or-drop i written 0 d)
      ∙ ap (λ (z : List ℕ). get_or z 0 d) (drop-put_mid first 256 s ys i l (omega arith) many)
      ∙ get_or-drop i s 0 d)

-- ---- a session

pub spelt : (s e r : List ℕ) → e ≡ take 256 (drop 2 s) → r ≡ take 256 (drop 258 s)
    → record { vertices = get_or s 0 0; count = get_or s 1 0; edges = e; reach = r } ≡ session_of s
unfolding session_of
spelt s e r h k = rw (h, k) refl

abbrev made : ℕ → ℕ → List ℕ → List ℕ → Session
made n m e r = record { vertices = n; count = m; edges = e; reach = r }

module _ (was : List ℕ) (n m : ℕ) (e r : List ℕ) (room : 514 ≤ length was) (many-e : length e ≡ 256) (many-r : length r ≡ 256) where
  abbrev counted : List ℕ
  counted = set (set was 0 n) 1 m

  abbrev half : List ℕ
  half = put_mid 2 256 counted e

  abbrev whole : List ℕ
  whole = put_mid 258 256 half r

  len : length counted ≡ length was
  len = length-set (set was 0 n) 1 m ∙ length-set was 0 n

  len-half : length half ≡ length was
  len-half = as_long counted e 2 (omega (arith, len)) many-e ∙ len

  len-whole : length whole ≡ length was
  len-whole = as_long half r 258 (omega (arith, len-half)) many-r ∙ len-half

  low : (i d : ℕ) → i < 258 → get_or whole i d ≡ get_or half i d
  low i d l = before half r 258 (omega (arith, len-half)) many-r i d l

  first : (i d : ℕ) → i < 2 → get_or whole i d ≡ get_or counted i d
  first i d l = low i d (omega arith) ∙ before counted e 2 (omega (arith, len)) many-e i d l

  kept : (i d : ℕ) → 514 ≤ i → get_or whole i d ≡ get_or was i d
  kept i d l =
      after half r 258 (omega (arith, len-half)) many-r i d l
      ∙ after counted e 2 (omega (arith, len)) many-e i d (omega arith)
      ∙ get_or-set_other (set was 0 n) 1 i m d (λ z. omega arith)
      ∙ get_or-set_other was 0 i n d (λ z. omega arith)

  -- the list as the code writes it
  pub stored : Stored was (made n m e r) whole
  stored = record {
    as_long = len-whole;
    past = kept;
    spells =
        sym (spelt whole e r
        (sym
        (same_part whole half 2 (omega (arith, len-whole)) (omega (arith, len-half)) (λ i l. low i 0 l)
        ∙ in_part counted e 2 (omega (arith, len)) many-e))
        (sym (in_part half r 258 (omega (arith, len-half)) many-r)))
        ∙ ap₂ (λ (x y : ℕ). made x y e r)
        (first 0 0 (omega arith)
        ∙ get_or-set_other (set was 0 n) 1 0 m 0 (λ z. omega arith)
        ∙ get_or-set_same was 0 n 0 (omega arith))
        (first 1 0 (omega arith) ∙ get_or-set_same (set was 0 n) 1 m 0 (omega (arith, length-set was 0 n)));
  }
