-- The states of the pass over a graph's edges: after each k of them these are marked and counted, and what stands past them is as it was.
-- Assumes nothing.
use Rattle.counting.proofs.Prelude.{◌≡◌, refl, sym, ap, ap₂, ◌∙◌, Bool, true, false, not, List, ℕ, zero, suc, ◌+◌, ◌*◌, ◌<◌, ◌≤◌, arith}
use Rattle.counting.proofs.Prelude.{eqb, length, get_or, set, subst}
use native.Mathlib.Nat.{mul-le-mul_right, suc-mul}
use native.Mathlib.Numerals.{add-one}
use lib.Arith.{digits_div, digits_mod}
use Rattle.specification.specs.Count.{count, sum, indicator}
use Rattle.counting.proofs.Classes.{count-le}
use Rattle.specification.specs.Lent.{Filled}
use Rattle.specification.specs.Checks.{Content, edges_of}
use Rattle.specification.specs.Marks.{reduced_count}
use Rattle.specification.specs.Chart.{Plan, transitive_edge?, reduced_edges, edge_entry}
use Rattle.specification.specs.Numbers.{arrow_number}
use Rattle.specification.specs.Pass.{Form, State, state, stored, next, after, as_numbers, as_entries}
use Rattle.specification.specs.declared.EdgeEntry.{EdgeEntry}
use Rattle.lists.specs.Marking.{Marking, after_edges}
use Rattle.lists.proofs.Entered.{values, entered, entered_long, entered-filled}
use Rattle.lists.proofs.Written.{filled-once}

-- ---- forms: the mark is one of an edge's values, and is read from it

pub record Legible {E : Type 0} (f : Form E) : Type 0 where
  pub within : f.mark < f.width
  pub reads : (e : EdgeEntry) → f.marked? (f.value e f.mark) ≡ e.transitive

pub mark_back : (b : Bool) → eqb (indicator b) 1 ≡ b
mark_back true = refl
mark_back false = refl

pub numbers_legible : Legible as_numbers
unfolding arrow_number
numbers_legible = record { within = omega arith; reads = λ e. mark_back e.transitive }

pub entries_legible : Legible as_entries
entries_legible = record { within = omega arith; reads = λ e. refl }

-- ---- states, for any entries

module _ {E : Type 0} (f : Form E) where
  -- by the same entries there are the same states
  pub after_same : (g h : ℕ → EdgeEntry) (was : List E) (k : ℕ) → ((e : ℕ) → e < k → g e ≡ h e) → after f g was k ≡ after f h was k
  unfolding after next
  after_same g h was zero same = refl
  after_same g h was (suc k) same =
      ap₂ (λ (x : EdgeEntry) (s : State E). state (stored (f.value x) (k * f.width) f.width s.list)
      (s.reduced + indicator (not x.transitive))) (same k (omega arith)) (after_same g h was k (λ e l. same e (omega arith)))

  module _ (g : ℕ → EdgeEntry) (was : List E) where
    pub after_none : state was 0 ≡ after f g was 0
    unfolding after
    after_none = refl

    pub after_more : (k : ℕ) (s t : State E) → s ≡ after f g was k → t ≡ next f g k s → t ≡ after f g was (k + 1)
    unfolding after
    after_more k s t q e = e ∙ ap (next f g k) q ∙ ap (after f g was) (sym (add-one k))

    after-entered : (k : ℕ) → (after f g was k).list ≡ entered f.width (λ e. f.value (g e)) was k
    unfolding after next entered
    after-entered zero = refl
    after-entered (suc k) = ap (stored (f.value (g k)) (k * f.width) f.width) (after-entered k)

    pub after_long : (k : ℕ) → length (after f g was k).list ≡ length was
    after_long k = entered_long f.width (λ e. f.value (g e)) was k (after f g was k).list (after-entered k)

    pub after_filled : (k : ℕ) → k * f.width ≤ length was
        → Filled was (values f.width (λ e. f.value (g e))) (k * f.width) (after f g was k).list
    after_filled k room =
        subst (Filled was (values f.width (λ e. f.value (g e))) (k * f.width)) (sym (after-entered k))
        (entered-filled f.width (λ e. f.value (g e)) was k room)

    pub after-counted : (k : ℕ) → (after f g was k).reduced ≡ count k (λ e. not (g e).transitive)
    unfolding after next count sum
    after-counted zero = refl
    after-counted (suc k) = ap (λ (x : ℕ). x + indicator (not (g k).transitive)) (after-counted k)

    -- the count is within the edges that were passed
    pub after-few : (k : ℕ) → (after f g was k).reduced ≤ k
    after-few k = omega (arith, after-counted k, count-le k (λ e. not (g e).transitive))

-- an entry an edge: the next edge's is written at its own place, and counted unless the edge is transitive
pub entry_more : (g : ℕ → EdgeEntry) (was is : List EdgeEntry) (k r : ℕ) (x : EdgeEntry) (n : ℕ) → x ≡ g k
    → n ≡ r + indicator (not x.transitive) → state is r ≡ after as_entries g was k → state (set is k x) n ≡ after as_entries g was (k + 1)
unfolding next stored
entry_more g was is k r x n same more so_far =
    after_more as_entries g was k (state is r) (state (set is k x) n) so_far
    (ap₂ state (ap₂ (set is) (let place : k ≡ k * 1 + 0 = omega arith in place) same)
    (more ∙ ap (λ (y : EdgeEntry). r + indicator (not y.transitive)) same))

-- ---- the chart's edges

module _ {E : Type 0} (f : Form E) (legible : Legible f) (c : Content) (p : Plan) (was : List E)
    (room : edges_of c * f.width ≤ length was) where
  abbrev w : ℕ
  w = f.width

  abbrev g : ℕ → EdgeEntry
  g = edge_entry c p

  -- so many edges have room
  roomy : (k : ℕ) → k ≤ edges_of c → k * w ≤ length was
  roomy k le = omega (arith, mul-le-mul_right w le)

  counted : (k : ℕ) → (after_edges f c p was k).reduced ≡ count k (λ e. not (transitive_edge? c e))
  unfolding edge_entry
  counted k = after-counted f g was k

  marks : (k e : ℕ) (d : E) → k ≤ edges_of c → e < k
      → f.marked? (get_or (after_edges f c p was k).list (e * w + f.mark) d) ≡ transitive_edge? c e
  unfolding edge_entry
  marks k e d le l =
      let more : e + 1 ≤ k = omega arith in
      let below : e * w + f.mark < k * w = omega (arith, mul-le-mul_right w more, suc-mul e w, legible.within, add-one e) in
      ap f.marked? ((after_filled f g was k (roomy k le)).made (e * w + f.mark) d below
      ∙ ap₂ (λ (i j : ℕ). f.value (g i) j) (digits_div e legible.within) (digits_mod e legible.within))
      ∙ legible.reads (g e)

  -- THE PASS: what ends in the state after the last edge is right after each
  pub marking : (is : List E) (r : ℕ) → state is r ≡ after_edges f c p was (edges_of c) → Marking f c p was is r
  marking is r e = record {
    start = sym (after_none f g was);
    step = λ k l. sym (after_more f g was k (after_edges f c p was k) (next f g k (after_edges f c p was k)) refl refl);
    marks = marks;
    entries = λ k i d le l. (after_filled f g was k (roomy k le)).made i d l;
    counted = λ k le. counted k;
    later = λ k i d le l. (after_filled f g was k (roomy k le)).kept i d l;
    as_long = λ k le. after_long f g was k;
    ends = e;
  }

  -- a list that has the entries, with the count of the reduced edges, is that state
  pub filled-ends : (is : List E) (r : ℕ) → Filled was (values w (λ e. f.value (g e))) (edges_of c * w) is → r ≡ reduced_edges c
      → state is r ≡ after_edges f c p was (edges_of c)
  unfolding reduced_edges reduced_count transitive_edge?
  filled-ends is r h e =
      ap₂ state (filled-once was is (after_edges f c p was (edges_of c)).list (values w (λ e. f.value (g e))) (edges_of c * w) h
      (after_filled f g was (edges_of c) room)) (e ∙ sym (counted (edges_of c)))

-- what the pass leaves, by `Marking` alone: every entry, and the count of the reduced edges
module _ {E : Type 0} (f : Form E) (c : Content) (p : Plan) (was is : List E) (r : ℕ) (h : Marking f c p was is r) where
  pub marked-filled : Filled was (values f.width (λ e. f.value (edge_entry c p e))) (edges_of c * f.width) is
  marked-filled =
      subst (Filled was (values f.width (λ e. f.value (edge_entry c p e))) (edges_of c * f.width))
      (sym (ap (λ (s : State E). s.list) h.ends))
      (record {
        as_long = h.as_long (edges_of c) (omega arith);
        made = λ i d l. h.entries (edges_of c) i d (omega arith) l;
        kept = λ i d l. h.later (edges_of c) i d (omega arith) l;
      })

  pub marked_reduced : r ≡ reduced_edges c
  unfolding reduced_edges reduced_count transitive_edge?
  marked_reduced = ap (λ (s : State E). s.reduced) h.ends ∙ h.counted (edges_of c) (omega arith)
