-- The pass over the edges' bytes, one edge after the other. Assumes nothing.
use Rattle.counting.proofs.Prelude.{◌≡◌, refl, sym, ap, ap₂, ◌∙◌, subst, ◌≢◌, ◌⊎◌, ⊎_elim, Bool, true, false, true≢false, ◌||◌, List, ℕ}
use Rattle.counting.proofs.Prelude.{◌+◌, ◌*◌, ◌/◌, ◌%◌, ◌≤◌, ◌<◌, min, arith, eqb, leb, length, get_or, eqb-true, eqb-false, le-leb, lt-leb}
use native.Mathlib.Nat.{not-suc-le-zero, lt_of_lt_of_le}
use native.Mathlib.Numerals.{add-one}
use borrow.Author.Count.{below_more}
use lib.Seq.{get_or-set_other}
use Rattle.specification.specs.Count.{choose, some}
use Rattle.specification.specs.Sets.{bit, at, member, member?, inserted}
use Rattle.specification.specs.Graph.{edge_count, Edge, outsized?, strange?, tails_of, heads_of, alike?, duplicate?}
use Rattle.counting.proofs.Truth.{or_left, or_right}
use Rattle.counting.proofs.Choosing.{choose_yes, choose_no}
use Rattle.counting.proofs.Somes.{some_found, some_none}
use Rattle.masks.proofs.Bits.{bit_of_zero}
use Rattle.masks.proofs.Tables.{Put, put_law}
use Rattle.reach.specs.Steps.{Marked, Within}
use Rattle.reach.proofs.Marking.{marked_more}
use Rattle.reach.proofs.Ends.{tail_at, head_at, ends-counted}
use Rattle.scanning.specs.Scanned.{ends_refusal, Scanned, Scans}
use Rattle.masks.specs.Sets.{Blank}
use Rattle.scanning.proofs.Duplicates.{seen-before, not_seen}

more_edges : (tails heads : List ℕ) (i : ℕ)
    → duplicate? (i + 1) tails heads ≡ (duplicate? i tails heads || some i (alike? tails heads i))
unfolding duplicate? some
more_edges tails heads i = ap (λ (k : ℕ). some k (λ j. some j (alike? tails heads j))) (add-one i)

module _ (n : ℕ) (ends : List ℕ) where
  abbrev tails : List ℕ
  tails = tails_of ends

  abbrev heads : List ℕ
  heads = heads_of ends

  abbrev m : ℕ
  m = edge_count tails heads

  -- ---- after i edges

  pub record Scanning (i : ℕ) (t : List ℕ) (double : Bool) : Type 0 where
    pub marked : Marked 2 tails heads i t
    pub within : Within n i tails heads
    pub others : (k : ℕ) → 2 * n ≤ k → get_or t k 0 ≡ 0
    pub twice : double ≡ duplicate? i tails heads

  pub scanning_none : (t : List ℕ) → Blank t → Scanning 0 t false
  unfolding duplicate? some at member
  scanning_none t b = record {
    marked = record {
      only = λ u v h e. absurd (
          let z : at 2 t u v ≡ 0 = ap (λ (x : ℕ). bit x (v % 64)) (b.zero (2 * u + v / 64)) ∙ bit_of_zero (v % 64) in
          omega arith);
      all = λ j l. absurd (not-suc-le-zero l);
    };
    within = record { tail = λ j l. absurd (not-suc-le-zero l); head = λ j l. absurd (not-suc-le-zero l) };
    others = λ k _. b.zero k;
    twice = refl;
  }

  -- one edge more
  module _ (i : ℕ) (t : List ℕ) (d : Bool) (small : n ≤ 128) (room : 2 * n ≤ length t) (f : Scanning i t d)
      (u v : ℕ) (eu : u ≡ get_or ends (2 * i) 0) (ev : v ≡ get_or ends (2 * i + 1) 0) (hu : u < n) (hv : v < n) where
    at_tail : u ≡ get_or tails i 0
    at_tail = eu ∙ sym (tail_at ends i)

    at_head : v ≡ get_or heads i 0
    at_head = ev ∙ sym (head_at ends i)

    within_next : Within n (i + 1) tails heads
    within_next = record {
      tail = below_more (λ (j : ℕ). get_or tails j 0 < n) i f.within.tail (subst (λ (x : ℕ). x < n) at_tail hu);
      head = below_more (λ (j : ℕ). get_or heads j 0 < n) i f.within.head (subst (λ (x : ℕ). x < n) at_head hv);
    }

    double_next : (d || member? t (2 * u) v) ≡ duplicate? (i + 1) tails heads
    unfolding at
    double_next =
        ap₂ (λ (x y : Bool). x || y) f.twice (sym (alike (member? t (2 * u) v) refl)) ∙ sym (more_edges tails heads i)
      where
        here : at 2 t (get_or tails i 0) (get_or heads i 0) ≡ at 2 t u v
        here = sym (ap₂ (at 2 t) at_tail at_head)

        alike : (b : Bool) → eqb (at 2 t u v) 1 ≡ b → some i (alike? tails heads i) ≡ b
        alike true e =
            seen-before 2 tails heads i t f.marked (lt_of_lt_of_le (within_next.head i (omega arith)) small) (here ∙ eqb-true _ _ e)
        alike false e = not_seen 2 tails heads i t f.marked (λ z. eqb-false _ _ e (sym here ∙ z))

    others_next : (k : ℕ) → 2 * n ≤ k → get_or (inserted t (2 * u) v) k 0 ≡ 0
    unfolding inserted
    others_next k h = get_or-set_other t _ k _ 0 (omega arith) ∙ f.others k h

    pub scanning_more : (s : List ℕ) (b : Bool) → (b ≡ member? t (2 * u) v) × (s ≡ inserted t (2 * u) v) → Scanning (i + 1) s (d || b)
    scanning_more s b e = record {
      marked = marked_more 2 tails heads i t s (λ j l. lt_of_lt_of_le (within_next.head j l) small)
          (subst (λ (x : List ℕ). Put 2 t (get_or tails i 0) (get_or heads i 0) x)
          (sym (e.1 ∙ ap₂ (λ (a b : ℕ). inserted t (2 * a) b) at_tail at_head))
          (put_law 2 t (get_or tails i 0) (get_or heads i 0) (let h = within_next.head i (omega arith) in omega arith)
          (let g = within_next.tail i (omega arith) in let h = within_next.head i (omega arith) in omega arith)))
          f.marked;
      within = within_next;
      others = λ k h. ap (λ (x : List ℕ). get_or x k 0) e.1 ∙ others_next k h;
      twice = ap (λ (x : Bool). d || x) e.0 ∙ double_next;
    }

  -- an end of n or more
  pub scanned_strange : (i : ℕ) (t : List ℕ) (d : Bool) → Scanning i t d → i < length ends / 2
      → (n ≤ get_or ends (2 * i) 0) ⊎ (n ≤ get_or ends (2 * i + 1) 0) → Scanned n ends t 3
  unfolding strange? ends_refusal
  scanned_strange i t d f l o = record {
    answer = sym (choose_yes (some m (strange? n tails heads)) _ _ (some_found m (strange? n tails heads) i listed strange));
    bits = λ ne. absurd (ne refl);
    cut = λ _. record { first = i; listed = listed; strange = strange; before = f.within; marked = f.marked };
    others = f.others;
  }
    where
      listed : i < m
      listed = let c = ends-counted ends in omega arith

      strange : strange? n tails heads i ≡ true
      strange =
          ⊎_elim
          (λ h. or_left (leb n (get_or tails i 0)) (leb n (get_or heads i 0))
          (le-leb _ _ (subst (λ (x : ℕ). n ≤ x) (sym (tail_at ends i)) h)))
          (λ h. or_right (leb n (get_or tails i 0)) (leb n (get_or heads i 0))
          (le-leb _ _ (subst (λ (x : ℕ). n ≤ x) (sym (head_at ends i)) h)))
          o

  -- all of them
  scanned_whole : (t : List ℕ) (d : Bool) → n ≤ 128 → Scanning m t d → Scanned n ends t (choose d (λ _. 4) (λ _. 0))
  unfolding ends_refusal strange? Edge
  scanned_whole t d small f = record {
    answer = ap (λ (x : Bool). choose x (λ _. 4) (λ _. 0)) f.twice ∙ sym (choose_no (some m (strange? n tails heads)) _ _ none);
    bits = λ _ u v hu hv. (
      (λ e. f.marked.only u v hv e),
      (λ a. sym (ap₂ (at 2 t) a.2 a.3) ∙ f.marked.all a.0 a.1),
    );
    cut = λ three. absurd (four d three);
    others = f.others;
  }
    where
      four : (b : Bool) → choose {A = ℕ} b (λ _. 4) (λ _. 0) ≢ 3
      four true e = absurd (let z : ◌≡◌ {A = ℕ} 4 3 = e in omega arith)
      four false e = absurd (let z : ◌≡◌ {A = ℕ} 0 3 = e in omega arith)

      none : some m (strange? n tails heads) ≡ false
      none =
          some_none m (strange? n tails heads)
          (λ j l. ap₂ (λ (p q : Bool). p || q) (lt-leb _ _ (f.within.tail j l)) (lt-leb _ _ (f.within.head j l)))

  pub scanned_all : (i : ℕ) (t : List ℕ) (d : Bool) → n ≤ 128 → i ≡ length ends / 2 → Scanning i t d
      → Scanned n ends t (choose d (λ _. 4) (λ _. 0))
  scanned_all i t d small e f =
      scanned_whole t d small (subst (λ (k : ℕ). Scanning k t d) (e ∙ sym (ends-counted ends)) f)

  -- ---- the whole: too little room, too few or too many, or scanned

  counted : outsized? n m ≡ outsized? n (length ends / 2)
  counted = ap (outsized? n) (ends-counted ends)

  module _ (e : List ℕ) where
    module _ (room : 2 * min n 128 ≤ length e) where
      pub scans_outsized : outsized? n (length ends / 2) ≡ true → Scans n ends e 2 e
      scans_outsized o =
          let no : outsized? n m ≡ false → ⊥ = λ z. true≢false (sym o ∙ sym counted ∙ z) in
          record { short = λ k. absurd (omega arith); outsized = λ _ _. (refl, refl); checked = λ _ z. absurd (no z); long = refl }

      pub scans_checked : outsized? n (length ends / 2) ≡ false → (t : List ℕ) (r : ℕ) → Scanned n ends t r → length t ≡ length e
          → Scans n ends e r t
      scans_checked o t r f l =
          let no : outsized? n m ≡ true → ⊥ = λ z. true≢false (sym z ∙ counted ∙ o) in
          record { short = λ k. absurd (omega arith); outsized = λ _ z. absurd (no z); checked = λ _ _. f; long = l }
