-- What the whole answers, from what the levels do. Assumes nothing.
use Rattle.counting.proofs.Prelude.{◌≡◌, refl, sym, ap, ◌∙◌, subst, ◌≢◌, ◌⊎◌, inl, inr, ⊎_elim, Bool, true, false, true≢false, List, ℕ}
use Rattle.counting.proofs.Prelude.{◌+◌, ◌*◌, ◌≤◌, ◌<◌, arith, length, get_or, ne_eqb}
use native.Mathlib.Decide.{ℕ_discrete}
use Rattle.counting.proofs.Truth.{lt-or-le}
use Rattle.counting.proofs.Above.{above_each, above-le}
use Rattle.specification.specs.Count.{choose}
use Rattle.specification.specs.Sets.{has?}
use Rattle.specification.specs.Graph.{edge?, tails_of, heads_of, refusal, reachable?}
use Rattle.specification.specs.Checks.{unfloored?, floor_at}
use Rattle.specification.specs.Rows.{row, rows_used}
use Rattle.specification.specs.Limits.{longest_path}
use Rattle.specification.specs.Parts.{present?, bytes_of}
use Rattle.std.specs.Prelude.{Option}
use Rattle.std.specs.Borrow.{Bor}
use Rattle.rows.specs.Levels.{level}
use Rattle.rows.proofs.Graphs.{acyclic_order}
use Rattle.rows.proofs.Levels.{row-level, used_level, used_low, levels_below}
use Rattle.rows.proofs.Same.{levels_same, row_same, used_same}
use Rattle.descent.specs.Promise.{Descent, edges_refusal, no_descent, Sized, Descended, Left, Descends}
use Rattle.descent.specs.Steps.Closed.{Inside, Prefixes}
use Rattle.descent.proofs.Refusals.{edges-accepted, edges-answers}
use Rattle.descent.proofs.Graphs.{graph_inside, same_edges}
use Rattle.floors.specs.Steps.{Liftable, Settled}
use Rattle.floors.specs.Promise.{after_size, raised_refusal, spread, Roomy, Raises}

-- ---- by whether there are floors

pub raises_as : {n : ℕ} {ends e b t l p : List ℕ} {r : Descent} {e' b' t' l' p' : List ℕ} (floors is : Option (Bor (List ℕ))) → floors ≡ is
    → Raises n ends (present? is) (bytes_of is) e b t l p r e' b' t' l' p'
    → Raises n ends (present? floors) (bytes_of floors) e b t l p r e' b' t' l' p'
raises_as {n} {ends} {e} {b} {t} {l} {p} {r} {e'} {b'} {t'} {l'} {p'} floors is q g =
    subst (λ (x : Option (Bor (List ℕ))). Raises n ends (present? x) (bytes_of x) e b t l p r e' b' t' l' p') (sym q) g

-- ---- the levels are found

module _ (n : ℕ) (ends e b t l p : List ℕ) (d : Descent) (e' b' t' l' p' : List ℕ)
    (g : Descends n ends e b t l p d e' b' t' l' p') where
  abbrev tails : List ℕ
  tails = tails_of ends

  abbrev heads : List ℕ
  heads = heads_of ends

  abbrev E : ℕ → ℕ → Bool
  E = edge? tails heads

  abbrev k : ℕ
  k = edges_refusal n tails heads

  -- what the lists leave of a refusal of the edges
  left_of : Sized n e b t l p → k ≢ 0 → Left k n ends e b t l p e' b' t' l' p'
  left_of s ne =
      let q = g.answer s in
      subst (λ (x : ℕ). Left x n ends e b t l p e' b' t' l' p') q (g.left (λ z. ne (sym q ∙ z)))

  -- ---- without floors

  plain_row : (floors : List ℕ) (v : ℕ) → v < n → row E (floor_at false floors) n v ≡ level E n v
  plain_row floors = row-level E (floor_at false floors) n (λ v h. refl)

  pub raises_plain : (floors : List ℕ) → Raises n ends false floors e b t l p d e' b' t' l' p'
  unfolding raised_refusal unfloored?
  raises_plain floors = record {
    answer = λ s. g.answer s.masks ∙ same (ℕ_discrete k 2);
    short = λ s. g.short (λ z. s (record { masks = z; rows = λ x. absurd (true≢false (sym x)) }));
    none = g.none;
    made = λ z. let m = g.made z in record {
      closure = m.closure;
      longer = m.longer;
      past = m.past;
      rows = λ v h. m.rows v h ∙ sym (plain_row floors v h);
      counted = m.used ∙ sym (used_level E (floor_at false floors) n (λ v h. refl));
      below = λ i v hi hv. let w = m.below i v hi hv in (
        (λ x. let y = w.0 x in (y.0, omega (arith, y.1, plain_row floors v y.0))),
        λ x. w.1 (x.0, omega (arith, x.1, plain_row floors v x.0)),
      );
    };
    sets_past = g.rows_past;
    left = λ s ne. left_of s.masks ne;
    flat = λ s z ne. absurd (ne (g.answer s.masks ∙ z));
    kept = g.kept;
    past = g.past;
    long = g.long;
  }
    where
      same : Dec (k ≡ 2) → k ≡ after_size k false
      same (yes q) = rw q refl
      same (no ne) = sym (ap (λ (x : Bool). choose {A = ℕ} x (λ _. 2) (λ _. k)) (ne_eqb k 2 ne))

  -- ---- with floors

  module _ (floors : List ℕ) (room : spread n ≤ length b) where
    roomy : Sized n e b t l p → Roomy n true e b t l p
    roomy s = record { masks = s; rows = λ _. room }

    -- the list is as long as it must be, or the answer is 8
    has_room : d.refusal ≢ 8 → (x y : ℕ) → (Sized n e b t l p → x ≤ y) → x ≤ y
    has_room ne x y f =
        ⊎_elim (λ h. absurd (ne (g.short (λ s. omega (arith, f s, h))).0)) (λ h. h) (lt-or-le y x)

    -- the edges are refused so, or the lists are too short
    told : (x : ℕ) → d.refusal ≢ 8 → (Sized n e b t l p → k ≡ x) → k ≡ x
    told x ne f = go (ℕ_discrete k x)
      where
        go : Dec (k ≡ x) → k ≡ x
        go (yes q) = q
        go (no o) = absurd (ne (g.short (λ s. o (f s))).0)

    -- refused with r, which is 12 or the answer of the edges
    refused : (r : Descent) → r ≡ no_descent r.refusal → r.refusal ≢ 0
        → (Sized n e b t l p → r.refusal ≡ after_size k (unfloored? n true floors))
        → ((Sized n e b t l p → ⊥) → r.refusal ≡ 8) → Raises n ends true floors e b t l p r e' b' t' l' p'
    unfolding raised_refusal
    refused r q ne answer short = record {
      answer = λ s. answer s.masks;
      short = λ s. let z = g.short (λ m. s (roomy m)) in (short (λ m. s (roomy m)), z.1, z.2, z.3, z.4, z.5);
      none = λ _. q;
      made = λ z. absurd (ne z);
      sets_past = λ z. absurd (ne z);
      left = λ s o. left_of s.masks o;
      flat = λ s z _.
          let y = g.answer s.masks ∙ z in
          let m = g.made y in
          record {
            levels = d.used;
            descended = record {
              closure = m.closure;
              longer = m.longer;
              past = m.past;
              rows = m.rows;
              used = m.used;
              below = m.below;
            };
            past = g.rows_past y;
          };
      kept = g.kept;
      past = g.past;
      long = g.long;
    }

    -- 8 and 2
    pub raises_first : (d.refusal ≡ 8) ⊎ (d.refusal ≡ 2) → Raises n ends true floors e b t l p d e' b' t' l' p'
    raises_first (inl q) =
        refused d (g.none ne) ne (λ s. absurd (omega (arith, g.answer s, q, edges-answers n tails heads))) (λ _. q)
      where
        ne : d.refusal ≢ 0
        ne z = omega (arith, z, q)
    raises_first (inr q) =
        refused d (g.none ne) ne (λ s. q ∙ sym (two (sym (g.answer s) ∙ q))) (λ s. (g.short s).0)
      where
        ne : d.refusal ≢ 0
        ne z = omega (arith, z, q)

        two : k ≡ 2 → after_size k (unfloored? n true floors) ≡ 2
        two e = rw e refl

    module _ (long : d.refusal ≢ 8) (sized : d.refusal ≢ 2) where
      later : Sized n e b t l p → (x : Bool) → unfloored? n true floors ≡ x
          → after_size k (unfloored? n true floors) ≡ choose x (λ _. 12) (λ _. k)
      later s x q = rw (ne_eqb k 2 (λ z. sized (g.answer s ∙ z)), q) refl

      -- 12
      pub raises_unfloored : (r : Descent) → r ≡ no_descent 12 → unfloored? n true floors ≡ true
          → Raises n ends true floors e b t l p r e' b' t' l' p'
      raises_unfloored r q u =
          let z : r.refusal ≡ 12 = ap (λ (x : Descent). x.refusal) q in
          refused r (q ∙ ap no_descent (sym z)) (λ y. omega (arith, y, z)) (λ s. z ∙ sym (later s true u))
          (λ s. absurd (long (g.short s).0))

      -- 3 to 5
      pub raises_edges : unfloored? n true floors ≡ false → d.refusal ≢ 0 → Raises n ends true floors e b t l p d e' b' t' l' p'
      raises_edges u ne = refused d (g.none ne) ne (λ s. g.answer s ∙ sym (later s false u)) (λ s. (g.short s).0)

      -- nothing
      module _ (u : unfloored? n true floors ≡ false) (zero : d.refusal ≡ 0) where
        passed : k ≡ 0
        passed = told 0 long (λ s. sym (g.answer s) ∙ zero)

        accepted : refusal n tails heads ≡ 0
        accepted = (edges-accepted n tails heads passed).0

        made : Descended n tails heads d e' b' t' l' p'
        made = g.made zero

        inside : Inside e' n
        inside = graph_inside n tails heads e' accepted made.closure.edge_bits

        same : (x v : ℕ) → x < n → v < n → has? 2 e' x v ≡ E x v
        same = same_edges n tails heads e' accepted made.closure.edge_bits

        low : (v : ℕ) → v < n → level E n v < n
        low = levels_below E (reachable? n tails heads) n (acyclic_order n tails heads accepted (edges-accepted n tails heads passed).1)
            inside.small

        few : d.used ≤ n
        few = omega (arith, made.used, above-le n (λ v. true) (level E n) n (λ v h t. low v h))

        level-here : (v : ℕ) → v < n → level (has? 2 e') n v ≡ level E n v
        level-here = levels_same (has? 2 e') E n same longest_path

        by_level : Prefixes e' n d.used b'
        by_level = record {
          few = few;
          members = λ r v hr hv. let w = made.below r v hr hv in (
            (λ x. let y = w.0 x in (y.0, omega (arith, y.1, level-here v y.0))),
            λ x. w.1 (x.0, omega (arith, x.1, level-here v x.0)),
          );
          all = λ v h. omega (arith, level-here v h, made.used, above_each n (λ x. true) (level E n) v h refl);
        }

        wide : 2 * (n + 127) + 2 ≤ length b'
        wide = omega (arith, room, g.long.1, inside.small)

        pub liftable : Liftable e' b' n d.used (length p')
        liftable = record {
          inside = inside;
          edges = has_room long (2 * n) (length e') (λ s. omega (arith, s.edges, g.long.0, inside.small));
          levels = by_level;
          sets = omega (arith, wide, few);
          room = has_room long (4 * n) (length p') (λ s. omega (arith, s.places, g.long.4, inside.small));
        }

        pub wide_enough : 2 * (n + 127) + 2 ≤ length b'
        wide_enough = wide

        module _ (r : Descent) (b'' p'' : List ℕ) (f : Settled n floors e' b' p' r b'' p'') (lb : length b'' ≡ length b')
            (lp : length p'' ≡ length p') where
          row_here : (v : ℕ) → v < n → row (has? 2 e') (λ x. get_or floors x 0) n v ≡ row E (floor_at true floors) n v
          row_here = row_same (has? 2 e') E (λ x. get_or floors x 0) (floor_at true floors) n same (λ v h. refl)

          counted : r.used ≡ rows_used E (floor_at true floors) n
          counted = f.used ∙ used_same (has? 2 e') E (λ x. get_or floors x 0) (floor_at true floors) n same (λ v h. refl)

          pub raises_settled : Raises n ends true floors e b t l p r e' b'' t' l' p''
          unfolding raised_refusal
          raises_settled = record {
            answer = λ s. f.refusal ∙ sym (later s.masks false u ∙ passed);
            short = λ s. absurd (long (g.short (λ m. s (roomy m))).0);
            none = λ ne. absurd (ne f.refusal);
            made = λ _. record {
              closure = record {
                edge_bits = made.closure.edge_bits;
                bits = made.closure.bits;
                counted = λ v h. f.others 3 v (omega arith) (λ z. absurd (omega (arith, z))) ∙ made.closure.counted v h;
              };
              longer = made.longer;
              past = made.past;
              rows = λ v h. f.rows v h ∙ row_here v h;
              counted = counted;
              below = λ i v hi hv. let w = f.below i v hi hv in (
                (λ x. let y = w.0 x in (y.0, omega (arith, y.1, row_here v y.0))),
                λ x. w.1 (x.0, omega (arith, x.1, row_here v x.0)),
              );
            };
            sets_past = λ _ i h. f.past i h
                ∙ g.rows_past zero i (omega (arith, h, made.used, counted, used_low E (floor_at true floors) n));
            left = λ s ne. absurd (ne passed);
            flat = λ s z ne. absurd (ne f.refusal);
            kept = λ i v h. f.others i v (omega (arith, h)) (λ z. absurd (omega (arith, z, h))) ∙ g.kept i v h;
            past = λ i v h o. f.others i v h (λ _. o) ∙ g.past i v h o;
            long = (g.long.0, lb ∙ g.long.1, g.long.2, g.long.3, lp ∙ g.long.4);
          }
