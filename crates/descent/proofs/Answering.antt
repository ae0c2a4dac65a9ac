-- What the whole answers: the first check that fails, or the tables. Assumes nothing.
use Rattle.counting.proofs.Prelude.{◌≡◌, refl, sym, ap, ◌∙◌, subst, ◌≢◌, ⊎_elim, ◌↔◌, Bool, true, false, true≢false, ◌&&◌, List, ℕ, ◌+◌}
use Rattle.counting.proofs.Prelude.{◌*◌, ◌≤◌, ◌<◌, min, arith, leb, length, le-leb, leb-true}
use native.Mathlib.Decide.{ℕ_discrete}
use Rattle.specification.specs.Count.{choose, some}
use Rattle.specification.specs.Sets.{at}
use Rattle.specification.specs.Graph.{edge_count, outsized?, refusal, tails_of, heads_of, Adjacent, reachable?}
use Rattle.counting.proofs.Truth.{true_or_false, and_intro, and_elim}
use Rattle.counting.proofs.Choosing.{choose_yes}
use Rattle.counting.proofs.Sizes.{outsized_back}
use Rattle.scanning.specs.Scanned.{ends_refusal, Scanned, Scans}
use Rattle.descent.specs.Steps.Closed.{Rest, Inside, Ranked, fits?}
use Rattle.descent.specs.Promise.{Descent, edges_refusal, no_descent, Sized, Descended, Left, Descends}
use Rattle.descent.proofs.Refusals.{ends-answers, edges_in_turn, answer-ends, answer-cycle}
use Rattle.descent.proofs.Graphs.{graph_inside, graph_cyclic, graph_acyclic, graph_rows, graph_used, graph_below, graph_stuck}
use Rattle.descent.proofs.Graphs.{graph_past, graph_closure, graph_composed}

-- ---- the lengths

module _ (n : ℕ) (e b t l p : List ℕ) where
  abbrev edges? : Bool
  edges? = leb (2 * min n 128) (length e)

  abbrev below? : Bool
  below? = leb (2 * min n 128 + 2) (length b)

  abbrev table? : Bool
  table? = leb (2 * min n 128) (length t)

  abbrev longer? : Bool
  longer? = leb (2 * min n 128) (length l)

  abbrev places? : Bool
  places? = leb (4 * min n 128) (length p)

  sized_fits : Sized n e b t l p → fits? n (length e) (length b) (length t) (length l) (length p) ≡ true
  unfolding fits?
  sized_fits s =
      and_intro edges? (below? && (table? && (longer? && places?))) (le-leb _ _ s.edges)
      (and_intro below? (table? && (longer? && places?)) (le-leb _ _ s.below)
      (and_intro table? (longer? && places?) (le-leb _ _ s.table)
      (and_intro longer? places? (le-leb _ _ s.longer) (le-leb _ _ s.places))))

  pub fits_sized : fits? n (length e) (length b) (length t) (length l) (length p) ≡ true → Sized n e b t l p
  unfolding fits?
  fits_sized f =
      let x = and_elim edges? (below? && (table? && (longer? && places?))) f in
      let y = and_elim below? (table? && (longer? && places?)) x.1 in
      let z = and_elim table? (longer? && places?) y.1 in
      let w = and_elim longer? places? z.1 in
      record {
        edges = leb-true _ _ x.0;
        below = leb-true _ _ y.0;
        table = leb-true _ _ z.0;
        longer = leb-true _ _ w.0;
        places = leb-true _ _ w.1;
      }

-- the work lists are as long as they were
abbrev Kept : (e b t l p e' b' t' l' p' : List ℕ) → Type 0
Kept e b t l p e' b' t' l' p' =
    (length e' ≡ length e) × (length b' ≡ length b) × (length t' ≡ length t) × (length l' ≡ length l) × (length p' ≡ length p)

-- ---- what is returned

module _ (n : ℕ) (ends e b t l p : List ℕ) where
  abbrev tails : List ℕ
  tails = tails_of ends

  abbrev heads : List ℕ
  heads = heads_of ends

  pub descends_misfit : (r : Descent) (fit : Bool) → fit ≡ fits? n (length e) (length b) (length t) (length l) (length p) → fit ≡ false
      → r ≡ no_descent 8 → Descends n ends e b t l p r e b t l p
  descends_misfit r fit a f q =
      let w : r.refusal ≡ 8 = ap (λ (x : Descent). x.refusal) q in
      record {
        answer = λ s. absurd (true≢false (sym (sized_fits n e b t l p s) ∙ sym a ∙ f));
        short = λ s. (w, refl, refl, refl, refl, refl);
        none = λ ne. q ∙ ap no_descent (sym w);
        made = λ z. absurd (omega arith);
        rows_past = λ z. absurd (omega arith);
        left = λ _. record {
          alone = λ _. refl;
          edges = λ _ ne. absurd (ne w);
          others = λ _. (refl, refl, refl, refl);
          cyclic = λ z. absurd (omega arith);
        };
        kept = λ k v h. refl;
        past = λ k v h g. refl;
        long = (refl, refl, refl, refl, refl);
      }

  module _ (sized : Sized n e b t l p) where
    -- refused with k
    refused : (k : ℕ) (r : Descent) → r ≡ no_descent k → k ≢ 0 → edges_refusal n tails heads ≡ k
        → (e' b' t' l' p' : List ℕ) → Left k n ends e b t l p e' b' t' l' p' → Rest n p p' → Kept e b t l p e' b' t' l' p'
        → Descends n ends e b t l p r e' b' t' l' p'
    refused k r q ne a e' b' t' l' p' left rest long =
        let w : r.refusal ≡ k = ap (λ (x : Descent). x.refusal) q in
        record {
          answer = λ s. w ∙ sym a;
          short = λ s. absurd (s sized);
          none = λ _. q ∙ ap no_descent (sym w);
          made = λ z. absurd (ne (sym w ∙ z));
          rows_past = λ z. absurd (ne (sym w ∙ z));
          left = λ _. subst (λ (x : ℕ). Left x n ends e b t l p e' b' t' l' p') (sym w) left;
          kept = λ k v h. rest k v (omega arith) (λ z. absurd (omega arith));
          past = λ k v h g. rest k v h (λ _. g);
          long = long;
        }

    -- the edges are checked: the answer is k
    module _ (k : ℕ) (e' : List ℕ) (scans : Scans n ends e k e') where
      pub descends_ends : (r : Descent) → r ≡ no_descent k → k ≢ 0 → Descends n ends e b t l p r e' b t l p
      descends_ends r q ne =
          refused k r q ne (⊎_elim by_size by_ends (true_or_false (outsized? n (edge_count tails heads))))
          e' b t l p left (λ i v h o. refl) (scans.long, refl, refl, refl, refl)
        where
          left : Left k n ends e b t l p e' b t l p
          left = ⊎_elim
              (λ o. let two = scans.outsized sized.edges o in record {
                alone = λ _. two.1;
                edges = λ ne. absurd (ne two.0);
                others = λ _. (refl, refl, refl, refl);
                cyclic = λ z. absurd (omega (arith, two.0));
              })
              (λ o. let f = scans.checked sized.edges o in let w = ends-answers n tails heads in record {
                alone = λ z. absurd (⊎_elim (λ y. w.0 (sym f.answer ∙ y)) (λ y. omega (arith, w.1, f.answer)) z);
                edges = λ _ _. subst (λ (x : ℕ). Scanned n ends e' x) f.answer f;
                others = λ _. (refl, refl, refl, refl);
                cyclic = λ z. absurd (omega (arith, w.1, f.answer));
              })
              (true_or_false (outsized? n (edge_count tails heads)))

          by_size : outsized? n (edge_count tails heads) ≡ true → edges_refusal n tails heads ≡ k
          by_size o =
              edges_in_turn n tails heads ∙ choose_yes (outsized? n (edge_count tails heads)) _ _ o
              ∙ sym (scans.outsized sized.edges o).0

          by_ends : outsized? n (edge_count tails heads) ≡ false → edges_refusal n tails heads ≡ k
          by_ends o =
              let a = (scans.checked sized.edges o).answer in
              answer-ends n tails heads o (λ z. ne (a ∙ z)) ∙ sym a

      -- and they are accepted
      module _ (good : k ≡ 0) where
        outsized : outsized? n (edge_count tails heads) ≡ false
        outsized =
            ⊎_elim (λ o. absurd (let z = (scans.outsized sized.edges o).0 in omega arith)) (λ o. o)
            (true_or_false (outsized? n (edge_count tails heads)))

        checked : Scanned n ends e' k
        checked = scans.checked sized.edges outsized

        no_ends : ends_refusal n tails heads ≡ 0
        no_ends = sym checked.answer ∙ good

        none_refused : refusal n tails heads ≡ 0
        none_refused = (answer-cycle n tails heads outsized no_ends).1

        edge_bits : (u v : ℕ) → u < 128 → v < 128 → at 2 e' u v ≡ 1 ↔ Adjacent n tails heads u v
        edge_bits u v hu hv =
            let b = checked.bits (λ z. omega arith) u v hu hv in
            ((λ i. (none_refused, b.0 i)), λ a. b.1 a.1)

        -- the edges join vertices, and the lists have room for these
        pub descends_ready : (0 < n) × (2 * n ≤ length e') × (2 * n + 2 ≤ length b) × (2 * n ≤ length t) × (2 * n ≤ length l)
            × (4 * n ≤ length p) × Inside e' n
        descends_ready =
            let size = outsized_back n _ outsized in
            let small = size.1 in (
              size.0,
              (let h = sized.edges in let q = scans.long in omega arith),
              (let h = sized.below in omega arith),
              (let h = sized.table in omega arith),
              (let h = sized.longer in omega arith),
              (let h = sized.places in omega arith),
              graph_inside n tails heads e' none_refused edge_bits,
            )

        pub descends_ranked : (r : Descent) (b' t' l' p' : List ℕ) → Ranked e' n b p r b' t' l' p' → Kept e b t l p e' b' t' l' p'
            → Descends n ends e b t l p r e' b' t' l' p'
        descends_ranked r b' t' l' p' f long = go (ℕ_discrete r.refusal 0)
          where
            made : r.refusal ≡ 0 → Descended n tails heads r e' b' t' l' p'
            made z =
                let g = f.made z in
                let c = g.1 in
                record {
                  closure =
                      graph_closure n tails heads e' none_refused edge_bits c.0 c.1 c.2 t' l' p' c.6 c.3.zero c.4.zero;
                  longer =
                      graph_composed n tails heads e' none_refused edge_bits c.0 c.1 c.2 t' l' p' c.6 c.3.zero c.4.zero;
                  past = λ i h.
                      let z = graph_past n tails heads e' none_refused edge_bits c.0 c.1 c.2 t' l' p' c.6 c.3.zero
                      c.4.zero
                      i h in
                      (checked.others i h, z.0, z.1);
                  rows = λ v h. c.6.rest 2 v (omega arith) (λ y. absurd (omega arith))
                      ∙ graph_rows n tails heads e' none_refused edge_bits r.used p c.2 b b' c.5 g.0 v h;
                  used = graph_used n tails heads e' none_refused edge_bits r.used p c.2 b b' c.5 g.0;
                  below = graph_below n tails heads e' none_refused edge_bits r.used p c.2 b b' c.5 g.0;
                }

            -- the last check
            last : (x : Bool) → some 128 (λ u. reachable? n tails heads u u) ≡ x → edges_refusal n tails heads ≡ choose x (λ _. 5) (λ _. 0)
            last x q = (answer-cycle n tails heads outsized no_ends).0 ∙ ap (λ (y : Bool). choose {A = ℕ} y (λ _. 5) (λ _. 0)) q

            go : Dec (r.refusal ≡ 0) → Descends n ends e b t l p r e' b' t' l' p'
            go (yes z) =
                let g = f.made z in
                let a = last false (graph_acyclic n tails heads e' none_refused edge_bits (g.1.5.acyclic g.0)) in
                record {
                  answer = λ _. z ∙ sym a;
                  short = λ s. absurd (s sized);
                  none = λ ne. absurd (ne z);
                  made = made;
                  rows_past = λ _. g.1.5.sets_past g.0;
                  left = λ ne. absurd (ne z);
                  kept = λ k v h. f.rest k v (omega arith) (λ y. absurd (omega arith));
                  past = λ k v h g. f.rest k v h (λ _. g);
                  long = long;
                }
            go (no d) =
                let a = last true (graph_cyclic n tails heads e' none_refused edge_bits (f.cyclic d).1) in
                refused 5 r (f.cyclic d).0 (omega arith) a e' b' t' l' p' left f.rest long
              where
                left : Left 5 n ends e b t l p e' b' t' l' p'
                left = record {
                  alone = λ z. absurd (⊎_elim (λ (y : ◌≡◌ {A = ℕ} 5 2). omega arith) (λ (y : ◌≡◌ {A = ℕ} 5 8). omega arith) z);
                  edges = λ _ _. subst (λ (x : ℕ). Scanned n ends e' x) checked.answer checked;
                  others = λ ne. absurd (ne refl);
                  cyclic = λ _. let z = f.left d in (z.0, z.1, graph_stuck n tails heads e' none_refused edge_bits b p b' p' z.2);
                }
