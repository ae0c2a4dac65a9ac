-- The descent for the table of edges of a graph: its reachability, longer routes and rows. Assumes nothing.
use Rattle.counting.proofs.Prelude.{◌≡◌, sym, ap, ap₂, ◌∙◌, subst, ◌≢◌, ⊎_elim, ◌↔◌, true, false, List, ℕ, ◌+◌, ◌*◌, ◌/◌, ◌%◌, ◌≤◌, ◌<◌}
use Rattle.counting.proofs.Prelude.{arith, get_or, eq-eqb, eqb-true}
use native.Mathlib.Nat.{lt_of_lt_of_le}
use Rattle.specification.specs.Count.{count, some}
use Rattle.specification.specs.Sets.{at, has?}
use Rattle.specification.specs.Graph.{Reaches, Longer, edge_count, Edge, edge?, refusal, Adjacent, reachable?}
use Rattle.rows.specs.Levels.{level_within, level, levels_used}
use Rattle.counting.specs.Quads.{quad}
use Rattle.counting.proofs.Truth.{lt-or-le, two_cases, true_or_false, same_truth}
use Rattle.counting.proofs.Somes.{some_found, some_none}
use Rattle.masks.specs.Pairs.{in_pair}
use Rattle.masks.proofs.Pairing.{pair_at, pair_zero}
use Rattle.reach.specs.Closure.{Closure, Composed}
use Rattle.reach.specs.Steps.{Within}
use Rattle.reach.proofs.Routes.{longer_between, begins_below, ends_below}
use Rattle.reach.proofs.Extending.{reaches_mono}
use Rattle.reach.proofs.Marking.{tail_below, head_below}
use Rattle.reach.proofs.Decide.{edge_decided, reachable_decided}
use Rattle.reach.proofs.Refusing.{accepted-within}
use Rattle.reach.proofs.Closures.{Bits, same_count}
use Rattle.rows.proofs.Same.{levels_same, levels_used_same}
use Rattle.specification.specs.Limits.{longest_path}
use Rattle.descent.specs.Steps.Closed.{Arc, Inside, Laid, Closed}
use Rattle.descent.specs.Promise.{Stuck}
use Rattle.descent.proofs.Arcs.{reached-count}

module _ (n : ℕ) (tails heads e : List ℕ) (accepted : refusal n tails heads ≡ 0)
    (edges : (u v : ℕ) → u < 128 → v < 128 → at 2 e u v ≡ 1 ↔ Adjacent n tails heads u v) where
  within : Within n (edge_count tails heads) tails heads
  within = (accepted-within n tails heads accepted).0

  small : n ≤ 128
  small = (accepted-within n tails heads accepted).1

  -- the table has the graph's edges
  pub arc_edge : (u v : ℕ) → Arc e u v → Edge tails heads u v
  arc_edge u v a = ((edges u v a.0 a.1).0 a.2).1

  pub edge_arc : (u v : ℕ) → Edge tails heads u v → Arc e u v
  edge_arc u v a =
      let hu = lt_of_lt_of_le (tail_below 2 tails heads n within u v a) small in
      let hv = lt_of_lt_of_le (head_below 2 tails heads n within u v a) small in
      (hu, hv, (edges u v hu hv).1 (accepted, a))

  pub graph_inside : Inside e n
  graph_inside = record {
    small = small;
    tail = λ u v a. tail_below 2 tails heads n within u v (arc_edge u v a);
    head = λ u v a. head_below 2 tails heads n within u v (arc_edge u v a);
  }

  -- a vertex that reaches itself, or none
  pub graph_cyclic : ((u : ℕ) × (u < n) × Reaches (Arc e) u u) → some 128 (λ u. reachable? n tails heads u u) ≡ true
  graph_cyclic c =
      some_found 128 (λ x. reachable? n tails heads x x) c.0 (let h = small in let l = c.1 in omega arith)
      ((reachable_decided n tails heads c.0 c.0).0 (accepted, reaches_mono arc_edge c.2))

  pub graph_acyclic : ((u : ℕ) → Reaches (Arc e) u u → ⊥) → some 128 (λ u. reachable? n tails heads u u) ≡ false
  graph_acyclic none =
      some_none 128 (λ x. reachable? n tails heads x x)
      (λ x h. ⊎_elim
      (λ t. absurd (none x (reaches_mono edge_arc ((reachable_decided n tails heads x x).1 t).1)))
      (λ f. f)
      (true_or_false (reachable? n tails heads x x)))

  -- the rows are those of the graph's edges
  pub same_edges : (u v : ℕ) → u < n → v < n → has? 2 e u v ≡ edge? tails heads u v
  unfolding has?
  same_edges u v hu hv =
      let h = small in
      let b = edges u v (omega arith) (omega arith) in
      same_truth (has? 2 e u v) (edge? tails heads u v)
      (λ q. (edge_decided tails heads u v).0 (b.0 (eqb-true _ _ q)).1)
      (λ q. eq-eqb _ _ (b.1 (accepted, (edge_decided tails heads u v).1 q)))

  module _ (r : ℕ) (p p' b below : List ℕ) (g : Laid e n r p p' b below) (some : r ≢ 0) where
    pub graph_rows : (v : ℕ) → v < n → quad 2 p' v ≡ level (edge? tails heads) n v
    graph_rows v h = g.rule some v h ∙ levels_same (has? 2 e) (edge? tails heads) n same_edges longest_path v h

    pub graph_used : r ≡ levels_used (edge? tails heads) n
    graph_used = g.used some ∙ levels_used_same (has? 2 e) (edge? tails heads) n same_edges

    pub graph_below : (k v : ℕ) → k ≤ r → v < 128 → at 2 below k v ≡ 1 ↔ ((v < n) × (level (edge? tails heads) n v < k))
    graph_below k v hk hv =
        let m = (g.prefixes some).members k v hk hv in
        let same : v < n → level (has? 2 e) n v ≡ level (edge? tails heads) n v =
        levels_same (has? 2 e) (edge? tails heads) n same_edges longest_path v in (
          (λ i. let p = m.0 i in (p.0, subst (λ (x : ℕ). x < k) (same p.0) p.1)),
          λ p. m.1 (p.0, subst (λ (x : ℕ). x < k) (sym (same p.0)) p.1),
        )

  pub graph_stuck : (b p b' p' : List ℕ) → Stuck (has? 2 e) n b p b' p' → Stuck (edge? tails heads) n b p b' p'
  graph_stuck b p b' p' g = record {
    sets = λ k v hk hv. let m = g.sets k v hk hv in (
      (λ i. let x = m.0 i in (x.0, subst (λ (y : ℕ). y < k) (same v x.0) x.1)),
      λ x. m.1 (x.0, subst (λ (y : ℕ). y < k) (sym (same v x.0)) x.1),
    );
    past = g.past;
    settled = λ v h l. g.settled v h (subst (λ (y : ℕ). y < n) (sym (same v h)) l) ∙ same v h;
    others = λ k v h out. g.others k v h (λ q l. subst (λ (y : ℕ). n ≤ y) (sym (same v l)) (out q l));
  }
    where
      same : (v : ℕ) → v < n → level_within (has? 2 e) n n v ≡ level_within (edge? tails heads) n n v
      same = levels_same (has? 2 e) (edge? tails heads) n same_edges n

  module _ (t l c t' l' c' : List ℕ) (g : Closed e n t l c t' l' c')
      (no-t : (i : ℕ) → get_or t i 0 ≡ 0) (no-l : (i : ℕ) → get_or l i 0 ≡ 0) where
    blank : (s : List ℕ) (u v : ℕ) → v < 128 → get_or s (2 * u) 0 ≡ 0 → get_or s (2 * u + 1) 0 ≡ 0 → at 2 s u v ≡ 0
    blank s u v h p q = sym (pair_at s u v h) ∙ ap₂ (λ (x y : ℕ). in_pair x y v) p q ∙ pair_zero v h

    begins : (u v : ℕ) → Reaches (Edge tails heads) u v → u < n
    begins u v p = begins_below (tail_below 2 tails heads n within) p

    -- the table of what reaches what
    pub graph_bits : Bits 2 n tails heads t'
    graph_bits u v hu hv =
        ⊎_elim
        (λ k. ((λ i. (accepted, reaches_mono arc_edge ((g.bits u v k hv).0 i))), λ p. (g.bits u v k hv).1 (reaches_mono edge_arc p.1)))
        (λ k.
        let o = g.others u k in
        let z = blank t' u v hv (o.low ∙ no-t _) (o.high ∙ no-t _) in
        ((λ i. absurd (omega arith)), λ p. absurd (let b = begins u v p.1 in omega arith)))
        (lt-or-le u n)

    pub graph_counts : (u : ℕ) → u < n → quad 3 c' u ≡ count 128 (reachable? n tails heads u)
    graph_counts u h =
        g.counted u h ∙ sym (reached-count e n graph_inside t' u (λ v hv. g.bits u v h hv))
        ∙ same_count 2 n tails heads t' graph_bits u (lt_of_lt_of_le h small)

    -- routes of two edges or more
    pub graph_longer : (u v : ℕ) → u < 128 → v < 128 → at 2 l' u v ≡ 1 ↔ Longer (Edge tails heads) u v
    graph_longer u v hu hv =
        ⊎_elim
        (λ k. (
          (λ i. let p = (g.farther u v k hv).0 i in (p.0, arc_edge _ _ p.1, reaches_mono arc_edge p.2)),
          λ p. (g.farther u v k hv).1 (p.0, edge_arc _ _ p.1, reaches_mono edge_arc p.2),
        ))
        (λ k.
        let o = g.others u k in
        let z = blank l' u v hv (o.low_far ∙ no-l _) (o.high_far ∙ no-l _) in
        ((λ i. absurd (omega arith)), λ p. absurd (let b = tail_below 2 tails heads n within u _ p.1 in omega arith)))
        (lt-or-le u n)

    -- past the sets of n vertices nothing stands
    pub graph_past : (i : ℕ) → 2 * n ≤ i → (get_or t' i 0 ≡ 0) × (get_or l' i 0 ≡ 0)
    graph_past i h =
        let o = g.others (i / 2) (omega arith) in
        ⊎_elim
        (λ z.
        let q : i ≡ 2 * (i / 2) = omega arith in
        (ap (λ (j : ℕ). get_or t' j 0) q ∙ o.low ∙ no-t _, ap (λ (j : ℕ). get_or l' j 0) q ∙ o.low_far ∙ no-l _))
        (λ z.
        let q : i ≡ 2 * (i / 2) + 1 = omega arith in
        (ap (λ (j : ℕ). get_or t' j 0) q ∙ o.high ∙ no-t _, ap (λ (j : ℕ). get_or l' j 0) q ∙ o.high_far ∙ no-l _))
        (two_cases (i % 2) (omega arith))

    -- the graph's reachability
    pub graph_closure : Closure n tails heads (record { edges = e; table = t'; counts = quad 3 c' })
    graph_closure = record { edge_bits = edges; bits = graph_bits; counted = graph_counts }

    -- the table followed by itself
    pub graph_composed : Composed 2 t' l'
    graph_composed = record {
      bits = λ u v hu hv. (
        (λ i. let p = longer_between.0 ((graph_longer u v hu hv).0 i) in
            let hw = ends p.1 in
            (p.0, hw, (graph_bits u p.0 hu hw).1 (accepted, p.1), (graph_bits p.0 v hw hv).1 (accepted, p.2))),
        λ p. (graph_longer u v hu hv).1
            (longer_between.1 (p.0, ((graph_bits u p.0 hu p.1).0 p.2).1, ((graph_bits p.0 v p.1 hv).0 p.3).1)),
      );
    }
      where
        ends : {u w : ℕ} → Reaches (Edge tails heads) u w → w < 128
        ends p = lt_of_lt_of_le (ends_below (head_below 2 tails heads n within) p) small
