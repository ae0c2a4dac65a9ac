-- The theorems of `Compaction` for the edges of a graph without cycles. Assumes nothing.
use Rattle.counting.proofs.Prelude.{◌≡◌, sym, ◌∙◌, false, true≢false, List, ℕ, ◌+◌, ◌≤◌, ◌<◌, max, arith}
use Rattle.specification.specs.Count.{some, above}
use Rattle.specification.specs.Graph.{edge?, refusal, reachable?}
use Rattle.specification.specs.Graph.Reaches.{one}
use Rattle.specification.specs.Rows.{row}
use Rattle.counting.proofs.Somes.{some_found}
use Rattle.reach.proofs.Routes.{reaches_trans}
use Rattle.reach.proofs.Decide.{edge_decided, reachable_decided}
use Rattle.reach.proofs.Refusing.{accepted-within}
use Rattle.rows.proofs.Compaction.{Order, rows_below, rows-rule}

module _ (n : ℕ) (tails heads : List ℕ) (accepted : refusal n tails heads ≡ 0)
    (acyclic : some 128 (λ u. reachable? n tails heads u u) ≡ false) where
  small : n ≤ 128
  small = (accepted-within n tails heads accepted).1

  -- what reaches what is a strict order that holds the edges
  pub acyclic_order : Order (edge? tails heads) (reachable? n tails heads) n
  acyclic_order = record {
    edges = λ u v hu hv e. (reachable_decided n tails heads u v).0 (accepted, one ((edge_decided tails heads u v).1 e));
    trans = λ u v w hu hv hw p q.
        let a = (reachable_decided n tails heads u v).1 p in
        let b = (reachable_decided n tails heads v w).1 q in
        (reachable_decided n tails heads u w).0 (accepted, reaches_trans a.1 b.1);
    irrefl = λ u hu p. let s = small in true≢false (sym (some_found 128 (λ v. reachable? n tails heads v v) u (omega arith) p) ∙ acyclic);
  }

  module _ (floor : ℕ → ℕ) where
    -- the rule of rows (SPECIFICATION.md, 4.1) holds of every vertex, and every row is below the highest floor and the number of vertices
    pub graph_rule : (v : ℕ) → v < n
        → row (edge? tails heads) floor n v ≡ max (floor v) (above n (λ u. edge? tails heads u v) (row (edge? tails heads) floor n))
    graph_rule = rows-rule (edge? tails heads) (reachable? n tails heads) n acyclic_order floor small

    pub graph_below : (top : ℕ) → ((v : ℕ) → v < n → floor v ≤ top) → (v : ℕ) → v < n → row (edge? tails heads) floor n v < top + n
    graph_below = rows_below (edge? tails heads) (reachable? n tails heads) n acyclic_order floor
