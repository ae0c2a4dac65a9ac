-- A graph that is not refused, with no cycle and no two edges alike, is what the laws of reduction ask for. Assumes nothing.
use Rattle.counting.proofs.Prelude.{◌≡◌, List, ℕ, ◌<◌, get_or}
use Rattle.specification.specs.Graph.{Reaches, edge_count, Edge, edge?, refusal}
use Rattle.specification.specs.Connection.{connects}
use Rattle.reach.proofs.Refusing.{accepted-within}
use Rattle.reach.proofs.Connecting.{graph_means}
use Rattle.reduction.specs.Reduction.{Dag}

module _ (n : ℕ) (tails heads : List ℕ) (accepted : refusal n tails heads ≡ 0)
    (distinct : (i j : ℕ) → i < edge_count tails heads → j < edge_count tails heads → get_or tails i 0 ≡ get_or tails j 0
    → get_or heads i 0 ≡ get_or heads j 0 → i ≡ j)
    (acyclic : (u : ℕ) → Reaches (Edge tails heads) u u → ⊥) where
  -- by the computed answers
  pub graph_dag : Dag (connects (edge? tails heads) n) n tails heads
  graph_dag = record {
    ends = λ i l. let w = (accepted-within n tails heads accepted).0 in (w.tail i l, w.head i l);
    distinct = distinct;
    acyclic = λ u p. absurd (acyclic u p);
    told = graph_means n tails heads accepted;
  }
