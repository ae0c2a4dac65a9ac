-- The marks of a sound graph's edges: transitive ones are those with a longer route, and the reduced ones are the fewest links with the
-- graph's reachability. Assumes nothing.
use Rattle.counting.proofs.Prelude.{◌≡◌, ◌↔◌, Bool, true, false, ℕ, ◌≤◌, ◌<◌}
use Rattle.specification.specs.Graph.{Reaches, Longer, Edge}
use Rattle.specification.specs.Checks.{Content, edges_of, connection_in, Leads, Sound}
use Rattle.specification.specs.Marks.{link_count, reduced_link}
use Rattle.specification.specs.Chart.{tail_of, head_of, transitive_edge?, reduced_edges}
use Rattle.reach.proofs.Decide.{edge_decided}
use Rattle.reduction.specs.Reduction.{Reduced, SameClosure, Fewest, Dag}
use Rattle.reduction.proofs.Transitive.{transitive_longer, reduced_reaches}
use Rattle.reduction.proofs.Links.{links_least, reduced_link-count, reduced_fewest}
use Rattle.reduction.proofs.Graphs.{graph_dag}
use Rattle.chart_laws.proofs.Leading.{graph_accepted, edge_there}

module _ (c : Content) (s : Sound c) where
  abbrev n : ℕ
  n = c.vertices

  pub chart_dag : Dag (connection_in c) n c.tails c.heads
  unfolding connection_in
  chart_dag = graph_dag n c.tails c.heads (graph_accepted c s) s.distinct s.acyclic

  -- an edge is marked where a route of two or more edges goes the same way
  pub marked_longer : (i : ℕ) → i < edges_of c → (transitive_edge? c i ≡ true) ↔ Longer (Edge c.tails c.heads) (tail_of c i) (head_of c i)
  unfolding transitive_edge?
  marked_longer i l =
      let m = transitive_longer (connection_in c) n c.tails c.heads chart_dag (tail_of c i) (head_of c i)
      ((edge_decided c.tails c.heads _ _).1 (edge_there c s i l)) in
      (m.1, m.0)

  -- an edge that is not marked is a reduced one
  pub unmarked_reduced : (i : ℕ) → i < edges_of c → transitive_edge? c i ≡ false
      → Reduced (connection_in c) c.tails c.heads (tail_of c i) (head_of c i)
  unfolding transitive_edge?
  unmarked_reduced i l e = ((edge_decided c.tails c.heads _ _).1 (edge_there c s i l), e)

  -- REDUCED: the reduced edges reach what the graph reaches
  pub chart_reduced : (u v : ℕ) → Reaches (Reduced (connection_in c) c.tails c.heads) u v ↔ Leads c u v
  chart_reduced = reduced_reaches (connection_in c) n c.tails c.heads chart_dag

  -- no set of links with the graph's reachability is smaller; as a set they have it, and as many pairs
  pub chart_links_least : (link : ℕ → ℕ → Bool) → SameClosure n c.tails c.heads link → reduced_edges c ≤ link_count n link
  unfolding reduced_edges
  chart_links_least = links_least (connection_in c) n c.tails c.heads chart_dag

  pub chart_links : Fewest n c.tails c.heads (reduced_link (connection_in c) c.tails c.heads)
  chart_links = reduced_fewest (connection_in c) n c.tails c.heads chart_dag

  pub chart_links_count : link_count n (reduced_link (connection_in c) c.tails c.heads) ≡ reduced_edges c
  unfolding reduced_edges
  chart_links_count = reduced_link-count (connection_in c) n c.tails c.heads chart_dag
