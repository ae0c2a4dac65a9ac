-- What leads where in a sound graph: the computed relation is reachability, and a strict order on the vertices. Assumes nothing.
use Rattle.counting.proofs.Prelude.{◌≡◌, refl, subst, ◌↔◌, true, ℕ, ◌<◌}
use Rattle.matching.specs.Division.{Order}
use Rattle.specification.specs.Graph.{Edge, edge?, refusal}
use Rattle.specification.specs.Graph.Reaches.{one}
use Rattle.specification.specs.Checks.{Content, edges_of, connection_in, Leads, Sound}
use Rattle.specification.specs.Connection.{leading?}
use Rattle.specification.specs.Chart.{leads?, tail_of, head_of}
use Rattle.reach.proofs.Routes.{reaches_trans, begins_below, ends_below}
use Rattle.reach.proofs.Decide.{edge_decided, reachable_decided}
use Rattle.reach.proofs.Connecting.{leading_reachable}
use Rattle.record.proofs.Soundness.{sound_edges}

module _ (c : Content) (s : Sound c) where
  abbrev n : ℕ
  n = c.vertices

  -- the reachability layer takes the graph
  pub graph_accepted : refusal n c.tails c.heads ≡ 0
  graph_accepted = sound_edges c s

  pub leads_decided : (u v : ℕ) → (leads? c u v ≡ true) ↔ Leads c u v
  unfolding leads?
  leads_decided u v =
      let d = reachable_decided n c.tails c.heads u v in
      ((λ e. (d.1 e).1), λ r. d.0 (graph_accepted, r))

  -- there is a way where the answer is not 'not at all'
  pub answer-leads : (u v : ℕ) → leading? (connection_in c u v) ≡ leads? c u v
  unfolding connection_in leads?
  answer-leads = leading_reachable n c.tails c.heads graph_accepted

  -- edges, and so routes, begin and end at vertices
  pub edge_ends : (u v : ℕ) → Edge c.tails c.heads u v → (u < n) × (v < n)
  unfolding Edge
  edge_ends u v e =
      let b = s.ends e.0 e.1 in
      (subst (λ x. x < n) e.2 b.0, subst (λ x. x < n) e.3 b.1)

  pub leads-ends : (u v : ℕ) → leads? c u v ≡ true → (u < n) × (v < n)
  leads-ends u v e =
      let r = (leads_decided u v).0 e in
      (begins_below (λ u v e. (edge_ends u v e).0) r, ends_below (λ u v e. (edge_ends u v e).1) r)

  pub leads-order : Order (leads? c) n
  leads-order = record {
    trans = λ x y z hx hy hz p q. (leads_decided x z).1 (reaches_trans ((leads_decided x y).0 p) ((leads_decided y z).0 q));
    irrefl = λ x hx p. s.acyclic x ((leads_decided x x).0 p);
  }

  -- edge i joins its ends, and its tail leads to its head
  pub edge_there : (i : ℕ) → i < edges_of c → edge? c.tails c.heads (tail_of c i) (head_of c i) ≡ true
  unfolding Edge
  edge_there i l = (edge_decided c.tails c.heads (tail_of c i) (head_of c i)).0 (i, l, refl, refl)

  pub edge_leads : (u v : ℕ) → edge? c.tails c.heads u v ≡ true → leads? c u v ≡ true
  edge_leads u v e = (leads_decided u v).1 (one ((edge_decided c.tails c.heads u v).1 e))
