-- What is proved of the pass over a graph's edges that marks the transitive ones (implied) and counts the reduced ones (firm)
-- (SPECIFICATION.md, 5.2). Assumes nothing.
use Rattle.std.specs.Prelude.{◌≡◌, not, List, ℕ, ◌+◌, ◌*◌, ◌/◌, ◌%◌, ◌≤◌, ◌<◌, length, get_or}
use Rattle.specification.specs.Count.{count}
use Rattle.specification.specs.Checks.{Content, edges_of}
use Rattle.specification.specs.Chart.{Plan, transitive_edge?, edge_entry}
use Rattle.specification.specs.Pass.{Form, State, state, next, after}

-- the pass over the edges of c, drawn by p, into a list that had `was`; f is how an edge stands in it
module _ {E : Type 0} (f : Form E) (c : Content) (p : Plan) (was : List E) where
  abbrev pub after_edges : ℕ → State E
  after_edges = after f (edge_entry c p) was

  -- it leaves the list `is` and the count r
  pub record Marking (is : List E) (r : ℕ) : Type 0 where
    -- it begins with the list as it is, and one edge more is one step
    pub start : after_edges 0 ≡ state was 0
    pub step : (k : ℕ) → k < edges_of c → after_edges (k + 1) ≡ next f (edge_entry c p) k (after_edges k)
    -- after each k edges these are marked as the whole graph says, by all its edges
    pub marks : (k e : ℕ) (d : E) → k ≤ edges_of c → e < k
        → f.marked? (get_or (after_edges k).list (e * f.width + f.mark) d) ≡ transitive_edge? c e
    -- .. and have every other value that the chart's entry has
    pub entries : (k i : ℕ) (d : E) → k ≤ edges_of c → i < k * f.width
        → get_or (after_edges k).list i d ≡ f.value (edge_entry c p (i / f.width)) (i % f.width)
    -- the reduced ones among them are counted
    pub counted : (k : ℕ) → k ≤ edges_of c → (after_edges k).reduced ≡ count k (λ e. not (transitive_edge? c e))
    -- and what stands past them is as it was
    pub later : (k i : ℕ) (d : E) → k ≤ edges_of c → k * f.width ≤ i → get_or (after_edges k).list i d ≡ get_or was i d
    pub as_long : (k : ℕ) → k ≤ edges_of c → length (after_edges k).list ≡ length was
    -- it ends in the state after the last edge
    pub ends : state is r ≡ after_edges (edges_of c)
