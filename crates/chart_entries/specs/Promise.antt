-- What the calls promise: the chart by its definitions, in the answer and in every entry of the lists that are lent, or a refusal and
-- nothing. Assumes nothing.
use Rattle.std.specs.Prelude.{◌≡◌, List, ℕ, ◌<◌, length, get_or}
use Rattle.specification.specs.Checks.{Content, edges_of}
use Rattle.specification.specs.Chart.{Plan, plan_of, vertex_entry, edge_entry, bundle_entry}
use Rattle.specification.specs.Numbers.{arrow_number}
use Rattle.specification.specs.declared.VertexEntry.{VertexEntry}
use Rattle.specification.specs.declared.EdgeEntry.{EdgeEntry}
use Rattle.specification.specs.declared.BundleEntry.{BundleEntry}
use Rattle.specification.specs.Drawn.{Drawn, lent, Summary}
use Rattle.specification.specs.Lent.{Filled}
use Rattle.specification.specs.declared.ChartCounts.{ChartCounts}

-- ---- the promise

-- every count of the chart of c, and its entries in the lists: r is the answer, vs', es' and bs' are the lists vs, es and bs afterwards
pub record Listed (c : Content) (p : Plan) (vs : List VertexEntry) (es : List EdgeEntry) (bs : List BundleEntry)
    (r : ChartCounts) (vs' : List VertexEntry) (es' : List EdgeEntry) (bs' : List BundleEntry) : Type 0 where
  pub summary : Summary c p r
  pub vertex_list : Filled vs (vertex_entry c p) c.vertices vs'
  pub edge_list : Filled es (edge_entry c p) (edges_of c) es'
  -- number f of edge e, the number and the values of its kind among them (9.4)
  pub edge_numbers : (e f : ℕ) (d : EdgeEntry) → e < edges_of c → arrow_number (get_or es' e d) f ≡ arrow_number (edge_entry c p e) f
  pub bundle_list : Filled bs (bundle_entry p) (length p.bundles) bs'

pub record Left (d : Drawn) (vs : List VertexEntry) (es : List EdgeEntry) (bs : List BundleEntry)
    (r : ChartCounts) (vs' : List VertexEntry) (es' : List EdgeEntry) (bs' : List BundleEntry) : Type 0 where
  pub refusal : r.refusal ≡ d.refusal
  pub listed : Listed d.graph (plan_of d.graph) vs es bs r vs' es' bs'

abbrev pub HandedOver : Drawn → List VertexEntry → List EdgeEntry → List BundleEntry → ChartCounts → List VertexEntry → List EdgeEntry
    → List BundleEntry → Type 0
HandedOver d vs es bs = Left (lent (length vs) (length es) (length bs) d) vs es bs
