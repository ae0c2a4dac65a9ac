-- The chart by its definitions, in the answer and in every number of the three lists that are lent, or a refusal and nothing. Assumes
-- nothing.
use Rattle.std.specs.Prelude.{◌≡◌, List, ℕ, ◌*◌, Result, Ok, Err, length}
use Rattle.specification.specs.Checks.{Content, edges_of}
use Rattle.specification.specs.Chart.{Plan, plan_of, vertex_entry, edge_entry, bundle_entry}
use Rattle.specification.specs.Drawn.{Drawn, Summary}
use Rattle.specification.specs.Lent.{Filled}
use Rattle.specification.specs.declared.ChartCounts.{ChartCounts}
use Rattle.specification.specs.declared.Refusal.{Refusal}
use Rattle.specification.specs.Refusals.{refusal_number}
use Rattle.chart_lists.specs.declared.Counts as told
use Rattle.specification.specs.Numbers.{word_numbers, arrow_numbers, bundle_numbers, words, arrows, bundles}

-- every count of the chart of c, and its entries in the lists: r is the answer, ws', es' and bs' are the lists ws, es and bs afterwards
pub record Numbered (c : Content) (p : Plan) (ws es bs : List ℕ) (r : ChartCounts) (ws' es' bs' : List ℕ) : Type 0 where
  pub summary : Summary c p r
  pub word_list : Filled ws (words (vertex_entry c p)) (c.vertices * word_numbers) ws'
  pub arrow_list : Filled es (arrows (edge_entry c p)) (edges_of c * arrow_numbers) es'
  pub bundle_list : Filled bs (bundles (bundle_entry p)) (length p.bundles * bundle_numbers) bs'

pub record Left (d : Drawn) (ws es bs : List ℕ) (r : ChartCounts) (ws' es' bs' : List ℕ) : Type 0 where
  pub refusal : r.refusal ≡ d.refusal
  pub numbered : Numbered d.graph (plan_of d.graph) ws es bs r ws' es' bs'

-- a refusal, or 0, and the counts
pub record Counts : Type 0 where
  pub refusal : ℕ
  pub words : ℕ
  pub arrows : ℕ
  pub bundles : ℕ
  pub rows : ℕ
  pub lines : ℕ
  pub firm : ℕ
  pub width : ℕ

-- the counts with the side columns
abbrev pub whole : Counts → List ℕ → ChartCounts
whole c used = record {
  refusal = c.refusal;
  words = c.words;
  arrows = c.arrows;
  bundles = c.bundles;
  rows = c.rows;
  lines = c.lines;
  firm = c.firm;
  width = c.width;
  side_columns = used;
}

-- a refusal: no count
abbrev pub no_counts : ℕ → Counts
no_counts k = record {
  refusal = k;
  words = 0;
  arrows = 0;
  bundles = 0;
  rows = 0;
  lines = 0;
  firm = 0;
  width = 0;
}

-- what a call says: the counts, or why there are none
abbrev pub counts_of : Result told.Counts Refusal → Counts
counts_of (Ok c) = record {
  refusal = 0;
  words = c.words;
  arrows = c.arrows;
  bundles = c.bundles;
  rows = c.rows;
  lines = c.lines;
  firm = c.firm;
  width = c.width;
}
counts_of (Err k) = no_counts (refusal_number k)
