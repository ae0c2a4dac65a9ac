use Rattle.counting.proofs.Prelude.{arith}
use Rattle.chart_numbers.proofs.graphed.Goals as goal

-- 15 vertices with floors: a set for every row that they can have
pub sized-requires : goal.sized-requires
sized-requires c = (
  c.requires,
  record {
    columns_fit = (omega arith, omega arith);
    pairs_fit = (omega arith, omega arith);
    places_fit = (omega arith, omega arith);
    spans_fit = (omega arith, omega arith);
    rows_fit = ((omega arith, λ f. omega arith), omega arith);
  },
)
