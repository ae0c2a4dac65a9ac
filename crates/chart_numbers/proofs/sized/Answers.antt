use Rattle.counting.proofs.Prelude.{arith, length-replicate, ℕ}
use Rattle.chart_numbers.proofs.Whole.{left-whole}
use Rattle.chart_numbers.proofs.sized.Goals as goal

pub returns : goal.returns
returns g c =
    let s = c.requires.1 in
    let columns = length-replicate {A = ℕ} g.row.VERTICES 0 in
    let pairs = length-replicate {A = ℕ} g.row.PAIRS 0 in
    let places = length-replicate {A = ℕ} g.row.PLACES 0 in
    let spans = length-replicate {A = ℕ} g.row.SPANS 0 in
    let rows = length-replicate {A = ℕ} g.row.ROWS 0 in
    left-whole _ _ _ _ _ _ _ _ _ (omega (arith, c.drawn.ensures.long.used, c.requires.0))
    (c.drawn.ensures.left
    (record {
      masks = record {
        masks = record {
          edges = omega (arith, s.pairs_fit);
          below = omega (arith, s.rows_fit.0.0);
          table = omega (arith, s.pairs_fit);
          longer = omega (arith, s.pairs_fit);
          places = omega (arith, s.places_fit);
        };
        rows = λ f. let enough = s.rows_fit.0.1 f in omega arith;
      };
      spans = omega (arith, s.spans_fit);
      number = omega (arith, s.pairs_fit);
      used = omega (arith, c.requires.0);
      column = omega (arith, s.columns_fit);
    }))
