use Rattle.counting.proofs.Prelude.{◌∙◌}
use Rattle.specification.specs.Drawn.{graph_content}
use Rattle.specification.specs.Parts.{present?, bytes_of}
use Rattle.chart_lists.proofs.Drawing.{draws_handed}
use Rattle.chart_lists.proofs.drawn.Goals as goal

pub hand_over-requires : goal.hand_over-requires
unfolding graph_content
hand_over-requires c =
    let p = c.planned-plan.ensures in
    record {
      given = present? c.args.g.now.given;
      field = bytes_of c.args.g.now.given;
      edges = _;
      table = _;
      laid = p.laid;
      left_room = λ z. (p.laid z).room.masks.masks.table;
    }

pub returns : goal.returns
returns c =
    let p = c.planned-plan.ensures in
    let h = c.hand_over in
    draws_handed _ _ _ _ _ _ _ _ _ _ _ _ p _ _ _ _ _ _ h.ensures
    (record {
      edges = p.long.edges;
      below = p.long.below;
      table = h.auto.left ∙ p.long.table;
      longer = p.long.longer;
      places = p.long.places;
      spans = p.long.spans;
      number = p.long.number;
      used = h.auto.used ∙ p.long.used;
      column = p.long.column;
    })
