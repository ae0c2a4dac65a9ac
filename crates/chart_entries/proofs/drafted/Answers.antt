-- `chart_entries::drafted` meets its contract: the tables are the plan's by definition. Assumes nothing.
use Rattle.counting.proofs.Prelude.{refl}
use Rattle.chart_entries.proofs.drafted.Goals as goal

pub returns : goal.returns
returns c =
    let made = c.by_channel.ensures in
    λ edges table. record { tables = refl; lefts = rw made.0 at made.1 }
