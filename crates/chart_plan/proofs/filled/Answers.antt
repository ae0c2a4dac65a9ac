use Rattle.counting.proofs.Prelude.{refl}
use Rattle.chart_plan.proofs.Laying.{spaceable, all_laid}
use Rattle.chart_plan.proofs.filled.Goals as goal

pub columns_of-width-requires : goal.columns_of-width-requires
columns_of-width-requires c = spaceable c.requires refl c.bundled-bundles.ensures c.tracked.ensures

pub returns : goal.returns
returns c = all_laid refl c.bundled-bundles.ensures c.tracked.ensures c.columns_of-width.ensures
