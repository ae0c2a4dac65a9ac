use Rattle.search.proofs.Open.{put_low, put-high}
use Rattle.search.proofs.visit.Goals as goal

-- `search::visit` meets its contract: v's bit is set in the mask that holds it. Assumes nothing.
pub returns-then-v-lt64 : goal.returns-then-v-lt64
returns-then-v-lt64 c = put_low _ _ c.if-v-lt64.true

pub returns-else-v-lt64 : goal.returns-else-v-lt64
returns-else-v-lt64 c = put-high _ _ c.if-v-lt64.false c.requires
