use Rattle.counting.proofs.Prelude.{refl, arith}
use Rattle.chart_lists.proofs.hand.make_left.Goals as goal

-- of two channels no set is read
pub returns-else-count-gt-NONE_BETWEEN : goal.returns-else-count-gt-NONE_BETWEEN
returns-else-count-gt-NONE_BETWEEN c = (λ h. absurd (omega arith), refl)
