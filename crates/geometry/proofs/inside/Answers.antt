use Rattle.counting.proofs.Prelude.{⊎_elim, arith}
use Rattle.geometry.proofs.Tests.{hit_low, hit_high, hit_between}
use Rattle.geometry.proofs.inside.Goals as goal

-- `geometry::inside` meets its contract. Assumes nothing.
pub returns-then-py-ay : goal.returns-then-py-ay
returns-then-py-ay c = ⊎_elim (λ h. hit_low _ _ _ (omega arith)) (λ h. hit_high _ _ _ (omega arith)) c.then-py-ay.either

pub returns : goal.returns
returns c = hit_between _ _ _ _ (omega arith) (omega arith) c.aligned.ensures
