use Rattle.counting.proofs.Prelude.{[], ◌∷◌}
use Rattle.search.specs.Steps.Search.{NextOpen}
use Rattle.search.proofs.Open.{open_low, open_high, opens_yes, opens_no}
use Rattle.search.proofs.first_open.Goals as goal
use Rattle.search.proofs.first_open.Goals.{Joined-x-ne0, then-x-ne0, else-x-ne0}

-- v is the first vertex of all that is not visited, or 128
first : (c : Joined-x-ne0) → NextOpen (c.args.low ∷ c.args.high ∷ []) 0 c.args.visited.now 0 c.if-x-ne0.v
first c =
    elim c.if-x-ne0.branch [
      | then-x-ne0 w ↦ rw w.v-is (open_low _ c.args.high _ (λ i. (c.type_inv.visited i).fits) c.ranges.low.fits w.if-x-ne0.true)
      | else-x-ne0 w ↦ rw w.v-is (open_high _ _ _ (λ i. (c.type_inv.visited i).fits) w.if-x-ne0.false)
    ]

pub returns-then-v-n : goal.returns-then-v-n
returns-then-v-n c = opens_yes _ _ _ _ _ (first (goal.at.returns-then-v-n c).Joined-x-ne0) c.if-v-n.true

pub returns-else-v-n : goal.returns-else-v-n
returns-else-v-n c = opens_no _ _ _ _ _ (first (goal.at.returns-else-v-n c).Joined-x-ne0) c.if-v-n.false
