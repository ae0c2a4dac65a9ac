use Rattle.counting.proofs.Prelude.{◌≡◌, refl, sym, ◌∙◌, true, true≢false}
use Rattle.specification.specs.Sets.{member?}
use Rattle.channels.specs.Steps.Walked.{weighed}
use Rattle.channels.proofs.weigh.Goals as goal

-- v stood there before
pub returns-then-contains : goal.returns-then-contains
unfolding weighed
returns-then-contains c =
    let e : member? c.args.seen.now 0 c.args.v ≡ true = sym c.contains.ensures ∙ c.if-contains.true in
    (rw e refl, λ n. absurd (true≢false (sym e ∙ n)))
