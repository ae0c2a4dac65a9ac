use Rattle.counting.proofs.Prelude.{◌≡◌, refl, ◌∙◌, subst, ℕ, ◌+◌, ◌*◌, arith, get_or}
use Rattle.prefixes.specs.Steps.{Stage}
use Rattle.prefixes.proofs.Stages.{stage_pair, stage_all, twice-kept}
use Rattle.prefixes.proofs.join.Goals as goal

pub loop-k-init : goal.loop-k-init
loop-k-init c = ((λ n key g. g), λ i h. refl)

pub loop-k-preserved : goal.loop-k-preserved
loop-k-preserved c =
    let l = c.loop-k in (
      (λ n key g. stage_pair _ _ _ _ _ _ (omega arith) refl (l.invariant.0 n key g)),
      λ i h. twice-kept l.sets (2 * l.k + 2) (2 * l.k + 3) (get_or l.sets (2 * l.k) 0) (get_or l.sets (2 * l.k + 1) 0) i
          (λ e. omega arith) (λ e. omega arith) ∙ l.invariant.1 i h,
    )

pub returns : goal.returns
returns c =
    let l = c.loop-k in
    let a = c.args in
    let e : l.k ≡ a.top = omega arith in (
      (λ n key g. stage_all 2 key a.top n l.sets (subst (λ (k : ℕ). Stage 2 n key a.top k l.sets) e (l.invariant.0 n key g))),
      l.invariant.1,
    )
