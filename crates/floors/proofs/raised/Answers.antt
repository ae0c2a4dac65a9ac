use Rattle.counting.proofs.Prelude.{◌≡◌, refl, sym, ap, ◌∙◌, ◌≢◌, ◌⊎◌, inl, inr, ⊎_elim, true, false, true≢false, arith, ◌||◌, ℕ, ◌≤◌}
use Rattle.counting.proofs.Prelude.{eqb, length, eqb-true, eqb-false}
use Rattle.counting.proofs.Truth.{or_elim, or_neither}
use Rattle.std.specs.Prelude.{Some, None, Result, is_some}
use Rattle.specification.specs.declared.Refusal.{Refusal}
use Rattle.specification.specs.Refusals.{refusal_number}
use Rattle.specification.proofs.Cases.{refusal_numbered}
use Rattle.std.proofs.lemmas.Result.{err_from_is_err_and}
use Rattle.descent.specs.Promise.{descent_of}
use Rattle.floors.specs.Promise.{spread}
use Rattle.floors.proofs.Answering.{raises_as, raises_plain, raises_first, raises_unfloored, raises_edges}
use Rattle.floors.proofs.Answering.{raises_settled, liftable, wide_enough}
use Rattle.floors.proofs.raised.Goals as goal
use Rattle.floors.proofs.raised.Goals.{In-Some, else-is_some-via-then-is_some+else-below-spread, else-is_some-via-else-is_some}

-- without floors
pub returns-in_default : goal.returns-in_default
returns-in_default c =
    raises_as _ None c.in_default.is (raises_plain _ _ _ _ _ _ _ _ _ _ _ _ _ c.descend-descended.ensures _)

-- there are floors, and the sets by row have room
spread-fits : (c : In-Some) → let a = c.args in spread a.g.now.vertices ≤ length a.below.now
spread-fits c =
    elim c.else-is_some.branch [
      | else-is_some-via-then-is_some+else-below-spread w ↦ omega (arith, w.if-below-spread.false, c.min.ensures)
      | else-is_some-via-else-is_some w ↦ absurd (true≢false (sym (w.if-is_some.ensures ∙ ap is_some c.in-Some.is)))
    ]

-- the answer of the levels is 8 or 2, or it is neither
first : (k : ℕ) → (eqb k 8 || eqb k 2) ≡ true → (k ≡ 8) ⊎ (k ≡ 2)
first k e = ⊎_elim (λ t. inl (eqb-true _ _ t)) (λ t. inr (eqb-true _ _ t)) (or_elim (eqb k 8) (eqb k 2) e)

neither : (k : ℕ) → (eqb k 8 || eqb k 2) ≡ false → (k ≢ 8) × (k ≢ 2)
neither k e = let n = or_neither (eqb k 8) (eqb k 2) e in (eqb-false _ _ n.0, eqb-false _ _ n.1)

pub returns-then-is_first : goal.returns-then-is_first
returns-then-is_first c =
    let a = c.args in
    raises_as _ (Some c.in-Some.floors) c.in-Some.is
    (raises_first _ _ _ _ _ _ _ _ _ _ _ _ _ c.descend-descended.ensures c.in-Some.floors.now
    (spread-fits (goal.at.returns-then-is_first c).In-Some) (first _ (sym c.if-is_first.ensures)))

pub returns-then-is_unfloored : goal.returns-then-is_unfloored
returns-then-is_unfloored c =
    let n = neither _ (sym c.if-is_first.ensures) in
    raises_as _ (Some c.in-Some.floors) c.in-Some.is
    (raises_unfloored _ _ _ _ _ _ _ _ _ _ _ _ _ c.descend-descended.ensures c.in-Some.floors.now
    (spread-fits (goal.at.returns-then-is_unfloored c).In-Some) n.0 n.1 _ refl (sym c.if-is_unfloored.ensures))

-- 3 to 5
pub returns-in_err-levels : goal.returns-in_err-levels
returns-in_err-levels c =
    let k = c.in_err-levels.field-0.0 in
    let p = err_from_is_err_and c.from_residual.result c.from_residual.ensures.1 in
    let n = neither (refusal_number k)
    (ap (λ (d : Result ℕ Refusal). eqb (descent_of d).refusal 8 || eqb (descent_of d).refusal 2) (sym c.in_err-levels.was)
    ∙ sym c.if-is_first.ensures) in
    rw (p.1, p.2)
    (raises_as _ (Some c.in-Some.floors) c.in-Some.is
    (raises_edges _ _ _ _ _ _ _ _ _ _ _ _ _ c.in_err-levels.ensures c.in-Some.floors.now
    (spread-fits (goal.at.returns-in_err-levels c).In-Some) n.0 n.1 (sym c.if-is_unfloored.ensures) (refusal_numbered k)))

pub settled-requires : goal.settled-requires
settled-requires c =
    let room = spread-fits (goal.at.settled-requires c).In-Some in
    let u = sym c.if-is_unfloored.ensures in (
      liftable _ _ _ _ _ _ _ _ _ _ _ _ _ c.in_ok-levels.ensures c.in-Some.floors.now room (λ z. omega (arith, z))
          (λ z. omega (arith, z)) u refl,
      u,
      wide_enough _ _ _ _ _ _ _ _ _ _ _ _ _ c.in_ok-levels.ensures c.in-Some.floors.now room (λ z. omega (arith, z))
          (λ z. omega (arith, z)) u refl,
    )

pub returns : goal.returns
returns c =
    raises_as _ (Some c.in-Some.floors) c.in-Some.is
    (raises_settled _ _ _ _ _ _ _ _ _ _ _ _ _ c.in_ok-levels.ensures c.in-Some.floors.now
    (spread-fits (goal.at.returns c).In-Some) (λ z. omega (arith, z)) (λ z. omega (arith, z)) (sym c.if-is_unfloored.ensures) refl
    _ _ _ c.settled.ensures c.settled.auto.below c.settled.auto.places)
