use Rattle.counting.proofs.Prelude.{◌≡◌, refl, true, min, arith, rules}
use Rattle.std.proofs.lemmas.Result.{err_from_is_err_and}
use Rattle.specification.specs.Parts.{present?}
use Rattle.specification.proofs.Cases.{refusal_numbered}
use Rattle.chart_plan.specs.Laid.{Lists, lists}
use Rattle.chart_plan.proofs.Planning.{tested, tested_so, cramped_plan, refused-plan, passed, broad_plan, laid-plan}
use Rattle.chart_plan.proofs.planned.Goals as goal
use Rattle.chart_plan.proofs.planned.Goals.{After-is_roomy}

-- the lists that are lent
abbrev lent : After-is_roomy → Lists
lent k =
    let a = k.args in
    lists a.edges.now a.below.now a.table.now a.longer.now a.places.now a.spans.now a.number.now a.used.now a.column.now

-- where the checks are made, those that are not of masks have room
fine : (k : After-is_roomy) → k.is_roomy.result ≡ true → tested k.args.g.now.vertices (lent k) ≡ true
fine k h =
    tested_so k.args.g.now.vertices (present? k.args.g.now.floors) (lent k)
    (let e : k.min.result ≡ min k.args.g.now.vertices 128 = search rules in e) k.is_roomy.ensures h

pub returns-then-not-is_roomy : goal.returns-then-not-is_roomy
returns-then-not-is_roomy c =
    let k = (goal.at.returns-then-not-is_roomy c).After-is_roomy in
    let g = c.args.g.now in
    cramped_plan g.vertices (present? g.floors) (lent k) _ _ _ _
    (tested_so g.vertices (present? g.floors) (lent k)
    (let e : k.min.result ≡ min g.vertices 128 = search rules in e) k.is_roomy.ensures c.if-not-is_roomy.true) _ refl

pub returns-in_err-checked : goal.returns-in_err-checked
returns-in_err-checked c =
    let k = (goal.at.returns-in_err-checked c).After-is_roomy in
    let p = err_from_is_err_and c.from_residual.result c.from_residual.ensures.1 in
    rw (p.1, p.2) (refused-plan (lent k) (fine k c.if-not-is_roomy.false) c.in_err-checked.ensures (refusal_numbered _) _ refl)

pub returns-then-checked-gt-MOST_CHANNELS : goal.returns-then-checked-gt-MOST_CHANNELS
returns-then-checked-gt-MOST_CHANNELS c =
    let k = (goal.at.returns-then-checked-gt-MOST_CHANNELS c).After-is_roomy in
    broad_plan (lent k) (fine k c.if-not-is_roomy.false) c.in_ok-checked.ensures refl
    (omega (arith, c.if-checked-gt-MOST_CHANNELS.true)) _ refl

pub filled-requires : goal.filled-requires
filled-requires c =
    let k = (goal.at.filled-requires c).After-is_roomy in
    passed (lent k) (fine k c.if-not-is_roomy.false) c.in_ok-checked.ensures refl

pub returns : goal.returns
returns c =
    let k = (goal.at.returns c).After-is_roomy in
    laid-plan (lent k) (fine k c.if-not-is_roomy.false) c.in_ok-checked.ensures refl
    (omega (arith, c.if-checked-gt-MOST_CHANNELS.false)) c.filled.ensures
