use Rattle.counting.proofs.Prelude.{sym, subst, List, ℕ, ◌+◌, ◌≤◌, arith, length, get_or}
use Rattle.specification.specs.Limits.{page_columns}
use Rattle.specification.specs.Geometry.{even_gaps}
use Rattle.chart_plan.specs.Steps.{Owns}
use Rattle.chart_plan.proofs.Owning.{owns_none, owns_more, block_within}
use Rattle.chart_plan.proofs.columns.own_columns.Goals as goal
use Rattle.chart_plan.proofs.columns.own_columns.Goals.{In-loop-l}

pub loop-l-init : goal.loop-l-init
loop-l-init c =
    let W = even_gaps (λ k. get_or c.args.tracks.now k 0) in subst (λ (t : List ℕ). Owns W 0 t 0) (sym c.requires.1) (owns_none W)

-- the block that is next ends within the width
fits : (c : In-loop-l) → c.loop-l.start + get_or c.args.tracks.now c.loop-l.l 0 + 1 + 1 + 1 ≤ page_columns
fits c =
    let tracks = c.args.tracks.now in
    let l = c.loop-l in
    omega (arith, block_within (λ k. get_or tracks k 0) l.l (length tracks) c.loop-l-test.true, l.invariant.end, c.requires.2)

pub overflow_add-x : goal.overflow_add-x
overflow_add-x c = record { fits = omega (arith, fits (goal.at.overflow_add-x c).In-loop-l) }

pub overflow_add-x-in-loop-l : goal.overflow_add-x-in-loop-l
overflow_add-x-in-loop-l c = record { fits = omega (arith, fits (goal.at.overflow_add-x-in-loop-l c).In-loop-l) }

pub overflow_add-start : goal.overflow_add-start
overflow_add-start c = record { fits = omega (arith, fits (goal.at.overflow_add-start c).In-loop-l) }

pub overflow_add-start-in-loop-l : goal.overflow_add-start-in-loop-l
overflow_add-start-in-loop-l c = record { fits = omega (arith, fits (goal.at.overflow_add-start-in-loop-l c).In-loop-l) }

pub loop-l-preserved : goal.loop-l-preserved
loop-l-preserved c =
    let l = c.loop-l in
    owns_more (λ k. get_or c.args.tracks.now k 0) l.l (omega (arith, c.requires.0, c.loop-l-test.true)) l.invariant
