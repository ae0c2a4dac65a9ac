-- The edges of a table, and what they reach, computed. Assumes nothing.
use Rattle.counting.proofs.Prelude.{◌≡◌, ap, ◌∙◌, ◌↔◌, true, ◌&&◌, List, ℕ, eqb, ltb, eq-eqb, eqb-true, lt-ltb, ltb-true}
use Rattle.specification.specs.Count.{indicator, sum, count}
use Rattle.counting.proofs.Truth.{and_intro, and_elim, same_truth}
use Rattle.counting.proofs.Sums.{sum_ext}
use Rattle.specification.specs.Sets.{at, has?}
use Rattle.masks.proofs.Tables.{at_lt}
use Rattle.specification.specs.Graph.{Reaches, reaches?}
use Rattle.reach.proofs.Decide.{reaches_decided}
use Rattle.reach.proofs.Closures.{test_value}
use Rattle.descent.specs.Steps.Closed.{Arc, arc?, Reached, Inside}

pub arc_decided : (e : List ℕ) (u v : ℕ) → Arc e u v ↔ (arc? e u v ≡ true)
unfolding arc? has?
arc_decided e u v = (
  (λ a. and_intro (ltb u 128) (ltb v 128 && has? 2 e u v) (lt-ltb u 128 a.0)
      (and_intro (ltb v 128) (has? 2 e u v) (lt-ltb v 128 a.1) (eq-eqb _ _ a.2))),
  λ t. let p = and_elim (ltb u 128) (ltb v 128 && has? 2 e u v) t in
      let q = and_elim (ltb v 128) (has? 2 e u v) p.1 in
      (ltb-true u 128 p.0, ltb-true v 128 q.0, eqb-true _ _ q.1),
)

module _ (e : List ℕ) (n : ℕ) (inside : Inside e n) where
  pub reached_decided : (u v : ℕ) → Reaches (Arc e) u v ↔ (reaches? (arc? e) n u v ≡ true)
  reached_decided = reaches_decided (Arc e) (arc? e) (arc_decided e) n inside.tail

  -- the number of reached vertices
  pub reached-count : (t : List ℕ) (u : ℕ) → Reached e t u → sum 128 (at 2 t u) ≡ count 128 (reaches? (arc? e) n u)
  unfolding count
  reached-count t u r =
      sum_ext 128 (at 2 t u) (λ v. indicator (reaches? (arc? e) n u v))
      (λ v h. test_value (at 2 t u v) (at_lt 2 t u v) ∙ ap indicator (same_truth (eqb (at 2 t u v) 1) (reaches? (arc? e) n u v)
      (λ q. (reached_decided u v).0 ((r v h).0 (eqb-true _ _ q)))
      (λ q. eq-eqb _ _ ((r v h).1 ((reached_decided u v).1 q)))))
