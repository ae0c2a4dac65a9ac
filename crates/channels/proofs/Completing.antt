-- Given channels, and those planned for the vertices that they lack. Assumes nothing.
use Rattle.counting.proofs.Prelude.{◌≡◌, sym, ◌∙◌, subst, ◌≢◌, List, ℕ, ◌*◌, ◌≤◌, arith, length}
use Rattle.specification.specs.Channels.{lines_of, vertices_of}
use Rattle.specification.specs.Given.{held_in, with_given}
use Rattle.specification.specs.Sets.{has?}
use Rattle.specification.specs.declared.Connection.{Connection}
use Rattle.matching.specs.Given.{Fitting}
use Rattle.matching.proofs.Lists.{length-bound}
use Rattle.matching.proofs.Beside.{given-all}
use Rattle.planning.specs.Arranged.{Arranged, Kept}
use Rattle.planning.specs.Promise.{Channels, Besides}
use Rattle.planning.proofs.Answers.{beside-given}
use Rattle.channels.specs.Steps.Walked.{Walked, Walks}
use Rattle.channels.proofs.Checks.{all_there}
use Rattle.channels.proofs.Theorems.{taken_fits}

module _ (ask : ℕ → ℕ → Connection) (n : ℕ) (field p : List ℕ) (w : Walked) (p₁ : List ℕ) (a : Walks ask n field p w p₁)
    (z : w.refusal ≡ 0) where
  fits : Fitting n (lines_of field)
  fits = taken_fits ask n field (sym a.answer ∙ z)

  few : w.vertices ≤ n
  few = omega (arith, a.total z, length-bound n (vertices_of field) fits.only (λ v _. fits.once v))

  -- they hold every vertex
  pub complete_all : (table : List ℕ) → w.vertices ≡ n → Arranged n (with_given (has? 2 table) n (lines_of field)) w.count p₁
  unfolding held_in
  complete_all table e =
      subst (λ ls. Arranged n ls w.count p₁)
      (sym (given-all (has? 2 table) n (lines_of field)
      (all_there n (vertices_of field) fits.only fits.once (sym (a.total z) ∙ e))))
      (a.laid z)

  -- or not: then there are fewer than 128 channels, and others follow
  pub completed : (table : List ℕ) → w.vertices ≢ n → n ≤ 128 → 4 * n ≤ length p₁ → (r : Channels) (p' : List ℕ)
      → Besides n table w.seen w.count p₁ r p'
      → (r.refusal ≡ 0) × Arranged n (with_given (has? 2 table) n (lines_of field)) r.count p' × Kept n p₁ p'
  completed table d small room r p' b =
      let taken : r.refusal ≡ 0 = b.refused (omega arith) (omega (arith, few, a.few z)) in
      let q = beside-given n table w.seen (lines_of field) (a.held z) n w.count p₁ r p' (omega arith) fits (a.laid z) b
      taken in
      (taken, q.0, q.1)
