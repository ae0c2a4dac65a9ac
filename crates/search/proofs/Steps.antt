-- The steps over the tables, case by case. Nothing else opens their `scan`. Assumes nothing.
use Rattle.counting.proofs.Prelude.{◌≡◌, refl, ap, ◌∙◌, ◌≢◌, Bool, true, false, not, ℕ, zero, suc, ◌+◌, ◌≤◌, ◌<◌, arith, eqb, length}
use Rattle.counting.proofs.Prelude.{not-true}
use native.Mathlib.Decide.{ℕ_discrete}
use Rattle.specification.specs.Count.{indicator, sum, count}
use Rattle.counting.proofs.Truth.{and_elim}
use Rattle.counting.proofs.Classes.{sum-change, count-le}
use Rattle.masks.proofs.Members.{inserted-here, inserted_other}
use Rattle.search.specs.Steps.Coded.{State, nobody, seen, unvisited, scan, candidate, predecessor_of, marked, taken, missed}

module _ (leads : ℕ → ℕ → Bool) (n : ℕ) (again : ℕ → State → State) (h j v : ℕ) (s : State) where
  pub scan_end : scan leads n again h zero v s ≡ missed s
  unfolding scan
  scan_end = refl

  pub scan_pass : candidate leads h v s ≡ false → scan leads n again h (suc j) v s ≡ scan leads n again h j (suc v) s
  unfolding scan
  scan_pass e = rw e

  pub scan_free : candidate leads h v s ≡ true → eqb (predecessor_of v s) nobody ≡ true
      → scan leads n again h (suc j) v s ≡ taken h v (marked v s)
  unfolding scan
  scan_free e f = rw (e, f)

  pub scan-moved : candidate leads h v s ≡ true → eqb (predecessor_of v s) nobody ≡ false
      → (again (predecessor_of v s) (marked v s)).found ≡ true
      → scan leads n again h (suc j) v s ≡ taken h v (again (predecessor_of v s) (marked v s))
  unfolding scan
  scan-moved e f g = rw (e, f, g)

  pub scan_stuck : candidate leads h v s ≡ true → eqb (predecessor_of v s) nobody ≡ false
      → (again (predecessor_of v s) (marked v s)).found ≡ false
      → scan leads n again h (suc j) v s ≡ scan leads n again h j (suc v) (again (predecessor_of v s) (marked v s))
  unfolding scan
  scan_stuck e f g = rw (e, f, g)

module _ (leads : ℕ → ℕ → Bool) (h v : ℕ) (s : State) where
  -- a vertex to try: h leads to it, and it is not visited
  pub candidate_fact : candidate leads h v s ≡ true → (leads h v ≡ true) × (seen v s ≡ false)
  unfolding candidate
  candidate_fact e = let p = and_elim (leads h v) (not (seen v s)) e in (p.0, not-true (seen v s) p.1)

pub unvisited-le : (n : ℕ) (s : State) → unvisited n s ≤ n
unfolding unvisited
unvisited-le n s = count-le n _

module _ (v : ℕ) (s : State) where
  pub marked_other : (u : ℕ) → u ≢ v → seen u (marked v s) ≡ seen u s
  unfolding marked seen
  marked_other u d = inserted_other s.visited 0 v u d

  module _ (long : length s.visited ≡ 2) (l : v < 128) where
    pub marked-seen : seen v (marked v s) ≡ true
    unfolding marked seen
    marked-seen = inserted-here s.visited 0 v (omega (arith, long))

    pub marked_mono : (u : ℕ) → seen u s ≡ true → seen u (marked v s) ≡ true
    marked_mono u e = go (ℕ_discrete u v)
      where
        go : Dec (u ≡ v) → seen u (marked v s) ≡ true
        go (yes q) = ap (λ x. seen x (marked v s)) q ∙ marked-seen
        go (no q) = marked_other u q ∙ e

    pub marked_fewer : (n : ℕ) → v < n → seen v s ≡ false → unvisited n (marked v s) + 1 ≡ unvisited n s
    unfolding unvisited count
    marked_fewer n m e =
        let f : ℕ → ℕ = λ u. indicator (not (seen u (marked v s))) in
        let g : ℕ → ℕ = λ u. indicator (not (seen u s)) in
        let d : sum n f + g v ≡ sum n g + f v = sum-change n f g v m (λ u q. ap (λ b. indicator (not b)) (marked_other u q)) in
        let a : f v ≡ 0 = ap (λ b. indicator (not b)) marked-seen in
        let b : g v ≡ 1 = ap (λ b. indicator (not b)) e in
        omega arith
