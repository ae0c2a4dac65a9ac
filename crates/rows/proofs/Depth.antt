-- How the level of a vertex depends on how far back edges are followed. Assumes nothing.
use Rattle.counting.proofs.Prelude.{◌≡◌, refl, ◌⊎◌, inl, inr, ⊎_elim, Bool, ℕ, zero, suc, ◌≤◌, ◌<◌, arith}
use native.Mathlib.Nat.{not-suc-le-zero}
use Rattle.rows.specs.Levels.{level_within}
use Rattle.counting.proofs.Above.{above_each, above-le, above_ext}

module _ (E : ℕ → ℕ → Bool) (n : ℕ) where
  -- a level below j is the same at every depth from j on
  pub settled : (j k v : ℕ) → j ≤ k → (level_within E n k v < j) ⊎ (level_within E n j v < j) → level_within E n k v ≡ level_within E n j v
  unfolding level_within
  settled zero k v l c = ⊎_elim (λ h. absurd (not-suc-le-zero h)) (λ h. absurd (not-suc-le-zero h)) c
  settled (suc j) zero v l c = absurd (not-suc-le-zero l)
  settled (suc j) (suc k) v l c =
      above_ext n (λ u. E u v) (λ u. E u v) (level_within E n k) (level_within E n j) (λ u l. refl)
      (λ u lu e. settled j k u (omega arith) (⊎_elim
      (λ h. inl (let b = above_each n (λ x. E x v) (level_within E n k) u lu e in omega arith))
      (λ h. inr (let b = above_each n (λ x. E x v) (level_within E n j) u lu e in omega arith))
      c))

  -- a level is at most the depth
  pub shallow : (k v : ℕ) → level_within E n k v ≤ k
  unfolding level_within
  shallow zero v = omega arith
  shallow (suc k) v = above-le n (λ u. E u v) (level_within E n k) (suc k) (λ u lu e. let b = shallow k u in omega arith)
