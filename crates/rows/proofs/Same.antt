-- Rows go by the edges between the n vertices and their floors alone. Assumes nothing.
use Rattle.counting.proofs.Prelude.{◌≡◌, refl, ap₂, Bool, true, ℕ, zero, suc, ◌<◌, max}
use Rattle.specification.specs.Rows.{row_within, row, rows_used}
use Rattle.specification.specs.Limits.{longest_path}
use Rattle.counting.proofs.Above.{above_ext}
use Rattle.rows.specs.Levels.{level_within, level, levels_used}

module _ (E F : ℕ → ℕ → Bool) (floor lift : ℕ → ℕ) (n : ℕ) (same : (u v : ℕ) → u < n → v < n → E u v ≡ F u v)
    (as-low : (v : ℕ) → v < n → floor v ≡ lift v) where
  pub within_same : (k v : ℕ) → v < n → row_within E floor n k v ≡ row_within F lift n k v
  unfolding row_within
  within_same zero v h = as-low v h
  within_same (suc k) v h =
      ap₂ max (as-low v h)
      (above_ext n (λ u. E u v) (λ u. F u v) (row_within E floor n k) (row_within F lift n k) (λ u l. same u v l h)
      (λ u l t. within_same k u l))

  pub row_same : (v : ℕ) → v < n → row E floor n v ≡ row F lift n v
  row_same = within_same longest_path

  pub used_same : rows_used E floor n ≡ rows_used F lift n
  used_same = above_ext n (λ v. true) (λ v. true) (row E floor n) (row F lift n) (λ v l. refl) (λ v l t. row_same v l)

-- levels go by the edges
module _ (E F : ℕ → ℕ → Bool) (n : ℕ) (same : (u v : ℕ) → u < n → v < n → E u v ≡ F u v) where
  pub levels_same : (k v : ℕ) → v < n → level_within E n k v ≡ level_within F n k v
  unfolding level_within
  levels_same zero v h = refl
  levels_same (suc k) v h =
      above_ext n (λ u. E u v) (λ u. F u v) (level_within E n k) (level_within F n k) (λ u l. same u v l h) (λ u l t. levels_same k u l)

  pub levels_used_same : levels_used E n ≡ levels_used F n
  levels_used_same =
      above_ext n (λ v. true) (λ v. true) (level E n) (level F n) (λ v l. refl) (λ v l t. levels_same longest_path v l)
