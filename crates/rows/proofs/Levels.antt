-- Levels are the rows of no floor, and so the laws of rows are theirs. Assumes nothing.
use Rattle.counting.proofs.Prelude.{◌≡◌, refl, Bool, true, ℕ, zero, suc, ◌≤◌, ◌<◌, zero-le, arith}
use Rattle.specification.specs.Count.{above}
use Rattle.specification.specs.Rows.{row_within, row, rows_used}
use Rattle.specification.specs.Limits.{longest_path}
use Rattle.counting.proofs.Above.{above_each, above-le, above_ext}
use Rattle.rows.specs.Levels.{level_within, level, levels_used}
use Rattle.rows.proofs.Compaction.{Order, rows_below, rows-rule}

-- no vertex is lifted
module _ (E : ℕ → ℕ → Bool) (floor : ℕ → ℕ) (n : ℕ) (none : (v : ℕ) → v < n → floor v ≡ 0) where
  level-within : (k v : ℕ) → v < n → row_within E floor n k v ≡ level_within E n k v
  unfolding row_within level_within
  level-within zero v h = none v h
  level-within (suc k) v h =
      let same = above_ext n (λ u. E u v) (λ u. E u v) (row_within E floor n k) (level_within E n k) (λ u l. refl)
      (λ u l e. level-within k u l) in
      omega (arith, same, none v h)

  pub row-level : (v : ℕ) → v < n → row E floor n v ≡ level E n v
  row-level = level-within longest_path

  pub used_level : rows_used E floor n ≡ levels_used E n
  used_level = above_ext n (λ v. true) (λ v. true) (row E floor n) (level E n) (λ v l. refl) (λ v l t. row-level v l)

-- no floor lowers a vertex: as many rows are used as levels, or more
module _ (E : ℕ → ℕ → Bool) (floor : ℕ → ℕ) (n : ℕ) where
  level-low : (k v : ℕ) → level_within E n k v ≤ row_within E floor n k v
  unfolding row_within level_within
  level-low zero v = zero-le
  level-low (suc k) v =
      let a = above-le n (λ u. E u v) (level_within E n k) (above n (λ u. E u v) (row_within E floor n k))
      (λ u l e. let b = above_each n (λ x. E x v) (row_within E floor n k) u l e in omega (arith, level-low k u)) in
      omega arith

  pub used_low : levels_used E n ≤ rows_used E floor n
  used_low =
      above-le n (λ v. true) (level E n) (rows_used E floor n)
      (λ v l e. let a = above_each n (λ x. true) (row E floor n) v l e in omega (arith, level-low longest_path v))

module _ (E L : ℕ → ℕ → Bool) (n : ℕ) (o : Order E L n) (small : n ≤ 128) where
  abbrev flat : ℕ → ℕ
  flat v = 0

  same : (v : ℕ) → v < n → row E flat n v ≡ level E n v
  same = row-level E flat n (λ v h. refl)

  pub levels_below : (v : ℕ) → v < n → level E n v < n
  levels_below v h = omega (arith, same v h, rows_below E L n o flat 0 (λ v l. omega arith) v h)

  pub levels_rule : (v : ℕ) → v < n → level E n v ≡ above n (λ u. E u v) (level E n)
  levels_rule v h =
      let tails = above_ext n (λ u. E u v) (λ u. E u v) (row E flat n) (level E n) (λ u l. refl) (λ u l e. same u l) in
      omega (arith, same v h, rows-rule E L n o flat small v h, tails)
