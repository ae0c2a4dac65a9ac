-- The columns of a sound graph stand on the page (SPECIFICATION.md, 8.2). Assumes nothing.
use Rattle.counting.proofs.Prelude.{◌≡◌, refl, List, ℕ, ◌+◌, ◌≤◌, ◌<◌, arith, length}
use Rattle.specification.specs.Channels.{channel_of}
use Rattle.specification.specs.Checks.{Content, Sound}
use Rattle.specification.specs.Geometry.{own_column, gap_width}
use Rattle.specification.specs.Chart.{Plan, channels_of, tracked, bundled, plan_of, widths, column_in, width_of}
use Rattle.specification.specs.Limits.{page_columns}
use Rattle.geometry.proofs.Blocks.{column_bound, width_bound}
use Rattle.chart_laws.proofs.Channels.{size_of, sizes_sum, size_positive, channels-few, channel_below, vertices_small}
use Rattle.chart_laws.proofs.Bundling.{tracks-few}

module _ (c : Content) (s : Sound c) where
  abbrev n : ℕ
  n = c.vertices

  abbrev ls : List (List ℕ)
  ls = channels_of c

  abbrev p : Plan
  p = plan_of c

  -- a channel's own column, and the gap after it
  pub own_on_page : (l : ℕ) → l < length ls → own_column (widths p) l + gap_width < page_columns
  own_on_page =
      column_bound (widths p) (length ls) 3 128 (size_of c) (λ l h. tracks-few c s l) (λ l h. omega arith) (size_positive c s)
      (omega (arith, sizes_sum c s, vertices_small c s))

  pub column_own : (v : ℕ) → column_in p v ≡ own_column (widths p) (channel_of ls v)
  unfolding plan_of bundled tracked column_in
  column_own v = refl

  pub column_below : (v : ℕ) → v < n → column_in p v + gap_width < page_columns
  column_below v h = omega (arith, column_own v, own_on_page (channel_of ls v) (channel_below c s v h))

  pub width_on_page : width_of p ≤ page_columns
  unfolding plan_of bundled tracked width_of
  width_on_page =
      omega (
        arith,
        width_bound (widths p) (length ls) 3 (size_of c) (λ l h. tracks-few c s l) (λ l h. omega arith),
        sizes_sum c s,
        channels-few c s,
        vertices_small c s,
      )
