-- The chart of no graph has no count. Assumes nothing.
use Rattle.counting.proofs.Prelude.{◌≡◌, refl, sym, ap, subst, List, [], ℕ, zero, suc, ◌<◌, length, replicate, ◌∙◌}
use Rattle.specification.specs.Count.{sum, count, above}
use Rattle.specification.specs.Channels.{given_lines}
use Rattle.specification.specs.Planning.{begun, planned_to, planned}
use Rattle.specification.specs.Given.{without, beside, with_given}
use Rattle.specification.specs.Checks.{edges_of, nothing}
use Rattle.specification.specs.Marks.{reduced_count}
use Rattle.specification.specs.Bundles.{bundles, bundles_of}
use Rattle.specification.specs.Tracks.{in_row, in_rows, tracks}
use Rattle.specification.specs.Geometry.{block_start}
use Rattle.specification.specs.Chart.{Plan, plan_of, bundled, tracked, channels_of, row_count, reduced_edges, width_of, tracks_in}
use Rattle.specification.specs.declared.ChartCounts.{ChartCounts}
use Rattle.specification.specs.Drawn.{Summary, Zeroed}

-- without bundles every track is 0
no_tracks : (f g h : ℕ → ℕ) (r : ℕ) → in_rows 0 f g h r ≡ replicate 256 0
unfolding in_rows in_row
no_tracks f g h zero = refl
no_tracks f g h (suc r) = no_tracks f g h r

abbrev bare : Plan
bare = record { channels = []; bundles = []; tracks = replicate 256 0 }

nothing-plan : plan_of nothing ≡ bare
unfolding plan_of bundled tracked channels_of given_lines with_given beside without planned planned_to begun bundles_of bundles tracks
nothing-plan = ap (λ (t : List ℕ). record { channels = []; bundles = []; tracks = t }) (no_tracks _ _ _ 256)

pub record Empty (p : Plan) : Type 0 where
  pub edges : edges_of nothing ≡ 0
  pub bundles : length p.bundles ≡ 0
  pub rows : row_count nothing ≡ 0
  pub channels : length p.channels ≡ 0
  pub reduced : reduced_edges nothing ≡ 0
  pub width : width_of p ≡ 0
  pub tracks : (l : ℕ) → l < 128 → tracks_in p l ≡ 0

bare-empty : Empty bare
unfolding row_count above reduced_edges reduced_count count sum width_of block_start tracks_in
bare-empty = record { edges = refl; bundles = refl; rows = refl; channels = refl; reduced = refl; width = refl; tracks = λ l h. refl }

-- NOTHING: a refusal has no count
pub empty : Empty (plan_of nothing)
empty = subst Empty (sym nothing-plan) bare-empty

pub nothing_zeroed : (r : ChartCounts) → Summary nothing (plan_of nothing) r → Zeroed r
nothing_zeroed r s = record {
  words = s.words;
  arrows = s.arrows ∙ empty.edges;
  bundles = s.bundles ∙ empty.bundles;
  rows = s.rows ∙ empty.rows;
  lines = s.lines ∙ empty.channels;
  firm = s.firm ∙ empty.reduced;
  width = s.width ∙ empty.width;
  side_columns = λ l h. s.side_columns l h ∙ empty.tracks l h;
}
