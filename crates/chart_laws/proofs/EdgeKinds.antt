-- The kind of an edge, by its ends' channels and positions. Assumes nothing.
use Rattle.counting.proofs.Prelude.{◌≡◌, ◌≢◌, true, false, List, ℕ, eq-eqb, ne_eqb}
use Rattle.specification.specs.Channels.{channel_of, position_of}
use Rattle.specification.specs.Checks.{Content}
use Rattle.specification.specs.Bundles.{bundle_of, adjacent?}
use Rattle.specification.specs.Geometry.{course_of}
use Rattle.specification.specs.declared.Kind.TheVariants.{Path, PathTransitive}
use Rattle.specification.specs.Chart.{Plan, channels_of, tracked, bundled, plan_of, place_of, crossing, kind_between}

module _ (c : Content) (u v : ℕ) where
  abbrev ls : List (List ℕ)
  ls = channels_of c

  abbrev p : Plan
  p = plan_of c

  pub kind-path : channel_of ls u ≡ channel_of ls v → adjacent? (position_of ls u) (position_of ls v) ≡ true → kind_between c p u v ≡ Path
  unfolding plan_of bundled tracked kind_between
  kind-path e a = rw (eq-eqb _ _ e, a)

  pub kind-side : channel_of ls u ≡ channel_of ls v → adjacent? (position_of ls u) (position_of ls v) ≡ false
      → kind_between c p u v ≡ PathTransitive (bundle_of p.bundles u v)
  unfolding plan_of bundled tracked kind_between
  kind-side e a = rw (eq-eqb _ _ e, a)

  pub kind_cross : channel_of ls u ≢ channel_of ls v → kind_between c p u v ≡ crossing (course_of (place_of c p) c.vertices u v)
  unfolding plan_of bundled tracked kind_between
  kind_cross e = rw (ne_eqb _ _ e)
