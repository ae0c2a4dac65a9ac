-- The bundles and tracks of a sound graph: every path-transitive edge is in a bundle of its channel, and how many of both there are.
-- Assumes nothing.
use Rattle.counting.proofs.Prelude.{◌≡◌, refl, ap, Bool, true, false, not, List, ℕ, ◌*◌, ◌≤◌, ◌<◌, min, arith, eqb, length, eq-eqb}
use Rattle.counting.proofs.Prelude.{eqb-true, lt-ltb}
use Rattle.specification.specs.Count.{count}
use Rattle.specification.specs.Graph.{edge?}
use Rattle.specification.specs.Channels.{channel_of, position_of}
use Rattle.specification.specs.Checks.{Content, Sound}
use Rattle.specification.specs.Bundles.{Bundle, bundle_of, adjacent?, apart?, side?}
use Rattle.specification.specs.Tracks.{different_in}
use Rattle.specification.specs.Chart.{row_of, row_count, Plan, channels_of, tracked, bundled, plan_of, bundle_in, track_in, tracks_in}
use Rattle.counting.proofs.Truth.{and_intro}
use Rattle.counting.proofs.Above.{above_each, above-le}
use Rattle.bundles.specs.Promise.{number_from}
use Rattle.bundles.proofs.Marks.{side-within}
use Rattle.bundles.proofs.Covering as covering
use Rattle.bundles.proofs.Theorems as theorems
use Rattle.tracks.specs.Order.{Intervals, Packed}
use Rattle.tracks.proofs.Different.{different_count}
use Rattle.tracks.proofs.Least.{tracks_packed}
use Rattle.chart_laws.proofs.Rows.{row-counted, rows_few}
use Rattle.chart_laws.proofs.Channels.{size_of, vertices_small, channel_below}

-- path-transitive edges, by the chart's channels
abbrev pub side_edge? : Content → ℕ → ℕ → Bool
side_edge? c = side? c.vertices c.tails c.heads (channel_of (channels_of c)) (position_of (channels_of c))

module _ (c : Content) (s : Sound c) where
  abbrev n : ℕ
  n = c.vertices

  abbrev ls : List (List ℕ)
  ls = channels_of c

  abbrev p : Plan
  p = plan_of c

  abbrev bs : List Bundle
  bs = p.bundles

  -- the channels of the plan
  pub plan-channels : p.channels ≡ ls
  unfolding plan_of bundled tracked
  plan-channels = refl

  -- ---- how many bundles

  -- at most two a vertex, of all and of each channel
  pub bundles-few : length bs ≤ 2 * n
  unfolding plan_of bundled tracked
  bundles-few = theorems.few n c.tails c.heads (length ls) (channel_of ls) (position_of ls) (row_of c)

  pub bundles_256 : length bs ≤ 256
  bundles_256 = omega (arith, bundles-few, vertices_small c s)

  pub few_of_channel : (l : ℕ) → count (length bs) (λ b. eqb (bundle_in p b).channel l) ≤ 2 * size_of c l
  unfolding plan_of bundled tracked
  few_of_channel = theorems.few_in n c.tails c.heads (length ls) (channel_of ls) (position_of ls) (row_of c)

  -- ---- each bundle

  -- of one of the channels, with the rows from that of one vertex to that of another
  stands : (b : ℕ) → b < length bs → covering.Sound n (length ls) (channel_of ls) (row_of c) (bundle_in p b)
  unfolding plan_of bundled tracked
  stands = theorems.sound n c.tails c.heads (length ls) (channel_of ls) (position_of ls) (row_of c)

  pub bundle_channel : (b : ℕ) → b < length bs → (bundle_in p b).channel < length ls
  bundle_channel b l = (stands b l).low

  pub bundle_ordered : (b : ℕ) → b < length bs → (bundle_in p b).first ≤ (bundle_in p b).last
  bundle_ordered b l = (stands b l).ordered

  pub bundle_rows : (b : ℕ) → b < length bs → (bundle_in p b).last < row_count c
  bundle_rows b l = let r = (stands b l).last in omega (arith, r.2, row-counted c s r.0 r.1)

  -- ---- the edges in them

  -- an edge between vertices of a channel that are not next to each other
  pub side_edge : (u v : ℕ) → edge? c.tails c.heads u v ≡ true → u < n → v < n → channel_of ls u ≡ channel_of ls v
      → adjacent? (position_of ls u) (position_of ls v) ≡ false → side_edge? c u v ≡ true
  unfolding side? apart?
  side_edge u v e hu hv h a =
      and_intro _ _ e (and_intro _ _ (and_intro _ _ (lt-ltb u n hu) (lt-ltb v n hv)) (and_intro _ _ (eq-eqb _ _ h) (ap not a)))

  module _ (u v : ℕ) (e : side_edge? c u v ≡ true) where
    low : channel_of ls u < length ls
    low = channel_below c s u (side-within n (channel_of ls) (position_of ls) c.tails c.heads u v e).0

    -- it is in a bundle, one of its channel
    pub side_bundle : (bundle_of bs u v < length bs) × ((bundle_in p (bundle_of bs u v)).channel ≡ channel_of ls u)
    unfolding plan_of bundled tracked
    side_bundle = (
      (theorems.numbered n c.tails c.heads (length ls) (channel_of ls) (position_of ls) (row_of c) u v low e (vertices_small c s)).1,
      (theorems.covered n c.tails c.heads (length ls) (channel_of ls) (position_of ls) (row_of c) u v low e).in_channel,
    )

    -- which is the lower of those that its ends have
    pub side-number : min (number_from 0 bs true v) (number_from 0 bs false u) ≡ bundle_of bs u v
    unfolding plan_of bundled tracked
    side-number =
        (theorems.numbered n c.tails c.heads (length ls) (channel_of ls) (position_of ls) (row_of c) u v low e (vertices_small c s)).0

  -- ---- tracks

  pub bundle_intervals : Intervals (length bs) (λ b. (bundle_in p b).first) (λ b. (bundle_in p b).last)
  bundle_intervals =
      record {
        ordered = bundle_ordered;
        below = λ b l. omega (arith, bundle_ordered b l, bundle_rows b l, rows_few c s, vertices_small c s);
      }

  -- tracks are lawful, and no lawful ones are fewer
  pub plan_packed : Packed (length bs) (λ b. (bundle_in p b).channel) (λ b. (bundle_in p b).first) (λ b. (bundle_in p b).last) (track_in p)
  unfolding plan_of bundled tracked
  plan_packed =
      tracks_packed (length bs) (λ b. (bundle_in p b).channel) (λ b. (bundle_in p b).first) (λ b. (bundle_in p b).last) bundles_256
      bundle_intervals

  pub track_below : (b : ℕ) → b < length bs → track_in p b < tracks_in p (bundle_in p b).channel
  unfolding tracks_in
  track_below b l =
      above_each (length bs) (λ x. eqb (bundle_in p x).channel (bundle_in p b).channel) (track_in p) b l
      (eq-eqb (bundle_in p b).channel (bundle_in p b).channel refl)

  -- 1 + the highest track of a channel is the number of different ones
  pub tracks_different : (l : ℕ) → different_in (length bs) (λ b. eqb (bundle_in p b).channel l) (track_in p) ≡ tracks_in p l
  unfolding tracks_in
  tracks_different l = plan_packed.counted l

  -- a channel has at most two a vertex
  pub tracks-few : (l : ℕ) → tracks_in p l ≤ 2 * size_of c l
  tracks-few l =
      omega (arith, tracks_different l, different_count (length bs) (λ b. eqb (bundle_in p b).channel l) (track_in p), few_of_channel l)

  -- and none past the last channel
  pub tracks_past : (l : ℕ) → length ls ≤ l → tracks_in p l ≡ 0
  unfolding tracks_in
  tracks_past l h =
      omega (
        arith,
        above-le (length bs) (λ b. eqb (bundle_in p b).channel l) (track_in p) 0
            (λ b k e. absurd (omega (arith, bundle_channel b k, eqb-true (bundle_in p b).channel l e))),
      )

  -- the track of an edge's bundle is one of its channel
  pub side_track : (u v : ℕ) → side_edge? c u v ≡ true → track_in p (bundle_of bs u v) < tracks_in p (channel_of ls u)
  side_track u v e = let b = side_bundle u v e in rw (← b.1) (track_below (bundle_of bs u v) b.0)
