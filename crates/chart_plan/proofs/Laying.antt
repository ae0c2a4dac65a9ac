-- What the lower layers promise of a graph that passes the checks is what its
-- chart is drawn from. Cites their promises alone. Assumes nothing.
use Rattle.counting.proofs.Prelude.{◌≡◌, refl, sym, ap, ◌∙◌, subst, ◌↔◌, ⊎_elim, List, ℕ, ◌*◌, ◌/◌, ◌≤◌, ◌<◌, min, arith, eqb, length}
use Rattle.counting.proofs.Prelude.{get_or}
use Rattle.specification.specs.Count.{above}
use Rattle.specification.specs.Sets.{member?, at, has?}
use Rattle.specification.specs.Channels.{channel_of, position_of, given_lines}
use Rattle.specification.specs.Graph.{edge?, tails_of, heads_of}
use Rattle.specification.specs.Checks.{Content, Sound}
use Rattle.specification.specs.Connection.{longer?}
use Rattle.specification.specs.Bundles.{Bundle, side?, apart?, bundles_of, empty}
use Rattle.specification.specs.Tracks.{tracks}
use Rattle.specification.specs.Geometry.{even_gaps, block_start, own_column}
use Rattle.specification.specs.Chart.{leads?, channels_of, plan_of, floor_of, row_of, row_count, descendants_of, tracks_in, column_in}
use Rattle.specification.specs.Chart.{width_of}
use Rattle.specification.specs.Chart.{widths}
use Rattle.specification.specs.Drawn.{graph_content}
use Rattle.specification.specs.Chart as chart
use Rattle.counting.specs.Quads.{quad}
use Rattle.counting.proofs.Truth.{lt-or-le}
use Rattle.matching.proofs.Beside.{given-same}
use Rattle.reach.proofs.Closures.{same_test}
use Rattle.reach.proofs.Connecting.{same_edge, same_longer}
use Rattle.planning.specs.Arranged.{Arranged}
use Rattle.record.specs.Checked.{Checked}
use Rattle.record.proofs.Soundness.{accepted_sound}
use Rattle.bundles.specs.Sides.{table_side?}
use Rattle.bundles.specs.Promise.{vertices, Bundled, Listed, bundles_in}
use Rattle.bundles.proofs.Extension.{bundles_ext}
use Rattle.bundles.proofs.Theorems.{fitting-all}
use Rattle.tracks.specs.Promise.{Tracked}
use Rattle.tracks.specs.Steps.Ends.{Assigned}
use Rattle.tracks.proofs.Extension.{tracks_ext}
use Rattle.tracks.proofs.Theorems.{track_past, tracked_rising}
use Rattle.chart_laws.proofs.Leading.{graph_accepted}
use Rattle.chart_laws.proofs.Channels.{channels-few, channel_below, vertices_small}
use Rattle.chart_laws.proofs.Bundling.{bundle_intervals}
use Rattle.chart_laws.proofs.Columns.{width_on_page}
use Rattle.chart_plan.specs.Laid.{Plan, Lists, lists, Laid}
use Rattle.chart_plan.specs.Steps.{Spaceable, Spaced, Passed, Filled}
use Rattle.chart_plan.proofs.Spacing.{start-same, own_same}
use Rattle.counting.proofs.Above.{above_ext}

-- the plan of what the checks and the layers above them made
abbrev plan_from : Checked → ℕ → ℕ → Plan
plan_from k bs width = record {
  refusal = 0;
  rows = k.used;
  channels = k.channels;
  bundles = bs;
  width = width;
}

-- a list of m entries or more has as many as there are
least : (m x : ℕ) → m ≤ 256 → 4 * m ≤ x → min m (min 256 (x / 4)) ≡ m
least m x k l = omega arith

module _ {n : ℕ} {k : Checked} {e p spans number used column : List ℕ} (x : Passed n k e p spans number used column) where
  abbrev c : Content
  c = graph_content n x.ends x.given x.field x.floored x.floors

  abbrev tails : List ℕ
  tails = tails_of x.ends

  abbrev heads : List ℕ
  heads = heads_of x.ends

  abbrev t : List ℕ
  t = x.table

  abbrev ls : List (List ℕ)
  ls = channels_of c

  abbrev channel : ℕ → ℕ
  channel = quad 0 p

  abbrev position : ℕ → ℕ
  position = quad 1 p

  abbrev row : ℕ → ℕ
  row = quad 2 p

  s : Sound c
  s = accepted_sound c x.accepted

  small : n ≤ 128
  unfolding graph_content
  small = vertices_small c s

  -- ---- what leads where

  table_same : (u v : ℕ) → u < 128 → v < 128 → has? 2 t u v ≡ leads? c u v
  unfolding leads? graph_content
  table_same u v hu hv = same_test 2 n tails heads t x.passes.raised.closure.bits u v hu hv

  edges-same : (u v : ℕ) → u < n → v < n → member? e (2 * u) v ≡ edge? tails heads u v
  unfolding at has? graph_content
  edges-same u v hu hv =
      let d = x.passes.raised in
      same_edge n tails heads (graph_accepted c s) 2 e t x.longer small d.closure.edge_bits d.closure.bits d.longer u v
      (omega (arith, small)) (omega (arith, small))

  longer_laid : (u v : ℕ) → u < n → v < n → member? x.longer (2 * u) v ≡ longer? (edge? tails heads) n u v
  unfolding at has? graph_content
  longer_laid u v hu hv =
      let d = x.passes.raised in
      same_longer n tails heads (graph_accepted c s) 2 e t x.longer small d.closure.edge_bits d.closure.bits d.longer u v
      (omega (arith, small)) (omega (arith, small))

  -- ---- channels

  pub arranged : Arranged n ls k.channels p
  unfolding channels_of graph_content
  arranged =
      subst (λ (y : List (List ℕ)). Arranged n y k.channels p)
      (given-same (has? 2 t) n (given_lines x.given x.field) (leads? c)
      (λ u v hu hv. table_same u v (omega (arith, small)) (omega (arith, small))))
      x.passes.arranged

  -- ---- rows

  rows-laid : (v : ℕ) → v < n → row v ≡ row_of c v
  unfolding row_of floor_of graph_content
  rows-laid v h = x.passes.raised.rows v h

  rows-counted : k.used ≡ row_count c
  unfolding row_count floor_of graph_content
  rows-counted = x.passes.raised.counted

  below_laid : (j v : ℕ) → j ≤ row_count c → v < 128 → at 2 x.below j v ≡ 1 ↔ ((v < n) × (row_of c v < j))
  unfolding row_of floor_of graph_content
  below_laid j v h hv = x.passes.raised.below j v (let q = rows-counted in omega arith) hv

  descendants_laid : (v : ℕ) → v < n → quad 3 p v ≡ descendants_of c v
  unfolding descendants_of leads? graph_content
  descendants_laid v h = x.passes.raised.closure.counted v h

  -- ---- bundles and tracks: m channels

  module _ {m bs : ℕ} {spans₁ number' : List ℕ} (known : m ≡ k.channels)
      (made : Bundled n e m p spans number bs spans₁ number') where
    channels_small : m ≤ 128
    unfolding graph_content
    channels_small = omega (arith, known, arranged.counted, channels-few c s, small)

    channel_known : (v : ℕ) → v < n → channel v < m
    unfolding graph_content
    channel_known v h = omega (arith, known, arranged.channel v h, arranged.counted, channel_below c s v h)

    sides-same : (u v : ℕ) → u < n → v < n → table_side? n e channel position u v ≡ side? n tails heads (channel_of ls) (position_of ls) u v
    unfolding side? table_side? apart?
    sides-same u v hu hv =
        let a = arranged in
        rw (edges-same u v hu hv, a.channel u hu, a.channel v hv, a.position u hu, a.position v hv) refl

    abbrev counted : ℕ
    counted = vertices n p spans number

    all_of : counted ≡ n
    all_of =
        let r = x.room in
        fitting-all n _ _ _ small (omega (arith, r.masks.masks.places, small)) (omega (arith, r.spans, small))
        (omega (arith, r.number, small))

    all-channels : min m 128 ≡ length ls
    all-channels = omega (arith, known, arranged.counted, channels_small)

    bundles-same : bundles_in counted e (min m 128) channel position row ≡ (plan_of c).bundles
    unfolding plan_of chart.bundled chart.tracked bundles_of bundles_in graph_content
    bundles-same =
        rw (all_of, all-channels)
        (bundles_ext n (table_side? n e channel position) (side? n tails heads (channel_of ls) (position_of ls)) channel (channel_of ls)
        position (position_of ls) row (row_of c) sides-same arranged.channel arranged.position rows-laid (length ls))

    bundles-laid : Listed n (plan_of c).bundles bs spans₁ number'
    bundles-laid =
        subst (λ (i : ℕ). Listed i (plan_of c).bundles bs spans₁ number') all_of
        (subst (λ (y : List Bundle). Listed counted y bs spans₁ number') bundles-same made.listed)

    few : bs ≤ 256
    few = omega (arith, bundles-laid.counted, bundles-laid.few, small)

    module _ {q : ℕ} {spans' used' : List ℕ} (tracked : Tracked bs spans₁ used q spans' used') where
      all-tracked : q ≡ bs
      all-tracked =
          tracked.counted
          ∙ least bs _ few (omega (arith, bundles-laid.counted, bundles-laid.few, small, made.long.0, x.room.spans))

      total_same : q ≡ length (plan_of c).bundles
      total_same = all-tracked ∙ bundles-laid.counted

      -- tracks are all that is put in
      listed : Listed n (plan_of c).bundles bs spans' number'
      listed = record {
        counted = bundles-laid.counted;
        few = bundles-laid.few;
        channel = λ i. tracked.kept 0 i (omega arith) ∙ bundles-laid.channel i;
        first = λ i. tracked.kept 1 i (omega arith) ∙ bundles-laid.first i;
        last = λ i. tracked.kept 2 i (omega arith) ∙ bundles-laid.last i;
        into = bundles-laid.into;
        out_of = bundles-laid.out_of;
        past = bundles-laid.past;
      }

      rising : Assigned q (quad 0 spans₁) (quad 1 spans₁) (quad 2 spans₁) (quad 3 spans') used'
      rising =
          tracked_rising bs spans₁ used q spans' used' tracked
          (λ i h.
          let o = (bundle_intervals c s).ordered i (let t = total_same in omega arith) in
          omega (arith, bundles-laid.first i, bundles-laid.last i))

      tracks_same : tracks q (quad 0 spans₁) (quad 1 spans₁) (quad 2 spans₁) ≡ (plan_of c).tracks
      unfolding plan_of chart.bundled chart.tracked
      tracks_same =
          tracks_ext q _ _ _ _ _ _ (λ i h. bundles-laid.channel i) (λ i h. bundles-laid.first i) (λ i h. bundles-laid.last i)
          ∙ ap (λ m. tracks m (λ i. (get_or (plan_of c).bundles i empty).channel) (λ i. (get_or (plan_of c).bundles i empty).first)
          (λ i. (get_or (plan_of c).bundles i empty).last)) total_same

      track_laid : (i : ℕ) → quad 3 spans' i ≡ get_or (plan_of c).tracks i 0
      track_laid i =
          ⊎_elim (rising.track i)
          (λ h. tracked.past i h ∙ made.fourth i ∙ sym (track_past q _ _ _ (omega (arith, all-tracked, few)) i h)) (lt-or-le i q)
          ∙ ap (λ (y : List ℕ). get_or y i 0) tracks_same

      used_laid : (i : ℕ) → i < length used' → get_or used' i 0 ≡ tracks_in (plan_of c) i
      unfolding tracks_in
      used_laid i h =
          rising.used i h
          ∙ above_ext q _ (λ j. eqb (get_or (plan_of c).bundles j empty).channel i) _ (λ j. get_or (plan_of c).tracks j 0)
          (λ j w. ap (λ (y : ℕ). eqb y i) (bundles-laid.channel j)) (λ j w z. ap (λ (y : List ℕ). get_or y j 0) tracks_same)
          ∙ ap (λ (m : ℕ). above m (λ j. eqb (get_or (plan_of c).bundles j empty).channel i) (λ j. get_or (plan_of c).tracks j 0))
          total_same

      -- ---- columns

      abbrev count : ℕ → ℕ
      count i = get_or used' i 0

      count_same : (i : ℕ) → i < m → count i ≡ tracks_in (plan_of c) i
      count_same i h = used_laid i (omega (arith, channels_small, tracked.long.1, x.room.used))

      width_same : block_start (even_gaps count) m ≡ width_of (plan_of c)
      unfolding width_of plan_of chart.bundled chart.tracked
      width_same =
          start-same count (tracks_in (plan_of c)) m count_same
          ∙ ap (block_start (even_gaps (tracks_in (plan_of c)))) (known ∙ arranged.counted)

      pub spaceable : Spaceable n m p used' column
      spaceable = record {
        few = small;
        few_channels = channels_small;
        known = channel_known;
        page = omega (arith, width_same, width_on_page c s);
        sizes = (
          omega (arith, small, x.room.masks.masks.places),
          omega (arith, tracked.long.1, x.room.used),
          omega (arith, small, x.room.column),
        );
      }

      module _ {column' : List ℕ} {width : ℕ} (d : Spaced n m p used' column column' width) where
        column_laid : (v : ℕ) → v < n → get_or column' v 0 ≡ column_in (plan_of c) v
        unfolding column_in plan_of chart.bundled chart.tracked
        column_laid v h =
            d.standing.made v h
            ∙ d.owns.columns.made (channel v) (channel_known v h)
            ∙ own_same count (tracks_in (plan_of c)) m (channel v) (channel_known v h) count_same
            ∙ ap (own_column (widths (plan_of c))) (arranged.channel v h)

        abbrev after : Lists
        after = lists e x.below t x.longer p spans' number' used' column'

        -- THE PLAN: what the lower layers made is what the chart is drawn from
        laid : Laid c (plan_from k bs width) after
        unfolding plan_of chart.bundled chart.tracked graph_content
        laid = record {
          sound = s;
          rows_counted = rows-counted;
          rows = rows-laid;
          descendants = descendants_laid;
          channel_count = arranged.counted;
          channels = arranged.channel;
          positions = arranged.position;
          bundles = listed;
          track = track_laid;
          used = used_laid;
          column = column_laid;
          width = d.owns.end ∙ width_same;
          longer_pairs = longer_laid;
          below_rows = below_laid;
          room = record {
            masks = x.room.masks;
            spans = omega (arith, tracked.long.0, made.long.0, x.room.spans);
            number = omega (arith, made.long.1, x.room.number);
            used = omega (arith, tracked.long.1, x.room.used);
            column = omega (arith, d.standing.long, x.room.column);
          };
        }

-- whatever graph passed
module _ {n m bs q width : ℕ} {k : Checked} {e p spans number used column spans₁ spans' number' used' column' : List ℕ}
    (known : m ≡ k.channels) (made : Bundled n e m p spans number bs spans₁ number')
    (tracked : Tracked bs spans₁ used q spans' used')
    (d : Spaced n m p used' column column' width) where
  pub all_laid : Filled n k e p spans number used column (plan_from k bs width) spans' number' used' column'
  all_laid = record {
    refusal = refl;
    laid = λ x. laid x known made tracked d;
    past = d.standing.past;
    long = (tracked.long.0 ∙ made.long.0, made.long.1, tracked.long.1, d.standing.long);
  }
