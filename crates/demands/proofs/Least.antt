-- What agrees with our chart is lawful, has its counts, and no lawful chart has fewer. Assumes nothing.
use Rattle.counting.proofs.Prelude.{◌≡◌, refl, sym, ap, ◌∙◌, ◌↔◌, ◌≢◌, true, ℕ, ◌≤◌, ◌<◌, arith, eqb, length}
use Rattle.counting.proofs.Sums.{sum_ext, count_ext}
use Rattle.specification.specs.Graph.{Reaches}
use Rattle.specification.specs.Given.{Whole}
use Rattle.specification.specs.Checks.{Content, given_of, connection_in, Leads, Sound}
use Rattle.specification.specs.Marks.{Linked, link_count, reduced_link}
use Rattle.specification.specs.Tracks.{different_in}
use Rattle.specification.specs.Chart.{tail_of, head_of, row_of, row_count, reduced_edges, Plan, channels_of, plan_of, bundle_in, track_in}
use Rattle.specification.specs.Chart.{tracks_in}
use Rattle.counting.proofs.Above.{above_ext}
use Rattle.reduction.proofs.Transitive.{reaches_map}
use Rattle.tracks.specs.Order.{Apart, Among}
use Rattle.tracks.proofs.FirstFit.{row-meet, meet-row, meet_fact}
use Rattle.tracks.proofs.Different.{different_ext}
use Rattle.chart_laws.proofs.Channels.{channels_divide, channel_below, lines_below, channels-whole, channels-least}
use Rattle.chart_laws.proofs.Broad.{division_decided}
use Rattle.chart_laws.proofs.Rows.{floor-kept, edge_rises, row_count_lem, rows_fewest}
use Rattle.chart_laws.proofs.Marks.{chart_links, chart_links_least, chart_links_count}
use Rattle.chart_laws.proofs.Bundling.{bundle_channel, bundle_ordered, plan_packed, tracks_different}
use Rattle.specification.specs.Lawful.{Chart, ShareRow, Divided, Lawful, rows_of, links_of, side_columns, SameBundles}
use Rattle.demands.specs.Demands.{Smallest, Counted}
use Rattle.demands.proofs.Agreeing.{Agrees}

module _ (c : Content) (s : Sound c) where
  abbrev n : ℕ
  n = c.vertices

  abbrev p : Plan
  p = plan_of c

  abbrev k : ℕ
  k = length p.bundles

  abbrev line : ℕ → ℕ
  line b = (bundle_in p b).channel

  abbrev first : ℕ → ℕ
  first b = (bundle_in p b).first

  abbrev last : ℕ → ℕ
  last b = (bundle_in p b).last

  module _ (x : Chart) (a : Agrees c x) where
    within : (b : ℕ) → b < x.bundles → b < k
    within b l = omega (arith, a.bundles)

    -- ---- lawful

    abbrev ours : ℕ → ℕ → Type 0
    ours = Linked n (reduced_link (connection_in c) c.tails c.heads)

    agreed_descent : (u v : ℕ) → Reaches (Linked n x.link) u v ↔ Leads c u v
    agreed_descent u v =
        let d = (chart_links c s).same u v in (
          (λ r. d.0 (reaches_map (λ i j h. (h.0, h.1, sym (a.link i j) ∙ h.2)) r)),
          λ r. reaches_map (λ i j (h : ours i j). (h.0, h.1, a.link i j ∙ h.2)) (d.1 r),
        )

    agreed_apart : (i j : ℕ) → i < x.bundles → j < x.bundles → i ≢ j → x.line i ≡ x.line j → ShareRow x i j → x.side i ≢ x.side j
    agreed_apart i j li lj ne e (r, fi, il, fj, jl) t =
        let ki = within i li in
        let kj = within j lj in
        (plan_packed c s).lawful.apart i j ki kj ne
        (row-meet line first last i j r (sym (a.line i ki) ∙ e ∙ a.line j kj) (omega (arith, a.first i ki), omega (arith, a.last i ki))
        (omega (arith, a.first j kj), omega (arith, a.last j kj)))
        (sym (a.side i ki) ∙ t ∙ a.side j kj)

    agreed_division : Divided c x.parts x.part
    agreed_division =
        let d = (division_decided c s _ _).1 (channels_divide c s).division in
        record {
          below = λ v l. omega (arith, a.part v l, a.parts, channel_below c s v l);
          related = λ u v hu hv ne e. d.related u v hu hv ne (sym (a.part u hu) ∙ e ∙ a.part v hv);
        }

    pub agreed_lawful : Lawful c x
    agreed_lawful = record {
      rises = λ e l. let b = s.ends e l in omega (arith, a.row (tail_of c e) b.0, a.row (head_of c e) b.1, edge_rises c s e l);
      division = agreed_division;
      descent = agreed_descent;
      lined = λ b l. omega (arith, a.line b (within b l), a.parts, bundle_channel c s b (within b l));
      apart = agreed_apart;
    }

    -- the given channels are whole, as in ours
    agreed_whole : Whole n (given_of c) x.part
    agreed_whole =
        record {
          exact = λ l u v k h m.
              let hu : u < n = lines_below c s l u k h in
              let o = (channels-whole c s).exact l u v k h m in
              ((λ e. o.0 (sym (a.part u hu) ∙ e ∙ a.part v m)), λ e. a.part u hu ∙ o.1 e ∙ sym (a.part v m));
        }

    -- ---- counts

    rows-counted : rows_of c x ≡ row_count c
    unfolding rows_of
    rows-counted = above_ext n (λ v. true) (λ v. true) x.row (row_of c) (λ v l. refl) (λ v l e. a.row v l) ∙ sym (row_count_lem c s)

    links_counted : links_of c x ≡ reduced_edges c
    unfolding links_of link_count
    links_counted = sum_ext n _ _ (λ u hu. count_ext n _ _ (λ v hv. a.link u v)) ∙ chart_links_count c s

    -- by our bundles
    sides-ours : (l : ℕ) → side_columns x l ≡ different_in k (λ b. eqb (line b) l) (track_in p)
    unfolding side_columns
    sides-ours l =
        ap (λ (m : ℕ). different_in m (λ b. eqb (x.line b) l) x.side) a.bundles
        ∙ different_ext k _ _ _ _ (λ b h. ap (λ (q : ℕ). eqb q l) (a.line b h)) (λ b h. a.side b h)

    pub agreed_counted : Counted c x (row_count c) (length (channels_of c)) (reduced_edges c) k (tracks_in p)
    agreed_counted = record {
      row_count = rows-counted;
      line_count = a.parts;
      link-count = links_counted;
      bundle_count = a.bundles;
      side_counts = λ l. sides-ours l ∙ tracks_different c s l;
    }

    -- ---- none has fewer

    module _ (y : Chart) (h : Lawful c y) where
      module _ (same : SameBundles c x y) where
        -- bundles of the other begin no higher than they end, since ours do
        other_ordered : (b : ℕ) → b < y.bundles → y.first b ≤ y.last b
        other_ordered b l =
            let i = same.from b in
            let m = same.from_below b l in
            let e : same.to i ≡ b = same.to_from b l in
            let q = within i m in
            omega (
              arith,
              same.firsts i m,
              same.lasts i m,
              ap y.first e,
              ap y.last e,
              a.first i q,
              a.last i q,
              bundle_ordered c s
                  i q,
            )

        other_apart : Apart y.bundles y.line y.first y.last y.side
        other_apart = record {
          apart = λ i j li lj ne m.
              let f = meet_fact y.line y.first y.last i j m in
              h.apart i j li lj ne f.0 (meet-row y.line y.first y.last i j (other_ordered i li) (other_ordered j lj) m);
        }

        among : (l q v : ℕ) → v < n → x.part v ≡ l → y.part v ≡ q
            → Among k line first last l y.bundles y.line y.first y.last q
        among l q v hv e f = record {
          to = same.to;
          below = λ b m i. same.to_below b (omega (arith, a.bundles));
          there = λ b m i. sym ((same.held b (omega (arith, a.bundles)) v hv).0 (e ∙ sym i ∙ sym (a.line b m))) ∙ f;
          one =
              λ i j li lj ei ej t. sym (same.from_to i (omega (arith, a.bundles))) ∙ ap same.from t
              ∙ same.from_to j (omega (arith, a.bundles));
          firsts = λ b m i. sym (same.firsts b (omega (arith, a.bundles))) ∙ a.first b m;
          lasts = λ b m i. sym (same.lasts b (omega (arith, a.bundles))) ∙ a.last b m;
        }

        fewest_sides : (l q v : ℕ) → v < n → x.part v ≡ l → y.part v ≡ q → side_columns x l ≤ side_columns y q
        unfolding side_columns
        fewest_sides l q v hv e f =
            rw (sides-ours l)
            ((plan_packed c s).least l y.bundles y.line y.first y.last q y.side (among l q v hv e f) other_apart)

    pub agreed_smallest : Smallest c x
    unfolding rows_of links_of
    agreed_smallest = record {
      lawful = agreed_lawful;
      filled = λ l h. let u = (channels_divide c s).used l (omega (arith, a.parts)) in (u.0, u.1, a.part u.0 u.1 ∙ u.2);
      keeps = record { floors = λ v l. omega (arith, a.row v l, floor-kept c s v l) };
      rows = λ y h k. omega (arith, rows-counted, rows_fewest c s y.row k.floors h.rises);
      whole = agreed_whole;
      lines = λ y h w. omega (arith, a.parts, channels-least c s y.parts y.part ((division_decided c s _ _).0 h.division) w);
      links = λ y h. omega (arith, links_counted, chart_links_least c s y.link h.descent);
      sides = λ y h lines rows same i j v hv e f. omega (arith, fewest_sides y h same i j v hv e f);
    }
