-- Entries that are the definitions' lead where the graph does, and their polylines are clear and on the page. Assumes nothing.
use Rattle.counting.proofs.Prelude.{◌≡◌, refl, sym, ap, ◌∙◌, subst, ◌↔◌, ◌≢◌, ⊎_elim, true, true≢false, List, ℕ, suc, ◌<◌, eqb, length}
use Rattle.counting.proofs.Prelude.{eqb-true, eqb-false}
use Rattle.counting.proofs.Truth.{true_or_false}
use Rattle.specification.specs.Graph.{Reaches, Edge, edge?}
use Rattle.specification.specs.Connection.{connection_number}
use Rattle.specification.specs.declared.Connection.{Connection}
use Rattle.specification.specs.Marks.{transitive?}
use Rattle.specification.specs.Channels.{channel_of, position_of}
use Rattle.specification.specs.Checks.{Content, edges_of, connection_in, Leads, Sound}
use Rattle.specification.specs.Bundles.{adjacent?}
use Rattle.specification.specs.Geometry.{Point, Meets, gap_width, track_at, by_track, course_of}
use Rattle.specification.specs.declared.Course.{Course}
use Rattle.specification.specs.Chart.{tail_of, head_of, transitive_edge?, Plan, channels_of, plan_of, place_of, crossing, kind_between}
use Rattle.specification.specs.Chart.{vertex_entry, edge_entry, bundle_entry, point_at, polyline_of}
use Rattle.specification.specs.declared.Kind.{Kind}
use Rattle.specification.specs.declared.Kind.TheVariants.{Path, PathTransitive, Straight, Bent}
use Rattle.specification.specs.declared.VertexEntry.{VertexEntry}
use Rattle.specification.specs.declared.BundleEntry.{BundleEntry}
use Rattle.specification.specs.declared.Course.TheVariants as course
use Rattle.reduction.proofs.Transitive.{reaches_map}
use Rattle.chart_laws.proofs.Leading.{edge_there}
use Rattle.chart_laws.proofs.Bundling.{side_edge, side_bundle}
use Rattle.chart_laws.proofs.EdgeKinds.{kind-path, kind-side, kind_cross}
use Rattle.chart_laws.proofs.Marks.{marked_longer, chart_reduced}
use Rattle.chart_laws.proofs.Clearing.{chart_clear}
use Rattle.chart_laws.proofs.Bundling.{plan-channels}
use Rattle.chart_laws.proofs.Neighbours.{neighbours_led, neighbours_apart}
use Rattle.reach.proofs.Connecting.{unled_number, both-number}
use Rattle.record.proofs.Soundness.{sound_means}
use Rattle.demands.specs.Leading.{how}
use Rattle.chart_laws.proofs.Paging.{chart_on_page}
use Rattle.demands.specs.Demands.{Entries, entries_of, Firm, place_in, line_in, Follows, Faithful}
use Rattle.demands.proofs.Agreeing.{Shown, mark, firm_reduced, reduced_firm}
use Rattle.demands.proofs.Standing.{shown_standing}

-- a kind's bundle, if it has one, is of the first k
abbrev Within : ℕ → Kind → Type 0
Within k Path = Unit {0}
Within k (PathTransitive b) = b < k
Within k Straight = Unit {0}
Within k (Bent b) = Unit {0}

-- a polyline reads that bundle alone
lines_same : (u v : VertexEntry) (d : Kind) (k : ℕ) (f g : ℕ → BundleEntry) → Within k d → ((b : ℕ) → b < k → f b ≡ g b)
    → polyline_of u v d f ≡ polyline_of u v d g
unfolding polyline_of
lines_same u v Path k f g w same = refl
lines_same u v (PathTransitive b) k f g w same =
    ap (λ (x : BundleEntry). by_track (point_at u) (point_at v) (track_at u.column gap_width x.track)) (same b w)
lines_same u v Straight k f g w same = refl
lines_same u v (Bent b) k f g w same = refl

crossing-within : (k : ℕ) (r : Course) → Within k (crossing r)
crossing-within k course.Straight = tt
crossing-within k (course.Bent x y) = tt

module _ (c : Content) (s : Sound c) where
  abbrev ls : List (List ℕ)
  ls = channels_of c

  abbrev p : Plan
  p = plan_of c

  abbrev k : ℕ
  k = length p.bundles

  kind-within : (u v : ℕ) → u < c.vertices → v < c.vertices → edge? c.tails c.heads u v ≡ true → Within k (kind_between c p u v)
  kind-within u v hu hv edge = ⊎_elim
      (λ q.
      let e : channel_of ls u ≡ channel_of ls v = eqb-true _ _ q in
      ⊎_elim
      (λ a. rw (kind-path c u v e a) tt)
      (λ a. rw (kind-side c u v e a) (side_bundle c s u v (side_edge c s u v edge hu hv e a)).0)
      (true_or_false (adjacent? (position_of ls u) (position_of ls v))))
      (λ q. let e : channel_of ls u ≢ channel_of ls v = eqb-false _ _ q in
      rw (kind_cross c u v e) (crossing-within k (course_of (place_of c p) c.vertices u v)))
      (true_or_false (eqb (channel_of ls u) (channel_of ls v)))

  entry_within : (e : ℕ) → e < edges_of c → Within k (edge_entry c p e).kind
  unfolding edge_entry
  entry_within e l = let b = s.ends e l in kind-within (tail_of c e) (head_of c e) b.0 b.1 (edge_there c s e l)

  module _ (n : Entries) (h : Shown c n) where
    shown_descent : (u v : ℕ) → Reaches (Firm c n) u v ↔ Leads c u v
    shown_descent u v =
        let d = chart_reduced c s u v in
        ((λ r. d.0 (reaches_map (firm_reduced c s n h) r)), λ r. reaches_map (reduced_firm c s n h) (d.1 r))

    line_same : (e : ℕ) → e < edges_of c → line_in c n e ≡ line_in c (entries_of c) e
    line_same e l =
        let b = s.ends e l in
        rw (h.vertex (tail_of c e) b.0, h.vertex (head_of c e) b.1, h.edge e l)
        (lines_same (vertex_entry c p (tail_of c e)) (vertex_entry c p (head_of c e)) (edge_entry c p e).kind k n.bundle (bundle_entry p)
        (entry_within e l) h.bundle)

    place_same : (v : ℕ) → v < c.vertices → place_in n v ≡ place_of c p v
    unfolding vertex_entry
    place_same v l = ap point_at (h.vertex v l)

    -- the channel and the position of a vertex
    channel-same : (v : ℕ) → v < c.vertices → (n.vertex v).channel ≡ channel_of ls v
    unfolding vertex_entry
    channel-same v l = ap (λ (x : VertexEntry). x.channel) (h.vertex v l) ∙ ap (λ y. channel_of y v) (plan-channels c s)

    position-same : (v : ℕ) → v < c.vertices → (n.vertex v).position ≡ position_of ls v
    unfolding vertex_entry
    position-same v l = ap (λ (x : VertexEntry). x.position) (h.vertex v l) ∙ ap (λ y. position_of y v) (plan-channels c s)

    module _ (u v : ℕ) (hu : u < c.vertices) (hv : v < c.vertices) (f : Follows n u v) where
      together : channel_of ls u ≡ channel_of ls v
      together = sym (channel-same u hu) ∙ f.0 ∙ channel-same v hv

      next : position_of ls v ≡ suc (position_of ls u)
      next = sym (position-same v hv) ∙ f.1 ∙ ap suc (position-same u hu)

      shown_led : how c u v ≢ 0
      shown_led z = true≢false (sym (neighbours_led c s u v hu hv together next) ∙ (unled_number (connection_in c u v)).1 z)

      shown_apart : (Edge c.tails c.heads u v → ⊥) → how c u v ≡ 2
      shown_apart none = ap (λ (a : Connection). connection_number a) (neighbours_apart c s u v hu hv together next none)

    shown_both : (e : ℕ) → e < edges_of c → ((n.edge e).transitive ≡ true) ↔ (how c (tail_of c e) (head_of c e) ≡ 3)
    unfolding transitive_edge? transitive?
    shown_both e l = rw (mark c s n h e l) (both-number (connection_in c (tail_of c e) (head_of c e)))

    pub shown_faithful : Faithful c n
    shown_faithful = record {
      standing = shown_standing c s n h;
      marked = λ e l. rw (mark c s n h e l) (marked_longer c s e l);
      both = shown_both;
      answers = sound_means c s;
      led = shown_led;
      apart = shown_apart;
      descent = shown_descent;
      clear = λ e l. record {
        clear = λ w hw nu nv m.
            (chart_clear c s e l).clear w hw nu nv
            (subst (λ (x : List Point). Meets x (place_of c p w)) (line_same e l)
            (subst (λ (q : Point). Meets (line_in c n e) q) (place_same w hw) m));
      };
      on_page = λ e l. rw (line_same e l) (chart_on_page c s e l);
    }
