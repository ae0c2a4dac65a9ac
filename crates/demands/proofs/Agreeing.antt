-- What agrees with the definitions on the graph's vertices, edges and bundles; our
-- chart does, by them and as the entries show it. Assumes nothing.
use Rattle.counting.proofs.Prelude.{◌≡◌, refl, sym, ap, ◌∙◌, subst, true, not, ◌&&◌, ℕ, ◌<◌, eqb, length, eq-eqb, eqb-true, not-true}
use Rattle.specification.specs.Count.{some}
use Rattle.specification.specs.Graph.{Edge}
use Rattle.specification.specs.Channels.{channel_of}
use Rattle.specification.specs.Checks.{Content, edges_of, connection_in, Sound}
use Rattle.specification.specs.Marks.{reduced_link}
use Rattle.specification.specs.Chart.{tail_of, head_of, row_of, transitive_edge?, channels_of, plan_of, bundle_in, track_in, vertex_entry}
use Rattle.specification.specs.Chart.{edge_entry, bundle_entry}
use Rattle.specification.specs.declared.VertexEntry.{VertexEntry}
use Rattle.specification.specs.declared.EdgeEntry.{EdgeEntry}
use Rattle.specification.specs.declared.BundleEntry.{BundleEntry}
use Rattle.counting.proofs.Truth.{same_truth, and_intro, and_elim}
use Rattle.counting.proofs.Somes.{some_found, some_which}
use Rattle.reduction.specs.Reduction.{Reduced}
use Rattle.reduction.proofs.Links.{link_decided}
use Rattle.chart_laws.proofs.Marks.{unmarked_reduced}
use Rattle.chart_laws.proofs.Bundling.{plan-channels}
use Rattle.specification.specs.declared.ChartCounts.{ChartCounts}
use Rattle.specification.specs.Lawful.{Chart}
use Rattle.demands.specs.Demands.{Entries, entries_of, ours_of, joins?, seen, Firm}

-- ---- entries

-- those of the vertices, edges and bundles are the definitions'
pub record Shown (c : Content) (n : Entries) : Type 0 where
  pub vertex : (v : ℕ) → v < c.vertices → n.vertex v ≡ vertex_entry c (plan_of c) v
  pub edge : (e : ℕ) → e < edges_of c → n.edge e ≡ edge_entry c (plan_of c) e
  pub bundle : (b : ℕ) → b < length (plan_of c).bundles → n.bundle b ≡ bundle_entry (plan_of c) b

pub defined_shown : (c : Content) → Shown c (entries_of c)
defined_shown c = record { vertex = λ v l. refl; edge = λ e l. refl; bundle = λ b l. refl }

module _ (c : Content) (s : Sound c) (n : Entries) (h : Shown c n) where
  pub mark : (e : ℕ) → e < edges_of c → (n.edge e).transitive ≡ transitive_edge? c e
  unfolding edge_entry
  mark e l = ap (λ (x : EdgeEntry). x.transitive) (h.edge e l)

  -- the firm arrows by the marks are those by the definition
  abbrev Kept : ℕ → ℕ → Type 0
  Kept = Reduced (connection_in c) c.tails c.heads

  pub firm_reduced : (u v : ℕ) → Firm c n u v → Kept u v
  firm_reduced u v (e, l, p, q, m) =
      subst (λ (x : ℕ). Kept x v) p (subst (λ (y : ℕ). Kept (tail_of c e) y) q (unmarked_reduced c s e l (sym (mark e l) ∙ m)))

  pub reduced_firm : (u v : ℕ) → Kept u v → Firm c n u v
  unfolding Edge transitive_edge?
  reduced_firm u v ((e, l, p, q), m) = (e, l, p, q, mark e l ∙ rw (p, q) m)

  -- and so are the links
  firm-seen : (u v : ℕ) → Firm c n u v → some (edges_of c) (joins? c n u v) ≡ true
  firm-seen u v (e, l, p, q, m) =
      some_found (edges_of c) (joins? c n u v) e l (and_intro _ _ (and_intro _ _ (eq-eqb _ _ p) (eq-eqb _ _ q)) (ap not m))

  seen-firm : (u v : ℕ) → some (edges_of c) (joins? c n u v) ≡ true → Firm c n u v
  seen-firm u v t =
      let w = some_which (edges_of c) (joins? c n u v) t in
      let a = and_elim (eqb (tail_of c w.0) u && eqb (head_of c w.0) v) (not (n.edge w.0).transitive) w.2 in
      let b = and_elim (eqb (tail_of c w.0) u) (eqb (head_of c w.0) v) a.0 in
      (w.0, w.1, eqb-true _ _ b.0, eqb-true _ _ b.1, not-true _ a.1)

  pub links_seen : (u v : ℕ) → some (edges_of c) (joins? c n u v) ≡ reduced_link (connection_in c) c.tails c.heads u v
  links_seen u v =
      let d = link_decided (connection_in c) c.vertices c.tails c.heads u v in
      same_truth _ _ (λ t. d.0 (firm_reduced u v (seen-firm u v t))) (λ t. firm-seen u v (reduced_firm u v (d.1 t)))

-- ---- charts

pub record Agrees (c : Content) (x : Chart) : Type 0 where
  pub row : (v : ℕ) → v < c.vertices → x.row v ≡ row_of c v
  pub parts : x.parts ≡ length (channels_of c)
  pub part : (v : ℕ) → v < c.vertices → x.part v ≡ channel_of (channels_of c) v
  pub link : (u v : ℕ) → x.link u v ≡ reduced_link (connection_in c) c.tails c.heads u v
  pub bundles : x.bundles ≡ length (plan_of c).bundles
  pub line : (b : ℕ) → b < length (plan_of c).bundles → x.line b ≡ (bundle_in (plan_of c) b).channel
  pub first : (b : ℕ) → b < length (plan_of c).bundles → x.first b ≡ (bundle_in (plan_of c) b).first
  pub last : (b : ℕ) → b < length (plan_of c).bundles → x.last b ≡ (bundle_in (plan_of c) b).last
  pub side : (b : ℕ) → b < length (plan_of c).bundles → x.side b ≡ track_in (plan_of c) b

pub ours_agrees : (c : Content) → Agrees c (ours_of c)
unfolding ours_of
ours_agrees c = record {
  row = λ v l. refl;
  parts = refl;
  part = λ v l. refl;
  link = λ u v. refl;
  bundles = refl;
  line = λ b l. refl;
  first = λ b l. refl;
  last = λ b l. refl;
  side = λ b l. refl;
}

pub seen_agrees : (c : Content) → Sound c → (r : ChartCounts) (n : Entries) → Shown c n → r.lines ≡ length (plan_of c).channels
    → r.bundles ≡ length (plan_of c).bundles
    → Agrees c (seen c r n)
unfolding seen vertex_entry bundle_entry
seen_agrees c s r n h lines bundles = record {
  row = λ v l. ap (λ (x : VertexEntry). x.row) (h.vertex v l);
  parts = lines ∙ ap length (plan-channels c s);
  part = λ v l. ap (λ (x : VertexEntry). x.channel) (h.vertex v l) ∙ ap (λ ls. channel_of ls v) (plan-channels c s);
  link = links_seen c s n h;
  bundles = bundles;
  line = λ b l. ap (λ (x : BundleEntry). x.channel) (h.bundle b l);
  first = λ b l. ap (λ (x : BundleEntry). x.first_row) (h.bundle b l);
  last = λ b l. ap (λ (x : BundleEntry). x.last_row) (h.bundle b l);
  side = λ b l. ap (λ (x : BundleEntry). x.track) (h.bundle b l);
}
