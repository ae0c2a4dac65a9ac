-- From what the fills leave to the chart: over a plan's lists the entries are the chart's. Cites drawing's laws. Assumes nothing.
use Rattle.counting.proofs.Prelude.{◌≡◌, refl, sym, ap, ap₂, ◌∙◌, Bool, List, ℕ, ◌+◌, ◌*◌, ◌/◌, ◌%◌, ◌<◌, ◌≤◌, min, arith, length}
use Rattle.counting.proofs.Prelude.{get_or, take}
use lib.Seq.{get_or-take, length-take-le}
use Rattle.specification.specs.Lent.{Filled}
use Rattle.lists.proofs.Written.{refilled}
use Rattle.reach.proofs.Ends.{tail_at, head_at}
use Rattle.specification.specs.Checks.{Content, edges_of}
use Rattle.specification.specs.Chart.{plan_of, transitive_edge?, vertex_entry, edge_entry, bundle_entry, tail_of, head_of}
use Rattle.specification.specs.Chart.{floor_of, kind_between}
use Rattle.specification.specs.declared.VertexEntry.{VertexEntry}
use Rattle.specification.specs.declared.BundleEntry.{BundleEntry}
use Rattle.specification.specs.Drawn.{graph_content}
use Rattle.chart_plan.specs.Laid.{Lists, Laid}
use Rattle.chart_plan.specs.Laid.{Plan}
use Rattle.chart_plan.proofs.Entries.{edges-counted, small, edges_few, bundles-few, ends_known, vertex_drawn, bundle_drawn, kind-among}
use Rattle.chart_plan.proofs.Entries.{mark-drawn}
use Rattle.chart_lists.specs.Chart.{Counts, Numbered, whole}
use Rattle.specification.specs.Numbers.{word_number, bundle_number, words, bundles}
use Rattle.specification.specs.Pass.{as_numbers, state, after}
use Rattle.reduction.specs.Reduction.{transitive_in?}
use Rattle.lists.specs.Marking.{Marking}
use Rattle.lists.proofs.Marking.{numbers_legible, after_same, marking, marked-filled, marked_reduced}
use Rattle.chart_lists.specs.Steps.Numbers.{kind_at, word_from, arrow_from, bundle_from, Ready}
use Rattle.chart_lists.specs.Steps.Numbers as numbers
use Rattle.chart_lists.specs.Steps.Hand.{LeftFor}

-- the counts of what is planned of n vertices and m edges
abbrev counts_drawn : ℕ → ℕ → ℕ → Plan → Counts
counts_drawn n m firm p = record {
  refusal = 0;
  words = n;
  arrows = m;
  bundles = p.bundles;
  rows = p.rows;
  lines = p.channels;
  firm = firm;
  width = p.width;
}

module _ (n : ℕ) (ends : List ℕ) (given : Bool) (field : List ℕ) (floored : Bool) (floors : List ℕ) (p : Plan) (t : Lists)
    (l : Laid (graph_content n ends given field floored floors) p t) where
  abbrev c : Content
  c = graph_content n ends given field floored floors

  abbrev m : ℕ
  m = length ends / 2

  counted : edges_of c ≡ m
  counted = edges-counted n ends given field floored floors

  few : n ≤ 128
  unfolding graph_content
  few = small c p t l

  -- ---- vertices and bundles: what the fills ask for, and what they put

  pub words_fit : (n ≤ 128) × (4 * n ≤ length t.places) × (n ≤ length t.column)
  unfolding graph_content
  words_fit =
      let f = few in
      (f, omega (arith, l.room.masks.masks.places), omega (arith, l.room.column))

  pub bundles_fit : (p.bundles ≤ 256) × (p.bundles * 4 ≤ length t.spans)
  unfolding graph_content
  bundles_fit =
      let f = few in
      let b = bundles-few c p t l in
      (omega arith, omega (arith, l.room.spans))

  word_same : (v : ℕ) → v < n → word_from t.places t.column floored floors v ≡ vertex_entry c (plan_of c) v
  unfolding word_from floor_of graph_content
  word_same v h = vertex_drawn c p t l v h

  bundle_same : (b : ℕ) → bundle_from t.spans b ≡ bundle_entry (plan_of c) b
  unfolding bundle_from
  bundle_same b = bundle_drawn c p t l b

  -- ---- edges

  -- the ends are bytes of the list
  tail_same : (e : ℕ) → get_or ends (2 * e) 0 ≡ tail_of c e
  unfolding graph_content
  tail_same e = sym (tail_at ends e)

  head_same : (e : ℕ) → get_or ends (2 * e + 1) 0 ≡ head_of c e
  unfolding graph_content
  head_same e = sym (head_at ends e)

  ends_low : (e : ℕ) → e < m → (get_or ends (2 * e) 0 < n) × (get_or ends (2 * e + 1) 0 < n)
  unfolding graph_content
  ends_low e h =
      let k = ends_known c p t l e (omega (arith, counted)) in
      (omega (arith, tail_same e), omega (arith, head_same e))

  arrows-few : m ≤ 4096
  arrows-few = omega (arith, edges_few c p t l, counted)

  module _ (left : List ℕ) where
    -- edges are made from the places and the columns of the n vertices
    abbrev here : numbers.Given
    here = numbers.given ends t.longer t.places t.number (take n t.column) t.below left

    pub ready : (e : ℕ) → e < m → Ready here e
    unfolding graph_content
    ready e h =
        let k = ends_low e h in
        let f = few in
        let r = l.room in
        record {
          few = omega (arith, arrows-few);
          ends = omega arith;
          low = (omega arith, omega arith);
          longer = (omega (arith, r.masks.masks.longer), omega (arith, r.masks.masks.longer));
          places = (omega (arith, r.masks.masks.places), omega (arith, r.masks.masks.places));
          number = (omega (arith, r.number), omega (arith, r.number));
        }

    -- the table says of each edge what the whole graph does
    mark-same : (e : ℕ) → e < m → transitive_in? t.longer (get_or ends (2 * e) 0) (get_or ends (2 * e + 1) 0) ≡ transitive_edge? c e
    mark-same e h =
        ap₂ (transitive_in? t.longer) (tail_same e) (head_same e) ∙ mark-drawn c p t l e (omega (arith, counted))

    -- `left` is made of the channels by `prefixes::by_channel`
    module _ (size : ℕ) (room : 2 * min n 128 ≤ size) (lefts : LeftFor n p.channels t.places size left) where
      kind-same : (e : ℕ) → e < m → kind_at here e ≡ kind_between c (plan_of c) (tail_of c e) (head_of c e)
      unfolding kind_at graph_content
      kind-same e h =
          rw (tail_same e, head_same e)
          (kind-among c p t l e (omega (arith, counted)) size left (let f = few in omega arith) lefts)

      arrow_same : (e : ℕ) → e < m → arrow_from here e ≡ edge_entry c (plan_of c) e
      unfolding arrow_from edge_entry
      arrow_same e h = rw (kind-same e h, mark-same e h) refl

      -- THE PASS over the edges, by what `put_arrows` promises: the states are the chart's
      pub passed : (es es' : List ℕ) (x : ℕ) → m * 5 ≤ length es → state es' x ≡ after as_numbers (arrow_from here) es m
          → Marking as_numbers c (plan_of c) es es' x
      passed es es' x room e =
          marking as_numbers numbers_legible c (plan_of c) es (omega (arith, counted)) es' x
          (e ∙ after_same as_numbers (arrow_from here) (edge_entry c (plan_of c)) es m arrow_same
          ∙ ap (after as_numbers (edge_entry c (plan_of c)) es) (sym counted))

      -- THE HAND-OVER: the counts are the chart's, the lists have its entries, and every number past them is as it was
      pub charted : (ws es bs ws' es' bs' : List ℕ) (x : ℕ) → 128 ≤ length t.used
          → Filled ws (words (word_from t.places t.column floored floors)) (n * 6) ws'
          → Marking as_numbers c (plan_of c) es es' x → Filled bs (bundles (bundle_from t.spans)) (p.bundles * 4) bs'
          → Numbered c (plan_of c) ws es bs (whole (counts_drawn n m x p) (take 128 t.used)) ws' es' bs'
      unfolding graph_content
      charted ws es bs ws' es' bs' x long hw he hb = record {
        summary = record {
          words = refl;
          arrows = sym counted;
          bundles = l.bundles.counted;
          rows = l.rows_counted;
          lines = l.channel_count;
          firm = marked_reduced as_numbers c (plan_of c) es es' x he;
          width = l.width;
          side_columns = λ i h. get_or-take 128 t.used i 0 h ∙ l.used i (omega (arith, long));
          long = length-take-le 128 t.used long;
        };
        word_list = refilled _ _ _ _ _ _ refl (λ k b. ap (λ (e : VertexEntry). word_number e (k % 6)) (word_same (k / 6) (omega arith))) hw;
        arrow_list = marked-filled as_numbers c (plan_of c) es es' x he;
        bundle_list = refilled _ _ _ _ _ _ (ap (λ (k : ℕ). k * 4) l.bundles.counted)
            (λ k b. ap (λ (e : BundleEntry). bundle_number e (k % 4)) (bundle_same (k / 4))) hb;
      }
