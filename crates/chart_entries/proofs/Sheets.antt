-- What a sheet has: the entries of the chart, over a plan's tables, or none. Cites drawing's laws. Assumes nothing.
use Rattle.counting.proofs.Prelude.{◌≡◌, refl, sym, ap, ap₂, subst, ◌∙◌, Bool, true, false, List, ℕ, ◌+◌, ◌*◌, ◌/◌, ◌<◌, ◌≤◌}
use Rattle.counting.proofs.Prelude.{min, arith, ltb, length, get_or, take, replicate, lt-ltb, le-ltb, ◌||◌}
use Rattle.counting.specs.Quads.{quad}
use Rattle.counting.proofs.Zeros.{zeros}
use Rattle.specification.specs.Checks.{Content, edges_of, floor_at, nothing}
use Rattle.specification.specs.Chart.{plan_of, tail_of, head_of, floor_of, kind_between, transitive_edge?, vertex_entry, edge_entry}
use Rattle.specification.specs.Chart.{bundle_entry}
use Rattle.specification.specs.declared.Kind.{Kind}
use Rattle.specification.specs.Drawn.{chart_refusal, Drawn, graph_content, graph_drawn, short?, lent, refused_by}
use Rattle.reach.proofs.Ends.{tail_at, head_at}
use Rattle.prefixes.specs.Prefixes.{last_set, Prefixes}
use Rattle.chart_plan.specs.Laid.{Lists, lists, Roomy, Laid, Plans}
use Rattle.chart_plan.specs.Laid.{Plan}
use Rattle.chart_plan.proofs.Entries.{edges-counted, small, edges_few, bundles-few, vertex_drawn, bundle_drawn, kind-among, mark-drawn}
use Rattle.chart_plan.proofs.Judging.{graph_refused, graph_whole}
use Rattle.chart_plan.proofs.Nothing.{empty}
use Rattle.reduction.specs.Reduction.{transitive_in?}
use Rattle.chart_plan.proofs.Shortage.{enough, lent-short, lent-whole}
use Rattle.chart_entries.specs.Steps.Sheet.{Sheet, blank_of}
use Rattle.chart_entries.specs.Steps.Entries.{vertex_at, kind_by, kind_at, edge_at, bundle_at}
use Rattle.chart_entries.specs.Steps.Sheets.{sheet_of, Drafted, Tables, Room, SheetOf, GraphSheet, floors_if}

-- ---- a refusal

blank_tables : (k : ℕ) (ends floors : List ℕ) → Tables nothing (plan_of nothing) ends floors (blank_of k)
blank_tables k ends floors = record {
  vertices = refl;
  edges = sym empty.edges;
  bundles = sym empty.bundles;
  rows = sym empty.rows;
  channels = sym empty.channels;
  width = sym empty.width;
  tracks = λ l h. zeros 128 l ∙ sym (empty.tracks l h);
  long = refl;
  vertex = λ v h. absurd (omega arith);
  edge = λ e h. absurd (omega (arith, empty.edges));
  bundle = λ b h. absurd (omega (arith, empty.bundles));
}

module _ (x : Drawn) (ends floors : List ℕ) (v e b : ℕ) (d : Sheet) where
  blank-room : (k : ℕ) → Room (blank_of k) v e b
  blank-room k = record {
    bounded = record { vertices = omega arith; edges = omega arith; bundles = omega arith };
    vertices = omega arith;
    edges = omega arith;
    bundles = omega arith;
  }

  blank-sheet : (k : ℕ) → lent v e b x ≡ refused_by k → d ≡ blank_of k → SheetOf x ends floors v e b d
  blank-sheet k l h = subst (SheetOf x ends floors v e b) (sym h) (record {
    refusal = sym (ap (λ (y : Drawn). y.refusal) l);
    tables = subst (λ (y : Drawn). Tables y.graph (plan_of y.graph) ends floors (blank_of k)) (sym l) (blank_tables k ends floors);
    room = blank-room k;
  })

  -- what is refused already is never short
  pub refused-sheet : (k : ℕ) → x ≡ refused_by k → d ≡ blank_of k → SheetOf x ends floors v e b d
  refused-sheet k r h =
      blank-sheet k (ap (lent v e b) r ∙ lent-whole v e b (refused_by k)
      (enough v e b (refused_by k) (omega arith) (omega (arith, empty.edges)) (omega (arith, empty.bundles)))) h

  short-sheet : short? v e b x ≡ true → d ≡ blank_of 8 → SheetOf x ends floors v e b d
  short-sheet s h = blank-sheet 8 (lent-short v e b x s) h

-- ---- a chart

-- the floor of a vertex, read from the floors or past their end
floor-read : (floored : Bool) (floors : List ℕ) (v : ℕ) → get_or (floors_if floored floors) v 0 ≡ floor_at floored floors v
floor-read true floors v = refl
floor-read false floors v = refl

module _ (n : ℕ) (ends : List ℕ) (given : Bool) (field : List ℕ) (floored : Bool) (floors : List ℕ) (p : Plan) (t : Lists)
    (l : Laid (graph_content n ends given field floored floors) p t) where
  abbrev c : Content
  c = graph_content n ends given field floored floors

  abbrev m : ℕ
  m = length ends / 2

  abbrev drawn : Drawn
  drawn = graph_drawn n ends given field floored floors

  abbrev whole : Drawn
  whole = record { refusal = 0; graph = c }

  counted : edges_of c ≡ m
  counted = edges-counted n ends given field floored floors

  -- the counts that are compared are the chart's
  sizes : drawn ≡ whole
      → (drawn.graph.vertices ≡ n) × (edges_of drawn.graph ≡ m) × (length (plan_of drawn.graph).bundles ≡ p.bundles)
  unfolding graph_content
  sizes e = rw e (refl, counted, sym l.bundles.counted)

  few : n ≤ 128
  unfolding graph_content
  few = small c p t l

  bundles-low : p.bundles ≤ 256
  unfolding graph_content
  bundles-low = let f = few in omega (arith, bundles-few c p t l)

  -- `left` is made of the channels by `prefixes::by_channel`
  module _ (left : List ℕ) (lefts : Prefixes 2 (min (min n 128) (length t.places / 4)) (quad 0 t.places)
      (last_set p.channels 258) left) (long : length t.used ≡ 128) where
    abbrev sheet : Sheet
    sheet = sheet_of n m p t left

    abbrev had : List ℕ
    had = floors_if floored floors

    vertex_same : (v : ℕ) → v < n → vertex_at sheet had v ≡ vertex_entry c (plan_of c) v
    unfolding vertex_at graph_content floor_of
    vertex_same v h = rw (floor-read floored floors v) (vertex_drawn c p t l v h)

    bundle_same : (b : ℕ) → bundle_at sheet b ≡ bundle_entry (plan_of c) b
    unfolding bundle_at
    bundle_same b = bundle_drawn c p t l b

    module _ (e : ℕ) (h : e < edges_of c) where
      -- the ends are bytes of the list
      tail_same : get_or ends (2 * e) 0 ≡ tail_of c e
      unfolding graph_content
      tail_same = sym (tail_at ends e)

      head_same : get_or ends (2 * e + 1) 0 ≡ head_of c e
      unfolding graph_content
      head_same = sym (head_at ends e)

      abbrev among : ℕ → ℕ → ℕ → Kind
      among k = kind_by t.number (take k t.column) t.places t.below left

      kind-same : kind_at sheet (get_or ends (2 * e) 0) (get_or ends (2 * e + 1) 0) ≡ kind_between c (plan_of c) (tail_of c e) (head_of c e)
      unfolding kind_at graph_content
      kind-same =
          let all : min n 128 ≡ n = let f = few in omega arith in
          ap (λ k. among k (get_or ends (2 * e) 0) (get_or ends (2 * e + 1) 0)) all
          ∙ ap₂ (among n) tail_same head_same
          ∙ kind-among c p t l e h 258 left (let f = few in omega arith) (λ _. lefts)

      mark-same : transitive_in? t.longer (get_or ends (2 * e) 0) (get_or ends (2 * e + 1) 0) ≡ transitive_edge? c e
      mark-same = ap₂ (transitive_in? t.longer) tail_same head_same ∙ mark-drawn c p t l e h

      edge_same : edge_at sheet ends e ≡ edge_entry c (plan_of c) e
      unfolding edge_at edge_entry
      edge_same = rw (kind-same, mark-same) refl

    tables : Tables c (plan_of c) ends had sheet
    unfolding graph_content
    tables = record {
      vertices = refl;
      edges = sym counted;
      bundles = l.bundles.counted;
      rows = l.rows_counted;
      channels = l.channel_count;
      width = l.width;
      tracks = λ i h. l.used i (omega (arith, long));
      long = long;
      vertex = vertex_same;
      edge = edge_same;
      bundle = λ b h. bundle_same b;
    }

    whole-sheet : (v e b : ℕ) (d : Sheet) → drawn ≡ whole → n ≤ v → m ≤ e → p.bundles ≤ b → d ≡ sheet
        → SheetOf drawn ends had v e b d
    whole-sheet v e b d q hv he hb is =
        let z = sizes q in
        let w : lent v e b drawn ≡ whole = lent-whole v e b drawn (enough v e b drawn (omega arith) (omega arith) (omega arith)) ∙ q in
        subst (SheetOf drawn ends had v e b) (sym is) (record {
          refusal = sym (ap (λ (y : Drawn). y.refusal) w);
          tables = subst (λ (y : Drawn). Tables y.graph (plan_of y.graph) ends had sheet) (sym w) tables;
          room = record {
            bounded = record {
              vertices = few;
              edges = omega (arith, edges_few c p t l, counted);
              bundles = bundles-low;
            };
            vertices = hv;
            edges = he;
            bundles = hb;
          };
        })

-- ---- what is made of a plan, by what is compared

-- the lists that are lent to the planner
abbrev cleared : Lists
cleared = lists (replicate 256 0) (replicate 512 0) (replicate 256 0) (replicate 256 0) (replicate 512 0) (replicate 1024 0)
    (replicate 256 0) (replicate 128 0) (replicate 128 0)

-- .. have room for every graph
roomy : (n : ℕ) (floored : Bool) → Roomy n floored cleared
roomy n floored =
    let one : min n 128 ≤ 128 = omega arith in
    let two : 2 * min n 128 ≤ 256 = omega arith in
    let more : 2 * min n 128 + 2 ≤ 512 = omega arith in
    let most : 2 * (min n 128 + 127) + 2 ≤ 512 = omega arith in
    let four : 4 * min n 128 ≤ 512 = omega arith in
    let eight : 8 * min n 128 ≤ 1024 = omega arith in
    let all : 128 ≤ 128 = omega arith in
    record {
      masks = record { masks = record { edges = two; below = more; table = two; longer = two; places = four }; rows = λ _. most };
      spans = eight;
      number = two;
      used = all;
      column = one;
    }

module _ (n : ℕ) (ends : List ℕ) (given : Bool) (field : List ℕ) (floored : Bool) (floors : List ℕ) (p : Plan) (s : Lists)
    (q : Plans n ends given field floored floors cleared p s) (v e b : ℕ) (d : Sheet) where
  abbrev Made : Type 0
  Made = GraphSheet n ends given field floored floors v e b d

  answer : p.refusal ≡ chart_refusal (graph_content n ends given field floored floors)
  answer = q.answer (roomy n floored)

  pub graph_unplanned : (p.refusal ≡ 0 → ⊥) → d ≡ blank_of p.refusal → Made
  graph_unplanned ne h = refused-sheet _ _ _ _ _ _ _ _ (graph_refused n ends given field floored floors _ answer ne) h

  module _ (ok : p.refusal ≡ 0) where
    abbrev laid : Laid (graph_content n ends given field floored floors) p s
    laid = q.laid ok

    drawn-whole : graph_drawn n ends given field floored floors
        ≡ record { refusal = 0; graph = graph_content n ends given field floored floors }
    drawn-whole = graph_whole n ends given field floored floors (sym ok ∙ answer)

    pub graph_short : (ltb v n || (ltb e (length ends / 2) || ltb b p.bundles)) ≡ true → d ≡ blank_of 8 → Made
    unfolding short?
    graph_short h is =
        let z = sizes n ends given field floored floors p s laid drawn-whole in
        short-sheet _ _ _ _ _ _ _ (rw (z.0, z.1, z.2) h) is

    pub short_vertices : v < n → d ≡ blank_of 8 → Made
    short_vertices h = graph_short (rw (lt-ltb _ _ h) refl)

    pub short_edges : n ≤ v → e < length ends / 2 → d ≡ blank_of 8 → Made
    short_edges g h = graph_short (rw (le-ltb _ _ g, lt-ltb _ _ h) refl)

    pub short_bundles : n ≤ v → length ends / 2 ≤ e → b < p.bundles → d ≡ blank_of 8 → Made
    short_bundles g k h = graph_short (rw (le-ltb _ _ g, le-ltb _ _ k, lt-ltb _ _ h) refl)

    pub graph_drafted : n ≤ v → length ends / 2 ≤ e → p.bundles ≤ b → Drafted n (length ends / 2) p s d → Made
    graph_drafted g k h w =
        whole-sheet n ends given field floored floors p s laid _ w.lefts q.long.used v e b d drawn-whole g k h w.tables
