-- Two graphs that have the same vertices, edges, given channels and floors are answered alike, wherever these stand. Assumes nothing.
use Rattle.counting.proofs.Prelude.{◌≡◌, refl, ap, ◌∙◌, subst, Bool, true, false, ◌||◌, List, ℕ, ◌*◌, eqb, ltb, length}
use mathlib.Core.Path.{fun_ext}
use Rattle.specification.specs.Count.{choose}
use Rattle.specification.specs.Graph.{edge?}
use Rattle.specification.specs.Rows.{row, rows_used}
use Rattle.specification.specs.Channels.{given_lines, channel_of, position_of}
use Rattle.specification.specs.Checks.{Content, content, edges_of, floor_at, connection_in, nothing}
use Rattle.specification.specs.Bundles.{bundle_of, adjacent?}
use Rattle.specification.specs.Geometry.{point, course_of}
use Rattle.specification.specs.Chart.{leads?, descendants_of, tail_of, head_of, floor_of, row_of, row_count, transitive_edge?}
use Rattle.specification.specs.Chart.{reduced_edges, Plan}
use Rattle.specification.specs.Chart.{channels_of, bundled, plan_of, column_in, crossing, kind_between, vertex_entry, edge_entry}
use Rattle.specification.specs.Drawn.{judged, short?, refused_by, lent}
use Rattle.specification.specs.Lent.{Filled}
use Rattle.specification.specs.Numbers.{word_numbers, arrow_numbers, words, arrows}
use Rattle.specification.specs.declared.Kind.TheVariants.{Path, PathTransitive}
use Rattle.specification.specs.declared.VertexEntry.{VertexEntry}
use Rattle.specification.specs.declared.EdgeEntry.{EdgeEntry}
use Rattle.specification.specs.declared.ChartCounts.{ChartCounts}
use Rattle.chart_lists.specs.Chart.{Numbered, Left}

module _ (n : ℕ) (tails heads : List ℕ) (g h : Bool) (f k : List ℕ) (p q : Bool) (x y : List ℕ)
    (same : given_lines g f ≡ given_lines h k) (level : (v : ℕ) → floor_at p x v ≡ floor_at q y v) where
  abbrev c : Content
  c = content n tails heads g f p x

  abbrev d : Content
  d = content n tails heads h k q y

  floors-same : floor_of c ≡ floor_of d
  unfolding floor_of
  floors-same = fun_ext level

  rows_same : row_of c ≡ row_of d
  unfolding row_of
  rows_same = ap (λ (floor : ℕ → ℕ). λ (v : ℕ). row (edge? tails heads) floor n v) floors-same

  plan-same : plan_of c ≡ plan_of d
  unfolding plan_of bundled channels_of leads?
  plan-same = rw (same, rows_same) refl

  -- entries by any floors
  abbrev word_by : (ℕ → ℕ) → Plan → ℕ → VertexEntry
  word_by floor p v = record {
    channel = channel_of p.channels v;
    position = position_of p.channels v;
    column = column_in p v;
    row = row (edge? tails heads) floor n v;
    descendants = descendants_of c v;
    floor = floor v;
  }

  abbrev arrow_by : (ℕ → ℕ) → Plan → ℕ → EdgeEntry
  arrow_by floor p e = record {
    number = e;
    kind = choose (eqb (channel_of p.channels (tail_of c e)) (channel_of p.channels (head_of c e)))
        (λ _. choose (adjacent? (position_of p.channels (tail_of c e)) (position_of p.channels (head_of c e)))
        (λ _. Path) (λ _. PathTransitive (bundle_of p.bundles (tail_of c e) (head_of c e))))
        (λ _. crossing (course_of (λ v. point (column_in p v) (row (edge? tails heads) floor n v)) n (tail_of c e) (head_of c e)));
    transitive = transitive_edge? c e;
  }

  short-same : (i v m b : ℕ) → short? v m b (record { refusal = i; graph = c }) ≡ short? v m b (record { refusal = i; graph = d })
  unfolding short?
  short-same i v m b = ap (λ p. ltb v n || (ltb m (edges_of c) || ltb b (length p.bundles))) plan-same

  module _ (ws es bs : List ℕ) (r : ChartCounts) (ws' es' bs' : List ℕ) where
    numbered-same : (p : Plan) → Numbered c p ws es bs r ws' es' bs' → Numbered d p ws es bs r ws' es' bs'
    unfolding leads? connection_in descendants_of row_of row_count transitive_edge? reduced_edges kind_between vertex_entry edge_entry
    numbered-same p a = record {
      summary = record {
        words = a.summary.words;
        arrows = a.summary.arrows;
        bundles = a.summary.bundles;
        rows = a.summary.rows ∙ ap (λ (floor : ℕ → ℕ). rows_used (edge? tails heads) floor n) floors-same;
        lines = a.summary.lines;
        firm = a.summary.firm;
        width = a.summary.width;
        side_columns = a.summary.side_columns;
        long = a.summary.long;
      };
      word_list =
          subst (λ (floor : ℕ → ℕ). Filled ws (words (word_by floor p)) (n * word_numbers) ws') floors-same a.word_list;
      arrow_list =
          subst (λ (floor : ℕ → ℕ). Filled es (arrows (arrow_by floor p)) (edges_of c * arrow_numbers) es') floors-same a.arrow_list;
      bundle_list = a.bundle_list;
    }

    -- drawn, or too much for the lists
    drawn-same : (i : ℕ) (t : Bool) → Left (choose t (λ _. refused_by 8) (λ _. record { refusal = i; graph = c })) ws es bs r ws' es' bs'
        → Left (choose t (λ _. refused_by 8) (λ _. record { refusal = i; graph = d })) ws es bs r ws' es' bs'
    drawn-same i true a = a
    drawn-same i false a = record {
      refusal = a.refusal;
      numbered = subst (λ p. Numbered d p ws es bs r ws' es' bs') plan-same (numbered-same (plan_of c) a.numbered);
    }

    pub left-same : (i v m b : ℕ) → Left (lent v m b (judged i c)) ws es bs r ws' es' bs'
        → Left (lent v m b (judged i d)) ws es bs r ws' es' bs'
    unfolding judged lent
    left-same i v m b = go (eqb i 0)
      where
        go : (t : Bool) → Left (lent v m b (record { refusal = i; graph = choose t (λ _. c) (λ _. nothing) })) ws es bs r ws' es' bs'
            → Left (lent v m b (record { refusal = i; graph = choose t (λ _. d) (λ _. nothing) })) ws es bs r ws' es' bs'
        go true a =
            subst (λ t. Left (choose t (λ _. refused_by 8) (λ _. record { refusal = i; graph = d })) ws es bs r ws' es' bs')
            (short-same i v m b)
            (drawn-same i (short? v m b (record { refusal = i; graph = c })) a)
        go false a = a
