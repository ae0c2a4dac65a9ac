-- Entries that are the definitions' carry the floors, and stand by the rule of rows. Assumes nothing.
use Rattle.counting.proofs.Prelude.{◌≡◌, refl, sym, ap, ap₂, ◌∙◌, ℕ, ◌<◌, max, arith}
use Rattle.specification.specs.Graph.{edge?}
use Rattle.specification.specs.Checks.{Content, Sound}
use Rattle.specification.specs.Chart.{floor_of, row_of, vertex_entry}
use Rattle.specification.specs.declared.VertexEntry.{VertexEntry}
use Rattle.counting.proofs.Above.{above_ext}
use Rattle.chart_laws.proofs.Rows.{row-rule, floor-kept, row_paged}
use Rattle.demands.specs.Demands.{Entries, Standing}
use Rattle.demands.proofs.Agreeing.{Shown}

module _ (c : Content) (s : Sound c) (n : Entries) (h : Shown c n) where
  floor-same : (v : ℕ) → v < c.vertices → (n.vertex v).floor ≡ floor_of c v
  unfolding vertex_entry
  floor-same v l = ap (λ (x : VertexEntry). x.floor) (h.vertex v l)

  row_same : (v : ℕ) → v < c.vertices → (n.vertex v).row ≡ row_of c v
  unfolding vertex_entry
  row_same v l = ap (λ (x : VertexEntry). x.row) (h.vertex v l)

  pub shown_standing : Standing c n
  shown_standing = record {
    carried = floor-same;
    rule = λ v l.
        row_same v l ∙ row-rule c s v l
        ∙ ap₂ max (sym (floor-same v l)) (above_ext c.vertices (λ u. edge? c.tails c.heads u v)
        (λ u. edge? c.tails c.heads u v) (row_of c) (λ u. (n.vertex u).row) (λ u k. refl) (λ u k e. sym (row_same u k)));
    kept = λ v l. omega (arith, floor-same v l, row_same v l, floor-kept c s v l);
    low = λ v l. omega (arith, row_same v l, row_paged c s v l);
  }
