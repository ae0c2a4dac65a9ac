-- What is drawn of a graph, and of a record: its graph's, or nothing. Assumes nothing.
use Rattle.counting.proofs.Prelude.{◌≡◌, refl, sym, ap, ◌∙◌, Bool, List, ℕ, ◌*◌, take, drop, ne_eqb}
use Rattle.specification.specs.Checks.{content_of, content_in, refusal_in}
use Rattle.std.specs.Prelude.{Ok, Err}
use Rattle.specification.specs.Parts.{present?, bytes_of}
use Rattle.specification.specs.declared.Graph.{Graph}
use Rattle.specification.specs.declared.Refusal.{Refusal}
use Rattle.specification.specs.Layout.{layout_of, Fields, Layout, Good, Bad}
use Rattle.fields.specs.Parts.{Parted}
use Rattle.fields.proofs.Parting.{parted_bad, parted_good}
use Rattle.specification.specs.Drawn.{chart_refusal, Drawn, judged, graph_content, graph_drawn, record_drawn, refused_by}

module _ (n : ℕ) (ends : List ℕ) (given : Bool) (field : List ℕ) (floored : Bool) (floors : List ℕ) where
  pub graph_refused : (k : ℕ) → k ≡ chart_refusal (graph_content n ends given field floored floors) → (k ≡ 0 → ⊥)
      → graph_drawn n ends given field floored floors ≡ refused_by k
  unfolding graph_drawn judged
  graph_refused k e ne = rw (← e) (rw (ne_eqb k 0 ne) refl)

  pub graph_whole : 0 ≡ chart_refusal (graph_content n ends given field floored floors)
      → graph_drawn n ends given field floored floors ≡ record { refusal = 0; graph = graph_content n ends given field floored floors }
  unfolding graph_drawn judged
  graph_whole e = rw (← e) refl

-- ---- by where the fields of the record stand

drawn_in : List ℕ → Layout → Drawn
drawn_in b l = judged (refusal_in chart_refusal b l) (content_in b l)

-- equal parts are drawn alike
drawn-same : {n n' : ℕ} {ends ends' field field' floors floors' : List ℕ} {given given' floored floored' : Bool}
    → n ≡ n' → ends ≡ ends' → given ≡ given' → field ≡ field' → floored ≡ floored' → floors ≡ floors'
    → graph_drawn n ends given field floored floors ≡ graph_drawn n' ends' given' field' floored' floors'
drawn-same a b c d e f = rw (a, b, c, d, e, f) refl

module _ (b : List ℕ) where
  record-drawn : record_drawn b ≡ drawn_in b (layout_of b)
  unfolding record_drawn drawn_in
  record-drawn = refl

  pub record_bad : layout_of b ≡ Bad → record_drawn b ≡ refused_by 1
  unfolding drawn_in judged
  record_bad e = record-drawn ∙ ap (drawn_in b) e

  pub record_good : (f : Fields) → layout_of b ≡ Good f
      → record_drawn b ≡ graph_drawn f.vertices (take (2 * f.count) (drop f.edges b)) f.given (take f.size (drop f.lines b))
      f.floored (take f.extent (drop f.floors b))
  unfolding drawn_in graph_drawn judged graph_content content_of
  record_good f e = record-drawn ∙ ap (drawn_in b) e

  -- by the graph that the record says, or by there being none
  pub record_unread : (k : Refusal) → Parted b (layout_of b) (Err k) → record_drawn b ≡ refused_by 1
  record_unread k h = record_bad (parted_bad b (layout_of b) k h).0

  pub record_read : (g : Graph) → Parted b (layout_of b) (Ok g)
      → record_drawn b ≡ graph_drawn g.vertices g.ends.now (present? g.given) (bytes_of g.given) (present? g.floors) (bytes_of g.floors)
  record_read g h =
      let p = parted_good b (layout_of b) g h in
      let q = p.2 in
      record_good p.0 p.1 ∙ sym (drawn-same q.vertices q.ends q.given q.lines q.floored q.floors)
