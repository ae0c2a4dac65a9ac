-- From what `hand_over` leaves to the promises of the calls. Assumes nothing.
use Rattle.counting.proofs.Prelude.{◌≡◌, sym, ap, subst, ◌∙◌, Bool, List, ℕ, ◌≤◌, arith, length}
use native.Mathlib.Nat.{mul-one, div-one}
use Rattle.lists.specs.Marking.{Marking}
use Rattle.counting.proofs.Stores.{filled_none}
use Rattle.lists.proofs.Marking.{after_none, entries_legible, after_same, marking, marked-filled, marked_reduced}
use Rattle.lists.proofs.Written.{refilled}
use Rattle.specification.specs.Lent.{Filled}
use Rattle.specification.specs.Pass.{as_entries, state, after}
use Rattle.specification.specs.Checks.{Content, edges_of}
use Rattle.specification.specs.Chart.{Plan, edge_entry}
use Rattle.specification.specs.Numbers.{arrow_number}
use Rattle.specification.specs.declared.VertexEntry.{VertexEntry}
use Rattle.specification.specs.declared.EdgeEntry.{EdgeEntry}
use Rattle.specification.specs.declared.BundleEntry.{BundleEntry}
use Rattle.specification.specs.Drawn.{Drawn, graph_drawn}
use Rattle.chart_entries.specs.Steps.Sheet.{Sheet, blank_of}
use Rattle.specification.specs.declared.ChartCounts.{ChartCounts}
use Rattle.chart_entries.specs.Promise.{HandedOver}
use Rattle.chart_entries.specs.Steps.Entries.{edge_at}
use Rattle.chart_entries.specs.Steps.Sheets.{Tables, SheetOf, GraphSheet, floors_if, summary_of, Leaves}

-- THE PASS over the edges, by what `fill_edges` promises: the states are the chart's
passed : (c : Content) (p : Plan) (ends floors : List ℕ) (d : Sheet) → Tables c p ends floors d → (es es' : List EdgeEntry) (x : ℕ)
    → d.edges ≤ length es → state es' x ≡ after as_entries (edge_at d ends) es d.edges → Marking as_entries c p es es' x
passed c p ends floors d ts es es' x room e =
    marking as_entries entries_legible c p es (omega (arith, ts.edges)) es' x
    (e ∙ ap (after as_entries (edge_at d ends) es) ts.edges
    ∙ after_same as_entries (edge_at d ends) (edge_entry c p) es (edges_of c) ts.edge)

-- an entry an edge
marked-edges : (c : Content) (p : Plan) (es es' : List EdgeEntry) (x : ℕ) → Marking as_entries c p es es' x
    → Filled es (edge_entry c p) (edges_of c) es'
marked-edges c p es es' x h =
    refilled _ _ _ _ _ _ (mul-one (edges_of c)) (λ k l. ap (edge_entry c p) (div-one k)) (marked-filled as_entries c p es es' x h)

module _ (vs vs' : List VertexEntry) (es es' : List EdgeEntry) (bs bs' : List BundleEntry) (d : Sheet) (r : ChartCounts) where
  handed : (x : Drawn) (ends floors : List ℕ) → SheetOf x ends floors (length vs) (length es) (length bs) d
      → Leaves d ends floors vs es bs r vs' es' bs' → HandedOver x vs es bs r vs' es' bs'
  handed x ends floors s h =
      let ts = s.tables in
      let pass = passed _ _ ends floors d ts es es' h.reduced s.room.edges h.edges in
      let edges = marked-edges _ _ es es' h.reduced pass in
      subst (λ (a : ChartCounts). HandedOver x vs es bs a vs' es' bs') (sym h.answer) (record {
        refusal = s.refusal;
        listed = record {
          summary = record {
            words = ts.vertices;
            arrows = ts.edges;
            bundles = ts.bundles;
            rows = ts.rows;
            lines = ts.channels;
            firm = marked_reduced as_entries _ _ es es' h.reduced pass;
            width = ts.width;
            side_columns = ts.tracks;
            long = ts.long;
          };
          vertex_list = refilled _ _ _ _ _ _ ts.vertices ts.vertex h.vertices;
          edge_list = edges;
          edge_numbers = λ e f d l. ap (λ (x : EdgeEntry). arrow_number x f) (edges.made e d l);
          bundle_list = refilled _ _ _ _ _ _ ts.bundles ts.bundle h.bundles;
        };
      })

  pub of_graph : (n : ℕ) (ends : List ℕ) (given : Bool) (field : List ℕ) (floored : Bool) (floors had : List ℕ)
      → GraphSheet n ends given field floored floors (length vs) (length es) (length bs) d → had ≡ floors_if floored floors
      → Leaves d ends had vs es bs r vs' es' bs' → HandedOver (graph_drawn n ends given field floored floors) vs es bs r vs' es' bs'
  of_graph n ends given field floored floors had s is h =
      handed (graph_drawn n ends given field floored floors) ends (floors_if floored floors) s
      (subst (λ (l : List ℕ). Leaves d ends l vs es bs r vs' es' bs') is h)

  -- a refusal leaves the lists as they were
  pub refused_handed : (x : Drawn) (ends floors : List ℕ) (k : ℕ) → d ≡ blank_of k
      → SheetOf x ends floors (length vs) (length es) (length bs) d
      → r ≡ summary_of (blank_of k) 0 → vs' ≡ vs → es' ≡ es → bs' ≡ bs → HandedOver x vs es bs r vs' es' bs'
  refused_handed x ends floors k b s h v e w = handed x ends floors s (rw (b, v, e, w) (record {
    reduced = 0;
    answer = h;
    vertices = filled_none _ _;
    edges = after_none as_entries _ _;
    bundles = filled_none _ _;
  }))
