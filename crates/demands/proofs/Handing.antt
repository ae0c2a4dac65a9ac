-- The lists of entries and the lists of numbers that the calls leave, read as entries. Assumes nothing.
use Rattle.counting.proofs.Prelude.{◌≡◌, refl, ap₂, ◌∙◌, List, ℕ, ◌+◌, ◌*◌, ◌/◌, ◌%◌, ◌<◌, arith, eqb, length}
use lib.Arith.{digits_lt, digits_div, digits_mod}
use Rattle.specification.specs.Count.{indicator}
use Rattle.specification.specs.Checks.{Content, edges_of}
use Rattle.specification.specs.Chart.{plan_of, vertex_entry, edge_entry, bundle_entry}
use Rattle.specification.specs.Drawn.{Drawn, lent}
use Rattle.specification.specs.Lent.{Filled}
use Rattle.specification.specs.Numbers.{word_numbers, arrow_numbers, bundle_numbers, code_of, word_number, arrow_number, bundle_number}
use Rattle.specification.specs.declared.VertexEntry.{VertexEntry}
use Rattle.specification.specs.declared.EdgeEntry.{EdgeEntry}
use Rattle.specification.specs.declared.BundleEntry.{BundleEntry}
use Rattle.specification.specs.declared.ChartCounts.{ChartCounts}
use Rattle.kinds.specs.Codes.{kind_of}
use Rattle.kinds.proofs.Coding.{kind_coded}
use Rattle.chart_entries.specs.Promise.{HandedOver}
use Rattle.chart_lists.specs.Chart.{Numbered, Left}
use Rattle.lists.proofs.Marking.{mark_back}
use Rattle.demands.specs.Demands.{entries_in}
use Rattle.demands.specs.Numbers.{number_at, vertex_from, edge_from, bundle_from, entries_from}
use Rattle.demands.proofs.Agreeing.{Shown}
use Rattle.demands.proofs.Accepting.{Handed}

-- ---- lists of entries

pub handed-lists : (d : Drawn) (vs vs' : List VertexEntry) (es es' : List EdgeEntry) (bs bs' : List BundleEntry) (r : ChartCounts)
    → HandedOver d vs es bs r vs' es' bs' → Handed (length vs) (length es) (length bs) d r (entries_in vs' es' bs')
handed-lists d vs vs' es es' bs bs' r h = record {
  refusal = h.refusal;
  summary = h.listed.summary;
  shown = record {
    vertex = λ v l. h.listed.vertex_list.made v _ l;
    edge = λ e l. h.listed.edge_list.made e _ l;
    bundle = λ b l. h.listed.bundle_list.made b _ l;
  };
}

-- ---- lists of numbers

-- an entry by its numbers
vertex_by : (x : VertexEntry) (a b c d e f : ℕ)
    → a ≡ x.channel → b ≡ x.position → c ≡ x.column → d ≡ x.row → e ≡ x.descendants → f ≡ x.floor
    → record { channel = a; position = b; column = c; row = d; descendants = e; floor = f } ≡ x
vertex_by x a b c d e f ea eb ec ed ee ef = rw (ea, eb, ec, ed, ee, ef) refl

edge_by : (x : EdgeEntry) (a b c d e : ℕ)
    → a ≡ x.number → b ≡ (code_of x.kind).code → c ≡ (code_of x.kind).value → d ≡ (code_of x.kind).row → e ≡ indicator x.transitive
    → record { number = a; kind = kind_of b c d; transitive = eqb e 1 } ≡ x
edge_by x a b c d e ea eb ec ed ee = rw (ea, eb, ec, ed, ee) (rw (kind_coded x.kind, mark_back x.transitive) refl)

bundle_by : (x : BundleEntry) (a b c d : ℕ) → a ≡ x.channel → b ≡ x.first_row → c ≡ x.last_row → d ≡ x.track
    → record { channel = a; first_row = b; last_row = c; track = d } ≡ x
bundle_by x a b c d ea eb ec ed = rw (ea, eb, ec, ed) refl

vertex_read : (ws : List ℕ) (v : ℕ) (x : VertexEntry) → ((f : ℕ) → f < 6 → number_at 6 ws v f ≡ word_number x f) → vertex_from ws v ≡ x
unfolding vertex_from word_number
vertex_read ws v x h =
    vertex_by x _ _ _ _ _ _ (h 0 (omega arith)) (h 1 (omega arith)) (h 2 (omega arith)) (h 3 (omega arith)) (h 4 (omega arith))
    (h 5 (omega arith))

edge_read : (es : List ℕ) (e : ℕ) (x : EdgeEntry) → ((f : ℕ) → f < 5 → number_at 5 es e f ≡ arrow_number x f) → edge_from es e ≡ x
unfolding edge_from arrow_number
edge_read es e x h = edge_by x _ _ _ _ _ (h 0 (omega arith)) (h 1 (omega arith)) (h 2 (omega arith)) (h 3 (omega arith)) (h 4 (omega arith))

bundle_read : (bs : List ℕ) (b : ℕ) (x : BundleEntry) → ((f : ℕ) → f < 4 → number_at 4 bs b f ≡ bundle_number x f) → bundle_from bs b ≡ x
unfolding bundle_from bundle_number
bundle_read bs b x h = bundle_by x _ _ _ _ (h 0 (omega arith)) (h 1 (omega arith)) (h 2 (omega arith)) (h 3 (omega arith))

-- a number of the first n entries of a list that is filled with w numbers an entry
number-made : (w n : ℕ) (g : ℕ → ℕ → ℕ) (was is : List ℕ) → Filled was (λ k. g (k / w) (k % w)) (n * w) is
    → (i : ℕ) → i < n → (f : ℕ) → f < w → number_at w is i f ≡ g i f
number-made w n g was is h i l f m = h.made (i * w + f) 0 (digits_lt l m) ∙ ap₂ g (digits_div i m) (digits_mod i m)

module _ (c : Content) (ws ws' es es' bs bs' : List ℕ) (r : ChartCounts) where
  numbers_shown : Numbered c (plan_of c) ws es bs r ws' es' bs' → Shown c (entries_from ws' es' bs')
  numbers_shown h = record {
    vertex = λ v l. vertex_read ws' v (vertex_entry c (plan_of c) v)
        (number-made 6 c.vertices (λ v. word_number (vertex_entry c (plan_of c) v)) ws ws' h.word_list v l);
    edge = λ e l. edge_read es' e (edge_entry c (plan_of c) e)
        (number-made 5 (edges_of c) (λ e. arrow_number (edge_entry c (plan_of c) e)) es es' h.arrow_list e l);
    bundle = λ b l. bundle_read bs' b (bundle_entry (plan_of c) b)
        (number-made 4 (length (plan_of c).bundles) (λ b. bundle_number (bundle_entry (plan_of c) b)) bs bs' h.bundle_list b l);
  }

pub handed-numbers : (d : Drawn) (ws ws' es es' bs bs' : List ℕ) (r : ChartCounts)
    → Left (lent (length ws / word_numbers) (length es / arrow_numbers) (length bs / bundle_numbers) d) ws es bs r ws' es' bs'
    → Handed (length ws / word_numbers) (length es / arrow_numbers) (length bs / bundle_numbers) d r (entries_from ws' es' bs')
handed-numbers d ws ws' es es' bs bs' r h = record {
  refusal = h.refusal;
  summary = h.numbered.summary;
  shown = numbers_shown _ ws ws' es es' bs bs' r h.numbered;
}
