-- What a layout is told as says which it is: no two that are answered are told alike. Assumes nothing.
use Rattle.counting.proofs.Prelude.{◌≡◌, refl, sym, ap, ap₂, ◌∙◌, true≢false, false≢true, ℕ, ◌/◌, ◌%◌, arith}
use Rattle.std.specs.Prelude.{Option, Some, None}
use Rattle.specification.specs.Layout.{layout_answer}
use Rattle.specification.proofs.Placing.{bad_good, good_same}
use Rattle.specification.proofs.Cases.{same_layout}
use Rattle.fields.specs.declared.Span.{Span}
use Rattle.fields.specs.declared.Fields.{Fields}
use Rattle.fields.specs.Parts.{there?, start_of, size_of, fields_told, layout_told, Paired}

same_span : (a b : Span) → a.start ≡ b.start → a.size ≡ b.size → a ≡ b
same_span a b e f = ap₂ (λ x y. record { start = x; size = y }) e f

same_part : (a b : Option Span) → there? a ≡ there? b → start_of a ≡ start_of b → size_of a ≡ size_of b → a ≡ b
same_part None None t e f = refl
same_part None (Some b) t e f = absurd (false≢true t)
same_part (Some a) None t e f = absurd (true≢false t)
same_part (Some a) (Some b) t e f = ap Some (same_span a b e f)

same_size : (k l : ℕ) → k % 2 ≡ 0 → l % 2 ≡ 0 → k / 2 ≡ l / 2 → k ≡ l
same_size k l a b e = omega (arith, a, b, e)

pub same_fields : (r s : Option Fields) → Paired r → Paired s → layout_answer (layout_told r) ≡ layout_answer (layout_told s) → r ≡ s
same_fields None None p q e = refl
same_fields None (Some g) p q e = absurd (bad_good (fields_told g) (same_layout (layout_told None) (layout_told (Some g)) e))
same_fields (Some f) None p q e = absurd (bad_good (fields_told f) (sym (same_layout (layout_told (Some f)) (layout_told None) e)))
same_fields (Some f) (Some g) p q e =
    let h = good_same (fields_told f) (fields_told g) (same_layout (layout_told (Some f)) (layout_told (Some g)) e) in
    let edges = same_span f.edges g.edges (ap (λ x. x.edges) h) (same_size f.edges.size g.edges.size p q (ap (λ x. x.count) h)) in
    let given = same_part f.given g.given (ap (λ x. x.given) h) (ap (λ x. x.lines) h) (ap (λ x. x.size) h) in
    let floors = same_part f.floors g.floors (ap (λ x. x.floored) h) (ap (λ x. x.floors) h) (ap (λ x. x.extent) h) in
    ap Some (ap₂ (λ v e. record { vertices = v; edges = e; given = f.given; floors = f.floors }) (ap (λ x. x.vertices) h) edges
    ∙ ap₂ (λ k l. record { vertices = g.vertices; edges = g.edges; given = k; floors = l }) given floors)
