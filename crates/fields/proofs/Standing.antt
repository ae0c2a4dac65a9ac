-- The fields of a record that is laid out as it must be lie within it. Assumes nothing.
use Rattle.counting.proofs.Prelude.{◌≡◌, refl, sym, subst, Bool, true, false, true≢false, List, ℕ, ◌+◌, ◌*◌, ◌/◌, ◌%◌, ◌≤◌, zero-le, arith}
use Rattle.counting.proofs.Prelude.{eqb, leb, length, get_or, take, drop, eqb-true}
use Rattle.std.specs.Prelude.{Some, None}
use Rattle.specification.specs.Count.{choose}
use Rattle.specification.specs.Layout.{Field, Found, Missing, Fields, Good}
use Rattle.specification.specs.Limits.{most_bytes}
use Rattle.specification.specs.Layout.{field_at, lined, bare_fields, lined_fields, floored_fields}
use Rattle.specification.specs.Layout.{with_floors, after_lines, with_lines, after_edges, with_edges, with_vertices, layout_of}
use Rattle.specification.specs.Layout.{layout_answer}
use Rattle.specification.proofs.Placing.{found_inside, bad_good, good_same, chosen}
use Rattle.specification.proofs.Cases.{same_layout}
use Rattle.fields.specs.declared.Fields.{Fields as Spans}
use Rattle.fields.specs.Parts.{start_of, size_of, fields_told, layout_told, Paired, Within}

pub record LaidOut (b : List ℕ) (f : Fields) : Type 0 where
  pub edges : f.edges + 2 * f.count ≤ length b
  pub lines : f.lines + f.size ≤ length b
  pub bare : f.given ≡ false → f.size ≡ 0
  pub channels : lined 0 (take f.size (drop f.lines b)) ≡ true
  pub floors : f.floors + f.extent ≤ length b
  pub unfloored : f.floored ≡ false → f.extent ≡ 0

module _ (b : List ℕ) (f : Fields) where
  floors_good : (g : Fields) (fd : Field) → LaidOut b g → with_floors b g fd ≡ Good f → LaidOut b f
  unfolding with_floors
  floors_good g Missing h p = absurd (bad_good f p)
  floors_good g (Found s l) h p =
      let q = chosen (eqb (s + l) (length b)) (Good (floored_fields g s l)) f p in
      let ends : s + l ≡ length b = eqb-true _ _ q.0 in
      subst (LaidOut b) (good_same (floored_fields g s l) f q.1)
      (record {
        edges = h.edges;
        lines = h.lines;
        bare = h.bare;
        channels = h.channels;
        floors = omega arith;
        unfloored = λ z. absurd (true≢false z);
      })

  end_good : (g : Fields) (end : ℕ) → LaidOut b g → after_lines b g end ≡ Good f → LaidOut b f
  unfolding after_lines
  end_good g end h = go (eqb end (length b))
    where
      go : (t : Bool) → choose t (λ _. Good g) (λ _. with_floors b g (field_at 4 b end)) ≡ Good f → LaidOut b f
      go true p = subst (LaidOut b) (good_same g f p) h
      go false p = floors_good g (field_at 4 b end) h p

  lines_good : (n e m end : ℕ) (fd : Field) → ((s l : ℕ) → fd ≡ Found s l → s + l ≤ length b) → e + 2 * m ≤ length b
      → with_lines b n e m end fd ≡ Good f → LaidOut b f
  unfolding with_lines lined
  lines_good n e m end Missing i h p =
      end_good (bare_fields n e m) end
      (record { edges = h; lines = zero-le; bare = λ z. refl; channels = refl; floors = zero-le; unfloored = λ z. refl }) p
  lines_good n e m end (Found s l) i h p =
      let g = lined_fields n e m s l in
      let q = chosen (lined 0 (take l (drop s b))) (after_lines b g (s + l)) f p in
      end_good g (s + l)
      (record {
        edges = h;
        lines = i s l refl;
        bare = λ z. absurd (true≢false z);
        channels = q.0;
        floors = zero-le;
        unfloored = λ z. refl;
      })
      q.1

  edges_good : (n : ℕ) (fd : Field) → ((s l : ℕ) → fd ≡ Found s l → s + l ≤ length b) → with_edges b n fd ≡ Good f → LaidOut b f
  unfolding with_edges after_edges
  edges_good n Missing i p = absurd (bad_good f p)
  edges_good n (Found s l) i p =
      let q = chosen (eqb (l % 2) 0) (after_edges b n s (l / 2) (s + l)) f p in
      let even : l % 2 ≡ 0 = eqb-true _ _ q.0 in
      let h = i s l refl in
      lines_good n s (l / 2) (s + l) (field_at 3 b (s + l)) (λ x y e. (found_inside 3 b (s + l) x y e).ends) (omega arith) q.1

  vertices_good : (fd : Field) → with_vertices b fd ≡ Good f → LaidOut b f
  unfolding with_vertices
  vertices_good Missing p = absurd (bad_good f p)
  vertices_good (Found s l) p =
      let q = chosen (eqb l 1) (with_edges b (get_or b s 0) (field_at 2 b (s + l))) f p in
      edges_good (get_or b s 0) (field_at 2 b (s + l)) (λ x y e. (found_inside 2 b (s + l) x y e).ends) q.1

  pub layout_good : layout_of b ≡ Good f → LaidOut b f
  unfolding layout_of
  layout_good p = vertices_good (field_at 1 b 0) (chosen (leb (length b) most_bytes) (with_vertices b (field_at 1 b 0)) f p).1

-- the parts that are found lie within the record
pub record Held (b : List ℕ) (f : Spans) : Type 0 where
  pub edges : Within b (Some f.edges)
  pub given : Within b f.given
  pub floors : Within b f.floors

pub spans_laid : (b : List ℕ) (f : Spans) → layout_answer (layout_told (Some f)) ≡ layout_answer (layout_of b) → LaidOut b (fields_told f)
spans_laid b f e = layout_good b (fields_told f) (sym (same_layout (layout_told (Some f)) (layout_of b) e))

pub spans_held : (b : List ℕ) (f : Spans) → layout_answer (layout_told (Some f)) ≡ layout_answer (layout_of b) → Paired (Some f) → Held b f
spans_held b f e p =
    let h = spans_laid b f e in
    record {
      edges = omega (arith, h.edges);
      given = elim f.given as (λ s. start_of s + size_of s ≤ length b → Within b s) [ None ↦ λ _. tt | Some s ↦ λ w. w ] h.lines;
      floors = elim f.floors as (λ s. start_of s + size_of s ≤ length b → Within b s) [ None ↦ λ _. tt | Some s ↦ λ w. w ] h.floors;
    }
