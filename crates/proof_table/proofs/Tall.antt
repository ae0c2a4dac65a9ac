-- The tallest chart: 128 vertices in a row of edges, from the highest floor. Assumes nothing.
use Rattle.counting.proofs.Prelude.{◌≡◌, refl, sym, ap, subst, inl, inr, ⊎_elim, true, true≢false, List, ℕ, zero}
use Rattle.counting.proofs.Prelude.{suc, ◌+◌, ◌-◌, ◌≤◌, ◌<◌, arith, length, get_or, get_or-eq_default}
use Rattle.counting.proofs.Truth.{lt-or-le}
use Rattle.counting.proofs.Above.{above_each, above-le}
use Rattle.specification.specs.Graph.{Reaches, one, more, edge_count, Edge, edge?, alternate, tails_of, heads_of}
use Rattle.specification.specs.Channels.{given_lines}
use Rattle.specification.specs.Layout.{Fields}
use Rattle.specification.specs.Layout.{Good}
use Rattle.specification.specs.Layout.{bare_fields, floored_fields, size_at, field_at, with_floors, after_lines, with_lines, after_edges}
use Rattle.specification.specs.Layout.{with_edges}
use Rattle.specification.specs.Layout.{with_vertices, layout_of}
use Rattle.specification.specs.Checks.{content_of, Sound}
use Rattle.specification.specs.Chart.{floor_of, row_of, row_count}
use Rattle.reach.proofs.Decide.{edge_decided}
use Rattle.matching.proofs.Beside.{none_whole}
use Rattle.chart_laws.proofs.Rows.{row-rule, row_count_lem}
use Rattle.proof_table.specs.Table.{values, pairs, chain_floors, tall, tall_record, Draws}
use Rattle.proof_table.proofs.Full.{values_long, values_from_0}
use Rattle.proof_table.proofs.Broad.{draws}

abbrev tails : List ℕ
tails = values (λ i. i) 127 0

abbrev heads : List ℕ
heads = values suc 127 0

edges : edge_count tails heads ≡ 127
edges = rw (values_long (λ i. i) 127 0, values_long suc 127 0)

tail_at : (i : ℕ) → i < 127 → get_or tails i 0 ≡ i
tail_at = values_from_0 (λ i. i) 127

head_at : (i : ℕ) → i < 127 → get_or heads i 0 ≡ suc i
head_at = values_from_0 suc 127

-- ---- the edges: from each vertex to the next

edge_next : {u v : ℕ} → Edge tails heads u v → v ≡ suc u
unfolding Edge
edge_next (i, h, t, d) = let l : i < 127 = rw edges at h in omega (arith, tail_at i l, head_at i l, t, d)

next_edge : (u : ℕ) → suc u < 128 → Edge tails heads u (suc u)
unfolding Edge
next_edge u h = (u, rw edges (omega arith), tail_at u (omega arith), head_at u (omega arith))

route_up : {u v : ℕ} → Reaches (Edge tails heads) u v → u < v
route_up (one e) = omega (arith, edge_next e)
route_up (more e r) = omega (arith, edge_next e, route_up r)

up_route : (k u : ℕ) → u + suc k < 128 → Reaches (Edge tails heads) u (u + suc k)
up_route zero u h = subst (Reaches (Edge tails heads) u) (let z : suc u ≡ u + 1 = omega arith in z) (one (next_edge u (omega arith)))
up_route (suc k) u h =
    subst (Reaches (Edge tails heads) u) (let z : suc u + suc k ≡ u + suc (suc k) = omega arith in z)
    (more (next_edge u (omega arith)) (up_route k (suc u) (omega arith)))

leads_on : (u v : ℕ) → u < v → v < 128 → Reaches (Edge tails heads) u v
leads_on u v l h =
    let z : u + suc (v - suc u) ≡ v = omega arith in
    subst (Reaches (Edge tails heads) u) z (up_route (v - suc u) u (omega (arith, z)))

-- ---- the floors

floors_long : length chain_floors ≡ 128
unfolding chain_floors
floors_long = ap suc (values_long (λ i. 0) 127 0)

floor_later : (v : ℕ) → get_or chain_floors (suc v) 0 ≡ 0
unfolding chain_floors
floor_later v = ⊎_elim
    (λ l. values_from_0 (λ i. 0) 127 v l)
    (λ l. get_or-eq_default (values (λ i. 0) 127 0) 0 (omega (arith, values_long (λ i. 0) 127 0)))
    (lt-or-le v 127)

floor-low : (v : ℕ) → get_or chain_floors v 0 ≤ 127
unfolding chain_floors
floor-low zero = omega arith
floor-low (suc v) = omega (arith, floor_later v)

tall_sound : Sound tall
unfolding tall
tall_sound = record {
  size = (omega arith, omega arith, omega (arith, edges));
  floors = λ _. (floors_long, floor-low);
  ends = λ i h. let l : i < 127 = rw edges at h in (omega (arith, tail_at i l), omega (arith, head_at i l));
  named = λ g. absurd (true≢false (sym g));
  distinct = λ i j h k e _.
      let l : i < 127 = rw edges at h in
      let m : j < 127 = rw edges at k in
      omega (arith, tail_at i l, tail_at j m, e);
  acyclic = λ u r. omega (arith, route_up r);
  once = λ g. absurd (true≢false (sym g));
  led = λ g. absurd (true≢false (sym g));
}

-- ---- the rows

pub rows : (v : ℕ) → v < 128 → row_of tall v ≡ 127 + v
unfolding tall floor_of chain_floors
rows zero h =
    let none = above-le 128 (λ u. edge? tails heads u 0) (row_of tall) 0
    (λ u l e. absurd (omega (arith, edge_next ((edge_decided tails heads u 0).1 e)))) in
    omega (arith, row-rule tall tall_sound 0 h, none)
rows (suc v) h =
    let below = rows v (omega arith) in
    let each = above_each 128 (λ u. edge? tails heads u (suc v)) (row_of tall) v (omega arith)
    ((edge_decided tails heads v (suc v)).0 (next_edge v h)) in
    let most = above-le 128 (λ u. edge? tails heads u (suc v)) (row_of tall) (128 + v) (λ u l e.
    let q : v ≡ u = omega (arith, edge_next ((edge_decided tails heads u (suc v)).1 e)) in
    omega (arith, below, ap (row_of tall) q)) in
    omega (arith, row-rule tall tall_sound (suc v) h, floor_later v, each, most, below)

pub used : row_count tall ≡ 255
unfolding tall
used =
    let each = above_each 128 (λ v. true) (row_of tall) 127 (omega arith) refl in
    let most = above-le 128 (λ v. true) (row_of tall) 255 (λ v h _. omega (arith, rows v h)) in
    omega (arith, row_count_lem tall tall_sound, each, most, rows 127 (omega arith))

-- ---- the record

abbrev fields : Fields
fields = floored_fields (bare_fields 128 7 127) 264 128

laid : layout_of tall_record ≡ Good fields
unfolding layout_of with_vertices with_edges after_edges with_lines after_lines with_floors field_at size_at tall_record pairs chain_floors
    values
laid = refl

says : content_of tall_record fields ≡ tall
unfolding content_of tails_of heads_of alternate tall_record tall pairs chain_floors values
says = refl

pub drawn : Draws tall_record tall
unfolding tall given_lines
drawn =
    draws tall_record fields tall laid says tall_sound 1 (λ v. 0)
    (record {
      below = λ v h. omega arith;
      related = λ u v hu hv ne e. ⊎_elim
          (λ l. inl (leads_on u v l hv))
          (λ l. inr (leads_on v u (omega (arith, l, ne)) hu))
          (lt-or-le u v);
    })
    (none_whole 128 (λ v. 0)) (omega arith)
