-- The rows of a sound graph: they keep the floors, rise along every edge and stand on the page, and no other rows that keep the floors and
-- rise are lower. Assumes nothing.
use Rattle.counting.proofs.Prelude.{◌≡◌, refl, ap, Bool, true, false, ℕ, ◌≤◌, ◌<◌, max, arith}
use Rattle.specification.specs.Count.{above}
use Rattle.specification.specs.Graph.{Edge, edge?}
use Rattle.specification.specs.Graph.Reaches.{one, more}
use Rattle.specification.specs.Checks.{Content, edges_of, floor_at, Leads, Sound}
use Rattle.specification.specs.Limits.{most_floor, page_rows}
use Rattle.specification.specs.Chart.{leads?, tail_of, head_of, floor_of, row_of, row_count}
use Rattle.reach.proofs.Decide.{edge_decided}
use Rattle.counting.proofs.Above.{above_each, above-le}
use Rattle.rows.proofs.Compaction.{Order, used_least, rows_below, rows-rule}
use Rattle.chart_laws.proofs.Leading.{edge_ends, leads_decided, leads-order, edge_there, edge_leads}

module _ (c : Content) (s : Sound c) where
  abbrev n : ℕ
  n = c.vertices

  abbrev E : ℕ → ℕ → Bool
  E = edge? c.tails c.heads

  small : n ≤ 128
  small = s.size.1

  edges-order : Order E (leads? c) n
  edges-order = record {
    edges = λ u v hu hv e. edge_leads c s u v e;
    trans = (leads-order c s).trans;
    irrefl = (leads-order c s).irrefl;
  }

  -- the rule (SPECIFICATION.md, 4.1): the greater of the floor and one more than the highest row of the tails, 0 where no edge enters
  pub row-rule : (v : ℕ) → v < n → row_of c v ≡ max (floor_of c v) (above n (λ u. E u v) (row_of c))
  unfolding row_of
  row-rule v h = rows-rule E (leads? c) n edges-order (floor_of c) small v h

  pub floor-low : (v : ℕ) → floor_of c v ≤ most_floor
  unfolding floor_of
  floor-low v = go c.floored refl
    where
      go : (b : Bool) → c.floored ≡ b → floor_at b c.floors v ≤ most_floor
      go true e = (s.floors e).1 v
      go false e = omega arith

  pub floor-kept : (v : ℕ) → v < n → floor_of c v ≤ row_of c v
  floor-kept v h = omega (arith, row-rule v h)

  -- the longest path may begin at the highest floor
  pub row_paged : (v : ℕ) → v < n → row_of c v < page_rows
  unfolding row_of
  row_paged v h = omega (arith, rows_below E (leads? c) n edges-order (floor_of c) most_floor (λ x _. floor-low x) v h, small)

  -- ---- rows rise

  rises : (u v : ℕ) → Edge c.tails c.heads u v → row_of c u < row_of c v
  rises u v e =
      let b = edge_ends c s u v e in
      omega (arith, row-rule v b.1, above_each n (λ x. E x v) (row_of c) u b.0 ((edge_decided c.tails c.heads u v).0 e))

  route_rises : {u v : ℕ} → Leads c u v → row_of c u < row_of c v
  route_rises (one e) = rises _ _ e
  route_rises (more e p) = omega (arith, rises _ _ e, route_rises p)

  pub leads_rises : (u v : ℕ) → leads? c u v ≡ true → row_of c u < row_of c v
  leads_rises u v e = route_rises ((leads_decided c s u v).0 e)

  pub edge_rises : (i : ℕ) → i < edges_of c → row_of c (tail_of c i) < row_of c (head_of c i)
  edge_rises i l = leads_rises _ _ (edge_leads c s _ _ (edge_there c s i l))

  -- ---- how many

  -- 1 + the highest row
  pub row_count_lem : row_count c ≡ above n (λ v. true) (row_of c)
  unfolding row_of row_count
  row_count_lem = refl

  pub rows_few : row_count c ≤ page_rows
  rows_few = omega (arith, row_count_lem, above-le n (λ v. true) (row_of c) page_rows (λ v l e. row_paged v l))

  -- each row is one of them
  pub row-counted : (v : ℕ) → v < n → row_of c v < row_count c
  row-counted v h = omega (arith, row_count_lem, above_each n (λ v. true) (row_of c) v h refl)

  -- ---- the lowest, and the fewest

  module _ (other : ℕ → ℕ) (keep : (v : ℕ) → v < n → floor_of c v ≤ other v)
      (rise : (i : ℕ) → i < edges_of c → other (tail_of c i) < other (head_of c i)) where
    along : (u v : ℕ) → u < n → v < n → E u v ≡ true → other u < other v
    unfolding Edge
    along u v hu hv e =
        let i = (edge_decided c.tails c.heads u v).1 e in
        omega (arith, rise i.0 i.1, ap other i.2, ap other i.3)

    pub rows_fewest : row_count c ≤ above n (λ v. true) other
    unfolding row_count
    rows_fewest = used_least E (floor_of c) n other keep along
