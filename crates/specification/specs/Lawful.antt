-- Lawful charts of a graph (SPECIFICATION.md, 10.1), their counts (10.2), and when two have the same parts, rows and bundles (10.3). Parts
-- are called lines here, and tracks side columns, as apps see them. Assumes nothing.
use Rattle.std.specs.Prelude.{◌≡◌, ◌↔◌, ◌⊎◌, ◌≢◌, Bool, true, ℕ, ◌≤◌, ◌<◌, eqb}
use Rattle.specification.specs.Count.{above}
use Rattle.specification.specs.Graph.{Reaches}
use Rattle.specification.specs.Checks.{Content, edges_of, Leads}
use Rattle.specification.specs.Marks.{Linked, link_count}
use Rattle.specification.specs.Tracks.{different_in}
use Rattle.specification.specs.Chart.{tail_of, head_of, floor_of}

-- any rows, parts, links, bundles and tracks
pub record Chart : Type 0 where
  -- the row of each vertex
  pub row : ℕ → ℕ
  -- lines: how many parts, and the part of each vertex
  pub parts : ℕ
  pub part : ℕ → ℕ
  -- the set of links
  pub link : ℕ → ℕ → Bool
  -- how many bundles; each has a line, which is a part, a first row, a last row, and a side column
  pub bundles : ℕ
  pub line : ℕ → ℕ
  pub first : ℕ → ℕ
  pub last : ℕ → ℕ
  pub side : ℕ → ℕ

-- two bundles share a row: there is one that both cover
abbrev pub ShareRow : Chart → ℕ → ℕ → Type 0
ShareRow x a b = (r : ℕ) × (x.first a ≤ r) × (r ≤ x.last a) × (x.first b ≤ r) × (r ≤ x.last b)

-- a division into so many parts: every vertex is in one of them, and of two in the same part one reaches the other. A part may be empty
pub record Divided (c : Content) (parts : ℕ) (part : ℕ → ℕ) : Type 0 where
  pub below : (v : ℕ) → v < c.vertices → part v < parts
  pub related : (u v : ℕ) → u < c.vertices → v < c.vertices → u ≢ v → part u ≡ part v → Leads c u v ⊎ Leads c v u

-- the five rules (10.1)
pub record Lawful (c : Content) (x : Chart) : Type 0 where
  -- the head of every edge is in a higher row than its tail
  pub rises : (e : ℕ) → e < edges_of c → x.row (tail_of c e) < x.row (head_of c e)
  -- the parts are a division
  pub division : Divided c x.parts x.part
  -- links have the reachability of the edges
  pub descent : (u v : ℕ) → Reaches (Linked c.vertices x.link) u v ↔ Leads c u v
  -- every bundle has a part
  pub lined : (b : ℕ) → b < x.bundles → x.line b < x.parts
  -- two bundles of one part with a row in common have different tracks
  pub apart : (a b : ℕ) → a < x.bundles → b < x.bundles → a ≢ b → x.line a ≡ x.line b → ShareRow x a b → x.side a ≢ x.side b

-- every vertex is at or above its floor. Asked where counts of rows are compared, and no part of the five rules
pub record Keeps (c : Content) (x : Chart) : Type 0 where
  pub floors : (v : ℕ) → v < c.vertices → floor_of c v ≤ x.row v

-- ---- counts (10.2); that of lines is `parts`

-- one more than the highest row
unfoldable pub rows_of : Content → Chart → ℕ
rows_of c x = above c.vertices (λ v. true) x.row

-- the links
unfoldable pub links_of : Content → Chart → ℕ
links_of c x = link_count c.vertices x.link

-- the different tracks of a part's bundles
unfoldable pub side_columns : Chart → ℕ → ℕ
side_columns x p = different_in x.bundles (λ b. eqb (x.line b) p) x.side

-- ---- the same parts, rows and bundles (10.3)

-- any two vertices are together in both charts, or in neither
pub record SameLines (c : Content) (x y : Chart) : Type 0 where
  pub together : (u v : ℕ) → u < c.vertices → v < c.vertices → (x.part u ≡ x.part v) ↔ (y.part u ≡ y.part v)

pub record SameRows (c : Content) (x y : Chart) : Type 0 where
  pub rows : (v : ℕ) → v < c.vertices → x.row v ≡ y.row v

-- a pairing of the two lists, one to one, by `to` and `from`: paired bundles have parts with the same vertices, and the same rows
pub record SameBundles (c : Content) (x y : Chart) : Type 0 where
  pub to : ℕ → ℕ
  pub from : ℕ → ℕ
  pub to_below : (b : ℕ) → b < x.bundles → to b < y.bundles
  pub from_below : (b : ℕ) → b < y.bundles → from b < x.bundles
  pub to_from : (b : ℕ) → b < y.bundles → to (from b) ≡ b
  pub from_to : (b : ℕ) → b < x.bundles → from (to b) ≡ b
  pub held : (b : ℕ) → b < x.bundles → (v : ℕ) → v < c.vertices → (x.part v ≡ x.line b) ↔ (y.part v ≡ y.line (to b))
  pub firsts : (b : ℕ) → b < x.bundles → x.first b ≡ y.first (to b)
  pub lasts : (b : ℕ) → b < x.bundles → x.last b ≡ y.last (to b)
