-- The largest record, of 128 vertices and 4,096 edges, and records of one more; the broadest charts, and broader ones; the tallest chart.
-- Assumes nothing.
use Rattle.std.specs.Prelude.{◌≡◌, true, false, List, [], ◌∷◌, ◌++◌, ℕ, zero, suc, ◌+◌, ◌/◌, ◌%◌, ◌<◌}
use Rattle.specification.specs.Limits.{most_vertices, most_edges, most_floor, page_rows}
use Rattle.specification.specs.Checks.{Content, content, edges_of}
use Rattle.specification.specs.Chart.{row_of, row_count}
use Rattle.specification.specs.Drawn.{record_drawn, refused_by}
use Rattle.specification.specs.Table.{Says, Refused}

-- f i, f (i + 1) and so on, n of them
unfoldable pub values : (ℕ → ℕ) → ℕ → ℕ → List ℕ
values f zero i = []
values f (suc n) i = f i ∷ values f n (suc i)

-- 128 vertices and 4,096 edges, from each of 0 to 63 to each of 64 to 127
abbrev pub full_tail : ℕ → ℕ
full_tail i = i / 64

abbrev pub full_head : ℕ → ℕ
full_head i = 64 + i % 64

unfoldable pub full : Content
full = content most_vertices (values full_tail most_edges 0) (values full_head most_edges 0) false [] false []

-- f i, g i, f (i + 1), g (i + 1) and so on, n of each
unfoldable pub pairs : (ℕ → ℕ) → (ℕ → ℕ) → ℕ → ℕ → List ℕ
pairs f g zero i = []
pairs f g (suc n) i = f i ∷ g i ∷ pairs f g n (suc i)

-- so many vertices and these 4,096 edges, which are 8,192 bytes
unfoldable pub record_with : ℕ → List ℕ
record_with n = 1 ∷ 0 ∷ 1 ∷ n ∷ 2 ∷ 32 ∷ 0 ∷ pairs full_tail full_head most_edges 0

-- 128 vertices and these edges, after one from 0 to 1
unfoldable pub record_with_one_more : List ℕ
record_with_one_more = 1 ∷ 0 ∷ 1 ∷ 128 ∷ 2 ∷ 32 ∷ 2 ∷ 0 ∷ 1 ∷ pairs full_tail full_head most_edges 0

pub record Largest : Type 0 where
  -- the largest passes
  pub most : (full.vertices ≡ most_vertices) × (edges_of full ≡ most_edges) × Says (record_with 128) full
  -- a vertex more, and an edge more, is 2
  pub more_words : Refused (record_with 129) 2
  pub more_arrows : Refused record_with_one_more 2

-- ---- broad

-- so many vertices, and no edge
unfoldable pub bare : ℕ → Content
bare n = content n [] [] false [] false []

unfoldable pub bare_record : ℕ → List ℕ
bare_record n = 1 ∷ 0 ∷ 1 ∷ n ∷ 2 ∷ 0 ∷ 0 ∷ []

-- 32 vertices and the edge 0→1
unfoldable pub joined : Content
joined = content 32 (0 ∷ []) (1 ∷ []) false [] false []

unfoldable pub joined_record : List ℕ
joined_record = 1 ∷ 0 ∷ 1 ∷ 32 ∷ 2 ∷ 0 ∷ 2 ∷ 0 ∷ 1 ∷ []

-- the same with given channels that part its ends: 0; 1
unfoldable pub parted : Content
parted = content 32 (0 ∷ []) (1 ∷ []) true (1 ∷ 0 ∷ 1 ∷ 1 ∷ []) false []

unfoldable pub parted_record : List ℕ
parted_record = 1 ∷ 0 ∷ 1 ∷ 32 ∷ 2 ∷ 0 ∷ 2 ∷ 0 ∷ 1 ∷ 3 ∷ 0 ∷ 4 ∷ 1 ∷ 0 ∷ 1 ∷ 1 ∷ []

-- the record is accepted, says this graph, and it is drawn where there is room
abbrev pub Draws : List ℕ → Content → Type 0
Draws b c = Says b c × (record_drawn b ≡ record { refusal = 0; graph = c })

-- it is accepted where it is read, and refused with 11 where it is to be drawn
abbrev pub TooBroad : List ℕ → Content → Type 0
TooBroad b c = Says b c × (record_drawn b ≡ refused_by 11)

pub record Broadest : Type 0 where
  -- 31 vertices without edges are drawn, 32 are too many
  pub most : Draws (bare_record 31) (bare 31)
  pub more : TooBroad (bare_record 32) (bare 32)
  -- one edge makes 31 channels of 32; given channels make it 32 again
  pub by_edge : Draws joined_record joined
  pub by_given : TooBroad parted_record parted
  -- the largest record passes the checks 1 to 7
  pub full : TooBroad (record_with 128) full

-- ---- tall

-- 0→1, 1→2, .. 126→127, where 0 has the highest floor, and the others have 0
unfoldable pub chain_floors : List ℕ
chain_floors = most_floor ∷ values (λ i. 0) 127 0

unfoldable pub tall : Content
tall = content most_vertices (values (λ i. i) 127 0) (values suc 127 0) false [] true chain_floors

-- 254 bytes of edges, and 128 of floors
unfoldable pub tall_record : List ℕ
tall_record = 1 ∷ 0 ∷ 1 ∷ 128 ∷ 2 ∷ 0 ∷ 254 ∷ (pairs (λ i. i) suc 127 0 ++ (4 ∷ 0 ∷ 128 ∷ chain_floors))

pub record Tallest : Type 0 where
  pub draws : Draws tall_record tall
  -- each vertex stands one row above the one before, from row 127 to row 254, which no row exceeds
  pub rows : (v : ℕ) → v < most_vertices → row_of tall v ≡ most_floor + v
  pub highest : row_of tall 127 ≡ 254
  pub used : row_count tall ≡ page_rows
