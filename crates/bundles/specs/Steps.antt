-- What the private steps leave behind. An end is a vertex with a direction: number 2 v for the edges into v, 2 v + 1 for those out of v.
-- `places` has four numbers a vertex: its channel, its position in it, its row and one that is not read here.
-- Assumes nothing.
use Rattle.std.specs.Prelude.{◌≡◌, ◌≢◌, ◌⊎◌, Bool, true, false, not, ◌&&◌, ◌||◌, List, ℕ, zero, suc, ◌+◌, ◌-◌, ◌*◌, ◌≤◌, ◌<◌, min, max, eqb}
use Rattle.std.specs.Prelude.{ltb, length, get_or, set}
use Rattle.specification.specs.Count.{choose, indicator, sum, count}
use Rattle.specification.specs.Sets.{bit, member, member?}
use Rattle.specification.specs.Bundles.{Bundle, along, waits_at, best, lowest, highest, rounds, bundles, adjacent?, empty}
use Rattle.counting.specs.Quads.{quad}
use Rattle.sorting.specs.Sorted.{Sorted}
use Rattle.bundles.specs.Choice.{live}
use Rattle.bundles.specs.Sides.{table_side?}
use Rattle.bundles.specs.Promise.{no_bundle, number_from, Listed, bundles_in}
use Rattle.bundles.specs.declared.Span.{Span}
use Rattle.bundles.specs.declared.Direction.{Direction}
use Rattle.bundles.specs.declared.Direction.TheVariants.{Into, OutOf}

-- whether a direction is that of the edges into a vertex
abbrev pub into? : Direction → Bool
into? Into = true
into? OutOf = false

-- the number of an end: of the edges into v, or out of v
abbrev pub end_of : Bool → ℕ → ℕ
end_of true v = 2 * v
end_of false v = 2 * v + 1

-- of each end of n vertices, m masks have the vertices at the other ends of its edges
pub record Sets (m n : ℕ) (edge : ℕ → ℕ → Bool) (sets : List ℕ) : Type 0 where
  pub size : m * (2 * n) ≤ length sets
  pub has : (into : Bool) (v w : ℕ) → v < n → w < m * 64 → member? sets (m * end_of into v) w ≡ along into edge v w

-- the edges that the masks have, between two of n vertices
unfoldable pub side_in : ℕ → ℕ → List ℕ → ℕ → ℕ → Bool
side_in m n sets u v = (ltb u n && ltb v n) && member? sets (m * end_of false u) v

-- a list has this value below j
pub record Filled (x j : ℕ) (r : List ℕ) : Type 0 where
  pub value : (i : ℕ) → i < j → get_or r i 0 ≡ x

-- a mask has the first k of 64 bits
pub record FirstBits (k mask : ℕ) : Type 0 where
  pub only : (j : ℕ) → j < 64 → bit mask j ≡ 1 → j < k
  pub all : (j : ℕ) → j < 64 → j < k → bit mask j ≡ 1

-- how many vertices the set of an end has, in m masks
abbrev pub load_in : ℕ → List ℕ → ℕ → ℕ
load_in m sets e = sum (m * 64) (member sets (m * e))

-- these numbers at each end of n vertices
pub record Loaded (m n : ℕ) (sets load : List ℕ) : Type 0 where
  pub size : 2 * n ≤ length load
  pub value : (d : Bool) (v : ℕ) → v < n → get_or load (end_of d v) 0 ≡ load_in m sets (end_of d v)

-- of each of so many channels, m masks have those of the first j vertices that are in it
pub record Owned (m channels : ℕ) (places : List ℕ) (j : ℕ) (own : List ℕ) : Type 0 where
  pub size : m * channels ≤ length own
  pub only : (c v : ℕ) → c < channels → v < m * 64 → member own (m * c) v ≡ 1 → (v < j) × (quad 0 places v ≡ c)
  pub all : (c v : ℕ) → c < channels → v < j → quad 0 places v ≡ c → member own (m * c) v ≡ 1

-- the path-transitive edges in so many channels
unfoldable pub low_side : ℕ → ℕ → List ℕ → List ℕ → ℕ → ℕ → Bool
low_side n channels edges places u v = table_side? n edges (quad 0 places) (quad 1 places) u v && ltb (quad 0 places u) channels

-- of the edges by `side`, those out of the vertices before u, and those from u to a vertex before k
unfoldable pub up_to : (ℕ → ℕ → Bool) → ℕ → ℕ → ℕ → ℕ → Bool
up_to side u k a b = side a b && (ltb a u || (eqb a u && ltb b k))

-- these are in m masks an end, and counted
pub record Marked (m n : ℕ) (side : ℕ → ℕ → Bool) (u k : ℕ) (sets load : List ℕ) : Type 0 where
  pub sides : Sets m n (up_to side u k) sets
  pub loads : Loaded m n sets load

-- a mask has the vertices from `base` on that edges lead to from u, with some that are next to it; the edges before these are marked, in m
-- masks an end
pub record Marking (m mask base u : ℕ) (places sets load : List ℕ) : Type 0 where
  pub n : ℕ
  pub side : ℕ → ℕ → Bool
  pub low : base + 64 ≤ m * 64
  pub small : n ≤ m * 64
  pub tail : u < n
  pub long : 4 * n ≤ length places
  pub heads : (j : ℕ) → j < 64 → bit mask j ≡ 1 → base + j < n
  pub edges : (j : ℕ) → j < 64 → side u (base + j) ≡ (eqb (bit mask j) 1 && not (adjacent? (quad 1 places u) (quad 1 places (base + j))))
  pub marked : Marked m n side u base sets load

-- ---- the choice

-- how many edges wait at an end of v, as a vertex of channel c
abbrev pub load_at : ℕ → List ℕ → List ℕ → Bool → ℕ → ℕ
load_at c places load into v = choose (eqb (quad 0 places v) c) (λ _. get_or load (end_of into v) 0) (λ _. 0)

-- v is the best in its direction, and that has more than the other, or as many where it is 'into'
pub record Picked (position : ℕ → ℕ) (n : ℕ) (f : Bool → ℕ → ℕ) (into : Bool) (v : ℕ) : Type 0 where
  pub vertex : v < n
  pub some : 0 < f into v
  pub which : best position n (f into) ≡ v
  pub into_most : into ≡ true → (u : ℕ) → u < n → f false u ≤ f into v
  pub out_most : into ≡ false → (u : ℕ) → u < n → f true u < f into v

-- of the n vertices, the mask has those of channel c among the 64 from `base` on
pub record Part (n : ℕ) (places : List ℕ) (c mask base : ℕ) : Type 0 where
  pub only : (j : ℕ) → j < 64 → bit mask j ≡ 1 → (base + j < n) × (quad 0 places (base + j) ≡ c)
  pub all : (j : ℕ) → j < 64 → base + j < n → quad 0 places (base + j) ≡ c → bit mask j ≡ 1

-- a vertex of channel c, one of n
unfoldable pub own_in : ℕ → List ℕ → ℕ → ℕ → Bool
own_in n places c v = ltb v n && eqb (quad 0 places v) c

-- `len` vertices in order, of those below v that pass a test, as v does
pub record Sinks (len v : ℕ) (places order : List ℕ) : Type 0 where
  pub own : ℕ → Bool
  pub mine : own v ≡ true
  pub sorted : Sorted own v len (quad 1 places) (λ i. get_or order i 0)

-- those of a channel below `base`; the mask has its vertices from there on
pub record Ordered (mask base len : ℕ) (places order : List ℕ) : Type 0 where
  pub n : ℕ
  pub c : ℕ
  pub small : n ≤ 128
  pub long : 4 * n ≤ length places
  pub room : n ≤ length order
  pub few : len ≤ n
  pub part : Part n places c mask base
  pub sorted : Sorted (own_in n places c) base len (quad 1 places) (λ i. get_or order i 0)

-- two masks have a channel's vertices, of which none is in order yet
pub record Halves (low high : ℕ) (places order : List ℕ) : Type 0 where
  pub lower : Ordered low 0 0 places order
  pub upper : Part lower.n places lower.c high 64

-- ---- the ends with the most edges, by the first `len` vertices in order

-- there is a count for each of their ends
pub record Counted (order : List ℕ) (len : ℕ) (load : List ℕ) : Type 0 where
  pub fits : len ≤ length order
  pub ends : (i : ℕ) → i < len → 2 * get_or order i 0 + 1 < length load

-- no end has more than r edges, and one has so many, unless r is 0
pub record Most (order : List ℕ) (len : ℕ) (load : List ℕ) (r : ℕ) : Type 0 where
  pub bound : (d : Bool) (k : ℕ) → k < len → get_or load (end_of d (get_or order k 0)) 0 ≤ r
  pub attained : (r ≡ 0) ⊎ ((d : Bool) × (k : ℕ) × (k < len) × (get_or load (end_of d (get_or order k 0)) 0 ≡ r))

-- every end has fewer than `most` edges
abbrev pub Fewer : List ℕ → ℕ → ℕ → List ℕ → Type 0
Fewer order len most load = (d : Bool) (k : ℕ) → k < len → get_or load (end_of d (get_or order k 0)) 0 < most

-- no end has more than `most` edges; fewer has every end in direction `into` of the first i, and, where that is 'out of', every end 'into'
pub record Level (order : List ℕ) (len most : ℕ) (into : Bool) (i : ℕ) (load : List ℕ) : Type 0 where
  pub some : 0 < most
  pub bound : (d : Bool) (k : ℕ) → k < len → get_or load (end_of d (get_or order k 0)) 0 ≤ most
  pub passed : (k : ℕ) → k < i → get_or load (end_of into (get_or order k 0)) 0 < most
  pub first : into ≡ false → (k : ℕ) → k < len → get_or load (end_of true (get_or order k 0)) 0 < most

-- n vertices with an entry each, and masks of their edges
pub record Ready (n : ℕ) (sets places : List ℕ) : Type 0 where
  pub small : n ≤ 128
  pub long : 4 * n ≤ length places
  pub masks : Sets 2 n (side_in 2 n sets) sets

-- what stays while bundles of channel c are made: the order has its vertices by position
pub record Levelling (n : ℕ) (sets places : List ℕ) (c : ℕ) (order : List ℕ) (len : ℕ) : Type 0 where
  pub ready : Ready n sets places
  pub fits : len ≤ length order
  pub sorted : Sorted (own_in n places c) 128 len (quad 1 places) (λ i. get_or order i 0)

-- ---- a bundle

-- an edge at the end, of m masks, that is in no bundle yet, with w at its other end
unfoldable pub open_at : ℕ → List ℕ → List ℕ → Bool → ℕ → ℕ → Bool
open_at m sets number into v w = member? sets (m * end_of into v) w && eqb (get_or number (end_of (not into) w) 0) no_bundle

-- the same for the members of one mask of the end's set
abbrev pub open_in : ℕ → ℕ → List ℕ → Bool → ℕ → Bool
open_in mask base number into j = eqb (bit mask j) 1 && eqb (get_or number (end_of (not into) (base + j)) 0) no_bundle

-- the lists have entries for each member of a mask, vertex base + j for bit j
pub record Entered (mask base : ℕ) (number places load : List ℕ) : Type 0 where
  pub row : (j : ℕ) → j < 64 → bit mask j ≡ 1 → 4 * (base + j) + 2 < length places
  pub ends : (j : ℕ) → j < 64 → bit mask j ≡ 1 → (2 * (base + j) + 1 < length number) × (2 * (base + j) + 1 < length load)

-- of the vertices below j that pass the test: the rows from the lowest to the highest, with one row more, and one edge less at each
pub record Gathered (test : ℕ → Bool) (places : List ℕ) (into : Bool) (row j : ℕ) (was is : List ℕ) (first last : ℕ) : Type 0 where
  pub lowest_row : first ≡ min (lowest j test (quad 2 places)) row
  pub highest_row : last ≡ max (highest j test (quad 2 places)) row
  pub size : length is ≡ length was
  pub fewer : (w : ℕ) → w < j → get_or is (end_of (not into) w) 0 + indicator (test w) ≡ get_or was (end_of (not into) w) 0
  pub from : (w : ℕ) → j ≤ w → get_or is (end_of (not into) w) 0 ≡ get_or was (end_of (not into) w) 0
  pub kept : (w : ℕ) → get_or is (end_of into w) 0 ≡ get_or was (end_of into w) 0

-- what was gathered of the vertices before the mask's becomes what is gathered with them
abbrev pub Gathers : ℕ → ℕ → List ℕ → List ℕ → Bool → List ℕ → Span → List ℕ → Span → Type 0
Gathers mask base number places into was s is r =
    (test : ℕ → Bool) (row : ℕ) (start : List ℕ) → ((j : ℕ) → j < 64 → test (base + j) ≡ open_in mask base number into j)
    → Gathered test places into row base start was s.first s.last → Gathered test places into row (base + 64) start is r.first
    r.last

-- the bundles so far, four numbers each, and of each end the number of its bundle, or `no_bundle`, and how many edges still wait at it
pub record State : Type 0 where
  pub count : ℕ
  pub spans : List ℕ
  pub number : List ℕ
  pub load : List ℕ

abbrev pub state : ℕ → List ℕ → List ℕ → List ℕ → State
state count spans number load = record { count = count; spans = spans; number = number; load = load }

-- room for n vertices
pub record Sized (n : ℕ) (s : State) : Type 0 where
  pub spans : 8 * n ≤ length s.spans
  pub number : 2 * n ≤ length s.number
  pub load : 2 * n ≤ length s.load

-- r's lists are as long as those of s
pub record AsLong (s r : State) : Type 0 where
  pub spans : length r.spans ≡ length s.spans
  pub number : length r.number ≡ length s.number
  pub load : length r.load ≡ length s.load

-- there is room for a bundle, and each of its edges, in m masks an end, is counted at its other end
pub record Room (m : ℕ) (sets places : List ℕ) (into : Bool) (v : ℕ) (s : State) : Type 0 where
  pub n : ℕ
  pub small : n ≤ m * 64
  pub sized : Sized n s
  pub count : s.count < 2 * n
  pub vertex : v < n
  pub masks : m * (2 * n) ≤ length sets
  pub long : 4 * n ≤ length places
  pub inside : (w : ℕ) → w < m * 64 → member? sets (m * end_of into v) w ≡ true → w < n
  pub counted : (w : ℕ) → w < m * 64 → open_at m sets s.number into v w ≡ true → 0 < get_or s.load (end_of (not into) w) 0

-- the first three numbers of entry b are stored
abbrev pub stored : List ℕ → ℕ → ℕ → ℕ → ℕ → List ℕ
stored spans b channel first last = set (set (set spans (4 * b) channel) (4 * b + 1) first) (4 * b + 2) last

-- r is s with the open edges of an end, of m masks, as the next bundle
pub record Added (m : ℕ) (sets places : List ℕ) (c : ℕ) (into : Bool) (v : ℕ) (s r : State) : Type 0 where
  pub count : r.count ≡ s.count + 1
  pub spans : r.spans ≡ stored s.spans s.count c
      (min (lowest (m * 64) (open_at m sets s.number into v) (quad 2 places)) (quad 2 places v))
      (max (highest (m * 64) (open_at m sets s.number into v) (quad 2 places)) (quad 2 places v))
  pub number : r.number ≡ set s.number (end_of into v) s.count
  pub size : length r.load ≡ length s.load
  pub gone : get_or r.load (end_of into v) 0 ≡ 0
  pub kept : (w : ℕ) → w ≢ v → get_or r.load (end_of into w) 0 ≡ get_or s.load (end_of into w) 0
  pub fewer : (w : ℕ) → w < m * 64 → get_or r.load (end_of (not into) w) 0 + indicator (open_at m sets s.number into v w) ≡ get_or s.load
      (end_of (not into) w) 0

-- ---- the state

-- number k of a bundle's entry: its channel, its first row, its last row, and 0
abbrev pub part : ℕ → Bundle → ℕ
part zero b = b.channel
part (suc zero) b = b.first
part (suc (suc zero)) b = b.last
part (suc (suc (suc k))) b = 0

-- s has the bundles bs of n vertices
pub record Holds (n : ℕ) (bs : List Bundle) (s : State) : Type 0 where
  pub sized : Sized n s
  pub counted : s.count ≡ length bs
  pub entry : (k b : ℕ) → k < 4 → quad k s.spans b ≡ part k (get_or bs b empty)
  pub number : (into : Bool) (v : ℕ) → v < n → get_or s.number (end_of into v) 0 ≡ number_from 0 bs into v
  pub past : (e : ℕ) → 2 * n ≤ e → e < length s.number → get_or s.number e 0 ≡ no_bundle

-- and counts the edges that wait at each end
pub record Stands (n : ℕ) (side : ℕ → ℕ → Bool) (bs : List Bundle) (s : State) : Type 0 where
  pub holds : Holds n bs s
  pub load : (into : Bool) (v : ℕ) → v < n → get_or s.load (end_of into v) 0 ≡ count n (waits_at side bs into v)

-- in channel c, with k rounds done: the rule goes on from the bundles made, and there is room for more
pub record Going (n : ℕ) (side : ℕ → ℕ → Bool) (channel position row : ℕ → ℕ) (c : ℕ) (s : State) : Type 0 where
  pub k : ℕ
  pub bs : List Bundle
  pub stands : Stands n side bs s
  pub rule : rounds n side channel position row (2 * n - k) c bs ≡ bundles n side channel position row (suc c)
  pub room : length bs + live n side (λ x. true) bs ≤ 2 * n

-- the same with the lists of the code
abbrev pub Underway : ℕ → List ℕ → List ℕ → ℕ → State → Type 0
Underway n sets places c s = Going n (side_in 2 n sets) (quad 0 places) (quad 1 places) (quad 2 places) c s

-- before the ends of one direction that have `most` edges are taken
pub record Taking (c : ℕ) (into : Bool) (most : ℕ) (order : List ℕ) (len : ℕ) (sets places : List ℕ) (s : State) : Type 0 where
  pub n : ℕ
  pub levelling : Levelling n sets places c order len
  pub underway : Underway n sets places c s
  pub level : Level order len most into 0 s.load

-- the state after c channels
pub record Planned (n : ℕ) (places sets : List ℕ) (c : ℕ) (s : State) : Type 0 where
  pub stands : Stands n (side_in 2 n sets) (bundles n (side_in 2 n sets) (quad 0 places) (quad 1 places) (quad 2 places) c) s

-- before the bundles of channel c: two masks have its vertices
pub record Turn (c low high : ℕ) (sets places : List ℕ) (s : State) : Type 0 where
  pub n : ℕ
  pub ready : Ready n sets places
  pub lower : Part n places c low 0
  pub upper : Part n places c high 64
  pub planned : Planned n places sets c s

-- ---- before the first bundle

-- n vertices in so many channels, with room for their order: two masks a channel have its vertices
pub record Starting (channels : ℕ) (own sets places order : List ℕ) (s : State) : Type 0 where
  pub n : ℕ
  pub ready : Ready n sets places
  pub room : n ≤ length order
  pub low : channels ≤ 128
  pub owned : Owned 2 channels places n own
  pub planned : Planned n places sets 0 s

-- n vertices in so many channels, with an entry each
pub record Vertices (n channels : ℕ) (places : List ℕ) : Type 0 where
  pub small : n ≤ 128
  pub low : channels ≤ 128
  pub long : 4 * n ≤ length places

-- lists with room for the bundles of n vertices, and none in them
pub record Blank (n : ℕ) (spans numbers : List ℕ) : Type 0 where
  pub entry : (8 * n ≤ length spans) × Filled 0 (length spans) spans
  pub number : (2 * n ≤ length numbers) × Filled no_bundle (length numbers) numbers

-- ---- the answer

-- the bundles of the edges that a table has, by the rule; the fourth number of an entry is 0
pub record Answer (n : ℕ) (edges : List ℕ) (channels : ℕ) (places : List ℕ) (r : ℕ) (spans numbers : List ℕ) : Type 0 where
  pub listed : Listed n (bundles_in n edges channels (quad 0 places) (quad 1 places) (quad 2 places)) r spans numbers
  pub fourth : (b : ℕ) → quad 3 spans b ≡ 0
