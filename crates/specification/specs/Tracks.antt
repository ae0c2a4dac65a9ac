-- Tracks (side columns) of bundles (SPECIFICATION.md, 7). Assumes nothing.
use Rattle.std.specs.Prelude.{ℕ, zero, suc, Bool, not, ◌&&◌, ◌||◌, List, get_or, set, replicate, eqb, leb, ltb}
use Rattle.specification.specs.Count.{choose, some, count}
use Rattle.specification.specs.Limits.{row_numbers, most_bundles}

-- the lowest number from c on that is not busy, of which j are tried; c + j where all are
unfoldable pub lowest_free : (ℕ → Bool) → ℕ → ℕ → ℕ
lowest_free busy zero c = c
lowest_free busy (suc j) c = choose (busy c) (λ _. lowest_free busy j (suc c)) (λ _. c)

-- p has its turn before q: by first row, and then by number
unfoldable pub earlier : (ℕ → ℕ) → ℕ → ℕ → Bool
earlier first p q = ltb (first p) (first q) || (eqb (first p) (first q) && ltb p q)

module _ (channel first last : ℕ → ℕ) where
  -- p and q are of one channel and share a row
  unfoldable pub meet : ℕ → ℕ → Bool
  meet p q = eqb (channel p) (channel q) && (leb (first p) (last q) && leb (first q) (last p))

  -- p has its turn before q, and meets it
  unfoldable pub blocks : ℕ → ℕ → Bool
  blocks p q = earlier first p q && meet p q

-- n bundles
module _ (n : ℕ) (channel first last : ℕ → ℕ) where
  -- a bundle that blocks b has track c
  unfoldable pub busy : List ℕ → ℕ → ℕ → Bool
  busy track b c = some n (λ q. blocks channel first last q b && eqb (get_or track q 0) c)

  -- b takes the lowest free track; n - 1 others can hold as many
  unfoldable pub placed : ℕ → List ℕ → List ℕ
  placed b track = set track b (lowest_free (busy track b) n 0)

  -- of the first j bundles, those that begin in row r
  unfoldable pub in_row : ℕ → ℕ → List ℕ → List ℕ
  in_row r zero track = track
  in_row r (suc b) track = choose (eqb (first b) r) (λ _. placed b (in_row r b track)) (λ _. in_row r b track)

  -- the bundles that begin in the first r rows
  unfoldable pub in_rows : ℕ → List ℕ
  in_rows zero = replicate most_bundles 0
  in_rows (suc r) = in_row r n (in_rows r)

  -- every bundle's track, and 0 past the last bundle
  unfoldable pub tracks : List ℕ
  tracks = in_rows row_numbers

-- ---- how many tracks a channel has

-- the number of different values of f among the first n that pass the test: each is counted where it first stands
unfoldable pub different_in : ℕ → (ℕ → Bool) → (ℕ → ℕ) → ℕ
different_in n test f = count n (λ i. test i && not (some i (λ j. test j && eqb (f j) (f i))))
