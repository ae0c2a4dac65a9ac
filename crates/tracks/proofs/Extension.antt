-- The tracks hang on the first n bundles only. Assumes nothing.
use Rattle.counting.proofs.Prelude.{◌≡◌, refl, ap, ap₂, ◌∙◌, Bool, ◌&&◌, ◌||◌, List, ℕ, zero, suc, ◌+◌, ◌≤◌, ◌<◌, arith, eqb, leb, ltb}
use Rattle.counting.proofs.Prelude.{get_or, set}
use Rattle.specification.specs.Count.{choose}
use Rattle.counting.proofs.Somes.{some_ext}
use Rattle.specification.specs.Limits.{row_numbers}
use Rattle.specification.specs.Tracks.{earlier, meet, blocks, busy, placed, in_row, in_rows, tracks}
use Rattle.tracks.proofs.FirstFit.{lowest_ext}

module _ (n : ℕ) (channel first last channel' first' last' : ℕ → ℕ) (c : (b : ℕ) → b < n → channel b ≡ channel' b)
    (f : (b : ℕ) → b < n → first b ≡ first' b) (l : (b : ℕ) → b < n → last b ≡ last' b) where
  blocks_ext : (p q : ℕ) → p < n → q < n → blocks channel first last p q ≡ blocks channel' first' last' p q
  unfolding blocks earlier meet
  blocks_ext p q a b = ap₂ ◌&&◌
      (ap₂ (λ x y. ltb x y || (eqb x y && ltb p q)) (f p a) (f q b))
      (ap₂ ◌&&◌ (ap₂ eqb (c p a) (c q b)) (ap₂ ◌&&◌ (ap₂ leb (f p a) (l q b)) (ap₂ leb (f q b) (l p a))))

  placed_ext : (b : ℕ) (track : List ℕ) → b < n → placed n channel first last b track ≡ placed n channel' first' last' b track
  unfolding placed busy
  placed_ext b track h = ap (set track b) (lowest_ext (busy n channel first last track b) (busy n channel' first' last' track b) n 0 same)
    where
      same : (d : ℕ) → d < 0 + n → busy n channel first last track b d ≡ busy n channel' first' last' track b d
      same d e = some_ext n _ _ (λ q a. ap (λ x. x && eqb (get_or track q 0) d) (blocks_ext q b a h))

  row_ext : (r b : ℕ) (track : List ℕ) → b ≤ n → in_row n channel first last r b track ≡ in_row n channel' first' last' r b track
  unfolding in_row
  row_ext r zero track h = refl
  row_ext r (suc b) track h =
      let e = row_ext r b track (omega arith) in
      ap₂ (λ (x : Bool) (y : List ℕ). choose {A = List ℕ} x (λ _. placed n channel first last b y) (λ _. y)) (ap (λ x. eqb x r) (f b h)) e
      ∙ ap (λ (y : List ℕ). choose {A = List ℕ} (eqb (first' b) r) (λ _. y) (λ _. in_row n channel' first' last' r b track))
      (placed_ext b (in_row n channel' first' last' r b track) h)

  rows_ext : (r : ℕ) → in_rows n channel first last r ≡ in_rows n channel' first' last' r
  unfolding in_rows
  rows_ext zero = refl
  rows_ext (suc r) = ap (in_row n channel first last r n) (rows_ext r) ∙ row_ext r n (in_rows n channel' first' last' r) (omega arith)

  -- equal below n, the same tracks
  pub tracks_ext : tracks n channel first last ≡ tracks n channel' first' last'
  unfolding tracks
  tracks_ext = rows_ext row_numbers
