-- Every bundle that had its turn has the lowest track that those before it left free. Assumes nothing.
use Rattle.counting.proofs.Prelude.{◌≡◌, sym, ap, ◌∙◌, ◌≢◌, true, true≢false, List, ℕ, zero, suc, ◌+◌, ◌*◌, ◌≤◌, ◌<◌, arith, length, get_or}
use Rattle.counting.proofs.Prelude.{set, length-set, length-replicate, eq-eqb, ne_eqb}
use native.Mathlib.Nat.{not-suc-le-zero}
use native.Mathlib.Decide.{ℕ_discrete, dec_lt}
use lib.Seq.{get_or-set_same, get_or-set_other}
use Rattle.counting.proofs.Zeros.{zeros}
use Rattle.specification.specs.Limits.{row_numbers}
use Rattle.specification.specs.Tracks.{lowest_free, blocks, busy, placed, in_row, in_rows, tracks}
use Rattle.tracks.specs.Steps.Ends.{nth}
use Rattle.counting.proofs.Mapping.{one_fails, onto_count}
use Rattle.tracks.proofs.FirstFit.{IsLowest, lowest_is, turn, earlier-turn, blocks_fact, blocks_self, busy_fact, busy_yes}

-- the rule's steps
module _ (n : ℕ) (channel first last : ℕ → ℕ) where
  row_yes : (r b : ℕ) (track : List ℕ) → first b ≡ r
      → in_row n channel first last r (suc b) track ≡ placed n channel first last b (in_row n channel first last r b track)
  unfolding in_row
  row_yes r b track e = rw (eq-eqb _ _ e)

  row_no : (r b : ℕ) (track : List ℕ) → (first b ≡ r → ⊥)
      → in_row n channel first last r (suc b) track ≡ in_row n channel first last r b track
  unfolding in_row
  row_no r b track e = rw (ne_eqb _ _ e)

module _ (n : ℕ) (channel first last : ℕ → ℕ) where
  -- where b comes in the order of placing
  abbrev pub at : ℕ → ℕ
  at = turn first

  -- q has the lowest track that those before it left free
  pub record Done (track : ℕ → ℕ) (q : ℕ) : Type 0 where
    pub free : (p : ℕ) → p < n → blocks channel first last p q ≡ true → track p ≡ track q → ⊥
    pub low : (c : ℕ) → c < track q → (p : ℕ) × (p < n) × (blocks channel first last p q ≡ true) × (track p ≡ c)

  -- all whose turn is below k are done
  pub record Placed (k : ℕ) (track : List ℕ) : Type 0 where
    pub long : length track ≡ 256
    pub done : (q : ℕ) → q < n → at q < k → Done (nth track) q
    pub below : (q : ℕ) → get_or track q 0 < 256
    pub past : (q : ℕ) → n ≤ q → get_or track q 0 ≡ 0

  -- of n tracks one is free: fewer than n bundles block b
  lowest_below : (track : List ℕ) (b : ℕ) → b < n → lowest_free (busy n channel first last track b) n 0 < n
  lowest_below track b l = go (dec_lt r n)
    where
      r : ℕ
      r = lowest_free (busy n channel first last track b) n 0

      onto : (c : ℕ) → c < r → (w : ℕ) × (w < n) × (blocks channel first last w b ≡ true) × (get_or track w 0 ≡ c)
      onto c m = busy_fact n channel first last track b c ((lowest_is (busy n channel first last track b) n 0).below c (omega arith) m)

      go : Dec (r < n) → r < n
      go (yes d) = d
      go (no d) = omega (
        arith,
        onto_count n r (λ w. blocks channel first last w b) (λ w. get_or track w 0) onto,
        one_fails n (λ w. blocks channel first last w b) b l (blocks_self channel first last b),
      )

  module _ (small : n ≤ 256) where
    pub blocks_turn : (p q : ℕ) → p < n → blocks channel first last p q ≡ true → at p < at q
    blocks_turn p q l e = earlier-turn first p q (omega arith) (blocks_fact channel first last p q e).0

    placed_set : (k : ℕ) (track : List ℕ) (b r : ℕ) → b < n → at b ≡ k → Placed k track
        → IsLowest (busy n channel first last track b) n 0 r → r < n → Placed (suc k) (set track b r)
    placed_set k track b r l t p i fits = record {
      long = length-set track b r ∙ p.long;
      done = λ q m h. done q m h (ℕ_discrete q b);
      below = λ q. below q (ℕ_discrete q b);
      past = λ q m. other q (λ e. omega arith) ∙ p.past q m;
    }
      where
        here : get_or (set track b r) b 0 ≡ r
        here = get_or-set_same track b r 0 (omega (arith, p.long))

        other : (q : ℕ) → q ≢ b → get_or (set track b r) q 0 ≡ get_or track q 0
        other q m = get_or-set_other track b q r 0 m

        before : (q : ℕ) → at q < at b → get_or (set track b r) q 0 ≡ get_or track q 0
        before q m = other q (λ x. not-suc-le-zero (let z : 0 < 0 = omega (arith, ap at x) in z))

        -- one that blocks q has the track that it had
        kept : (q : ℕ) → at q ≤ at b → (c : ℕ) → (p : ℕ) × (p < n) × (blocks channel first last p q ≡ true) × (get_or track p 0 ≡ c)
            → (p : ℕ) × (p < n) × (blocks channel first last p q ≡ true) × (get_or (set track b r) p 0 ≡ c)
        kept q m c (p, l, x, e) = (p, l, x, before p (omega (arith, blocks_turn p q l x)) ∙ e)

        below : (q : ℕ) → Dec (q ≡ b) → get_or (set track b r) q 0 < 256
        below q (yes x) = rw x (omega (arith, here))
        below q (no x) = omega (arith, other q x, p.below q)

        done : (q : ℕ) → q < n → at q < suc k → Dec (q ≡ b) → Done (nth (set track b r)) q
        done q m h (yes x) = rw x record {
          free = λ a u v y.
              let same = sym (before a (blocks_turn a b u v)) ∙ y ∙ here in
              true≢false (sym (busy_yes n channel first last track b r a u v same) ∙ i.free (omega arith));
          low = λ c u. kept b (omega arith) c (busy_fact n channel first last track b c (i.below c (omega arith) (omega (arith, here))));
        }
        done q m h (no x) =
            let lower : at q < at b = omega arith in
            let d = p.done q m (omega arith) in
            record {
              free = λ a u v y. d.free a u v (sym (before a (omega (arith, blocks_turn a q u v))) ∙ y ∙ before q lower);
              low = λ c u. kept q (omega arith) c (d.low c (omega (arith, before q lower)));
            }

    placed_place : (k : ℕ) (track : List ℕ) (b : ℕ) → b < n → at b ≡ k → Placed k track
        → Placed (suc k) (placed n channel first last b track)
    unfolding placed
    placed_place k track b l t p = placed_set k track b _ l t p (lowest_is (busy n channel first last track b) n 0) (lowest_below track b l)

    -- nobody's turn
    placed_pass : (k : ℕ) (track : List ℕ) → ((q : ℕ) → q < n → at q ≡ k → ⊥) → Placed k track → Placed (suc k) track
    placed_pass k track e p = record {
      long = p.long;
      done = λ q m h. p.done q m (go q m h (ℕ_discrete (at q) k));
      below = p.below;
      past = p.past;
    }
      where
        go : (q : ℕ) → q < n → at q < suc k → Dec (at q ≡ k) → at q < k
        go q m h (yes x) = absurd (e q m x)
        go q m h (no x) = omega arith

    placed_row : (r j : ℕ) (track : List ℕ) → j ≤ n → Placed (r * 256) track → Placed (r * 256 + j) (in_row n channel first last r j track)
    unfolding in_row
    placed_row r zero track l p = rw (let z : r * 256 + 0 ≡ r * 256 = omega arith in z) p
    placed_row r (suc b) track l p = rw next (go (ℕ_discrete (first b) r) (placed_row r b track (omega arith) p))
      where
        next : r * 256 + suc b ≡ suc (r * 256 + b)
        next = omega arith

        -- whose turn it is, if it is no bundle of another row
        mine : (q : ℕ) → q < n → at q ≡ r * 256 + b → first b ≡ r
        mine q m y = let z : q ≡ b = omega arith in sym (ap first z) ∙ (let w : first q ≡ r = omega arith in w)

        go : Dec (first b ≡ r) → Placed (r * 256 + b) (in_row n channel first last r b track)
            → Placed (suc (r * 256 + b)) (in_row n channel first last r (suc b) track)
        go (yes e) ih = rw (row_yes n channel first last r b track e) (placed_place _ _ b (omega arith) (omega arith) ih)
        go (no e) ih = rw (row_no n channel first last r b track e) (placed_pass _ _ (λ q m y. e (mine q m y)) ih)

    placed_rows : (r : ℕ) → Placed (r * 256) (in_rows n channel first last r)
    unfolding in_rows
    placed_rows zero = record {
      long = length-replicate {A = ℕ} 256 0;
      done = λ q l h. absurd (not-suc-le-zero (let z : 0 < 0 = omega arith in z));
      below = λ q. omega (arith, zeros 256 q);
      past = λ q l. zeros 256 q;
    }
    placed_rows (suc r) =
        let p = placed_row r n (in_rows n channel first last r) (omega arith) (placed_rows r) in
        record { long = p.long; done = λ q l h. p.done q l (omega arith); below = p.below; past = p.past }

    pub placed_all : Placed (row_numbers * 256) (tracks n channel first last)
    unfolding tracks
    placed_all = placed_rows row_numbers
