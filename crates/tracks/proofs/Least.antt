-- The tracks are lawful, in each channel as many as 1 + the highest, and no lawful tracks are fewer. Assumes nothing.
use Rattle.counting.proofs.Prelude.{◌≡◌, refl, sym, ap, ◌∙◌, ◌≢◌, Bool, true, ◌&&◌, ℕ, suc, ◌*◌, ◌≤◌, ◌<◌, arith, eqb, leb, get_or, le-leb}
use Rattle.counting.proofs.Prelude.{leb-true, eq-eqb, eqb-true}
use native.Mathlib.Nat.{le_antisymm}
use native.Mathlib.Decide.{ℕ_discrete, dec_lt}
use Rattle.specification.specs.Count.{count, above}
use Rattle.counting.proofs.Truth.{and_elim}
use Rattle.specification.specs.Limits.{most_bundles}
use Rattle.specification.specs.Tracks.{meet, tracks, different_in}
use Rattle.tracks.specs.Order.{Apart, Among, Intervals, Packed}
use Rattle.counting.proofs.Mapping.{into-count, onto_count}
use Rattle.tracks.proofs.Different.{different_least, different_below}
use Rattle.tracks.proofs.FirstFit.{turn, turn-earlier, meet_fact, row-meet, meet-sym, blocks_fact, blocks_yes, earlier-turn}
use Rattle.tracks.proofs.Placing.{Placed, placed_all}
use Rattle.counting.proofs.Above.{above_each, above-le}

module _ (channel first last : ℕ → ℕ) (c r : ℕ) where
  -- b is of channel c and covers row r
  covers : ℕ → Bool
  covers b = eqb (channel b) c && (leb (first b) r && leb r (last b))

  covers_fact : (b : ℕ) → covers b ≡ true → (channel b ≡ c) × (first b ≤ r) × (r ≤ last b)
  unfolding covers
  covers_fact b e =
      let x = and_elim (eqb (channel b) c) (leb (first b) r && leb r (last b)) e in
      let y = and_elim (leb (first b) r) (leb r (last b)) x.1 in
      (eqb-true _ _ x.0, leb-true _ _ y.0, leb-true _ _ y.1)

  covers_yes : (b : ℕ) → channel b ≡ c → first b ≤ r → r ≤ last b → covers b ≡ true
  unfolding covers
  covers_yes b e x y = rw (eq-eqb _ _ e) (rw (le-leb _ _ x) (le-leb _ _ y))

  -- lawful tracks are at least as many as the bundles that cover any row
  depth_least : (n : ℕ) (track : ℕ → ℕ) → Apart n channel first last track → count n covers ≤ different_in n (λ b. eqb (channel b) c) track
  depth_least n track w = different_least n (λ b. eqb (channel b) c) track covers (λ b l t. eq-eqb _ _ (covers_fact b t).0) inj
    where
      inj : (i j : ℕ) → i < n → j < n → covers i ≡ true → covers j ≡ true → track i ≡ track j → i ≡ j
      inj i j a b s t e = go (ℕ_discrete i j)
        where
          x : (channel i ≡ c) × (first i ≤ r) × (r ≤ last i)
          x = covers_fact i s

          y : (channel j ≡ c) × (first j ≤ r) × (r ≤ last j)
          y = covers_fact j t

          go : Dec (i ≡ j) → i ≡ j
          go (yes q) = q
          go (no q) = absurd (w.apart i j a b q (row-meet channel first last i j r (x.0 ∙ sym y.0) (x.1, x.2) (y.1, y.2)) e)

-- among the bundles of another list: a row is covered no less often
depth_among : (n : ℕ) (channel first last : ℕ → ℕ) (c n' : ℕ) (channel' first' last' : ℕ → ℕ) (c' r : ℕ)
    → Among n channel first last c n' channel' first' last' c'
    → count n (covers channel first last c r) ≤ count n' (covers channel' first' last' c' r)
depth_among n channel first last c n' channel' first' last' c' r u =
    into-count n n' (covers channel first last c r) (covers channel' first' last' c' r) u.to
    (λ b l e. u.below b l (mine b e)) same (λ a b l k s t e. u.one a b l k (mine a s) (mine b t) e)
  where
    mine : (b : ℕ) → covers channel first last c r b ≡ true → channel b ≡ c
    mine b e = (covers_fact channel first last c r b e).0

    same : (b : ℕ) → b < n → covers channel first last c r b ≡ true → covers channel' first' last' c' r (u.to b) ≡ true
    same b l e =
        let x = covers_fact channel first last c r b e in
        covers_yes channel' first' last' c' r (u.to b) (u.there b l x.0) (omega (arith, x, u.firsts b l x.0))
        (omega (arith, x, u.lasts b l x.0))

module _ (n : ℕ) (channel first last : ℕ → ℕ) (small : n ≤ most_bundles) (i : Intervals n first last) where
  track : ℕ → ℕ
  track b = get_or (tracks n channel first last) b 0

  placed : Placed n channel first last (256 * 256) (tracks n channel first last)
  placed = placed_all n channel first last small

  turns : (b : ℕ) → b < n → turn first b < 256 * 256
  turns b l = omega (arith, i.below b l)

  lawful : Apart n channel first last track
  unfolding track
  lawful = record { apart = λ a b l m d s e. go a b l m d s e (dec_lt (turn first a) (turn first b)) }
    where
      go : (a b : ℕ) → a < n → b < n → a ≢ b → meet channel first last a b ≡ true → track a ≡ track b → Dec (turn first a < turn first b)
          → ⊥
      go a b l m d s e (yes t) =
          (placed.done b m (turns b m)).free a l (blocks_yes channel first last a b (turn-earlier first a b (omega arith) t) s) e
      go a b l m d s e (no t) =
          let o : turn first b < turn first a = other (ℕ_discrete (turn first a) (turn first b)) in
          (placed.done a l (turns a l)).free b m
          (blocks_yes channel first last b a (turn-earlier first b a (omega arith) o) (meet-sym channel first last a b s)) (sym e)
        where
          other : Dec (turn first a ≡ turn first b) → turn first b < turn first a
          other (yes q) = absurd (d (omega arith))
          other (no q) = omega arith

  -- where a bundle has track t, t + 1 bundles of its channel cover its first row
  stacked : (b : ℕ) → b < n → suc (track b) ≤ count n (covers channel first last (channel b) (first b))
  unfolding track
  stacked b l =
      onto_count n (suc (track b)) (covers channel first last (channel b) (first b)) track (λ c m. go c m (ℕ_discrete c (track b)))
    where
      go : (c : ℕ) → c < suc (track b) → Dec (c ≡ track b)
          → (w : ℕ) × (w < n) × (covers channel first last (channel b) (first b) w ≡ true) × (track w ≡ c)
      go c m (yes q) = (b, l, covers_yes channel first last (channel b) (first b) b refl (omega arith) (i.ordered b l), sym q)
      go c m (no q) =
          let f = (placed.done b l (turns b l)).low c (omega arith) in
          let x = blocks_fact channel first last f.0 b f.2 in
          let s = meet_fact channel first last f.0 b x.1 in
          let t = earlier-turn first f.0 b (omega (arith, f.1)) x.0 in
          (f.0, f.1, covers_yes channel first last (channel b) (first b) f.0 s.0 (omega (arith, f.1)) s.2, f.3)

  least : (c n' : ℕ) (channel' first' last' : ℕ → ℕ) (c' : ℕ) (track' : ℕ → ℕ) → Among n channel first last c n' channel' first' last' c'
      → Apart n' channel' first' last' track' → above n (λ b. eqb (channel b) c) track ≤ different_in n' (λ b. eqb (channel' b) c') track'
  least c n' channel' first' last' c' track' u w =
      above-le n (λ b. eqb (channel b) c) track (different_in n' (λ b. eqb (channel' b) c') track') each
    where
      each : (b : ℕ) → b < n → eqb (channel b) c ≡ true → track b < different_in n' (λ b. eqb (channel' b) c') track'
      each b l e = omega (
        arith,
        stacked b l,
        ap (λ x. count n (covers channel first last x (first b))) (eqb-true (channel b) c e),
        depth_among n channel first last c n' channel' first' last' c' (first b) u,
        depth_least channel' first' last' c' (first b) n' track' w,
      )

  -- a list's bundles stand among themselves
  itself : (c : ℕ) → Among n channel first last c n channel first last c
  itself c = record {
    to = λ b. b;
    below = λ b l e. l;
    there = λ b l e. e;
    one = λ a b l m s t e. e;
    firsts = λ b l e. refl;
    lasts = λ b l e. refl;
  }

  counted : (c : ℕ) → different_in n (λ b. eqb (channel b) c) track ≡ above n (λ b. eqb (channel b) c) track
  counted c = le_antisymm
      (different_below n (above n (λ b. eqb (channel b) c) track) (λ b. eqb (channel b) c) track
      (λ b l e. above_each n (λ b. eqb (channel b) c) track b l e))
      (least c n channel first last c track (itself c) lawful)

-- the rule's tracks are packed
pub tracks_packed : (n : ℕ) (channel first last : ℕ → ℕ) → n ≤ most_bundles → Intervals n first last
    → Packed n channel first last (λ b. get_or (tracks n channel first last) b 0)
unfolding track
tracks_packed n channel first last small i = record {
  lawful = lawful n channel first last small i;
  counted = counted n channel first last small i;
  least =
      λ c n' channel' first' last' c' track' u w.
      omega (arith, counted n channel first last small i c, least n channel first last small i c n' channel' first' last' c' track' u w);
}
