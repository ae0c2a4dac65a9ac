-- Laws of `lowest_free`, and of the tests of `busy`; nothing else opens them. Assumes nothing.
use Rattle.counting.proofs.Prelude.{◌≡◌, refl, sym, ap, ap₂, ◌∙◌, ◌⊎◌, inl, inr, ⊎_elim, Bool, true, false, ◌&&◌, List, ℕ, zero, suc, ◌+◌}
use Rattle.counting.proofs.Prelude.{◌*◌, ◌≤◌, ◌<◌, max, arith, eqb, leb, ltb, get_or, eq-eqb, eqb-true, leb-true, le-leb, lt-ltb, le-ltb}
use Rattle.counting.proofs.Prelude.{ltb-true}
use native.Mathlib.Nat.{not-suc-le-zero}
use native.Mathlib.Decide.{ℕ_discrete}
use Rattle.specification.specs.Count.{choose}
use Rattle.counting.proofs.Truth.{and_intro, and_elim, or_left, or_elim}
use Rattle.counting.proofs.Falsity.{not-true}
use Rattle.counting.proofs.Somes.{some_found, some_which}
use Rattle.specification.specs.Tracks.{lowest_free, earlier, meet, blocks, busy}

-- ---- the lowest that is free

module _ (busy : ℕ → Bool) where
  lowest-busy : (j c : ℕ) → busy c ≡ true → lowest_free busy (suc j) c ≡ lowest_free busy j (suc c)
  unfolding lowest_free
  lowest-busy j c e = rw e

  lowest-free : (j c : ℕ) → busy c ≡ false → lowest_free busy (suc j) c ≡ c
  unfolding lowest_free
  lowest-free j c e = rw e

  lowest-last : (c : ℕ) → lowest_free busy 0 c ≡ c
  unfolding lowest_free
  lowest-last c = refl

  -- r is the first of the j numbers from c on that is not busy, or c + j
  pub record IsLowest (j c r : ℕ) : Type 0 where
    pub least : c ≤ r
    pub most : r ≤ c + j
    pub below : (d : ℕ) → c ≤ d → d < r → busy d ≡ true
    pub free : r < c + j → busy r ≡ false

  pub lowest_is : (j c : ℕ) → IsLowest j c (lowest_free busy j c)
  lowest_is zero c = rw (lowest-last c) record {
    least = omega arith;
    most = omega arith;
    below = λ d a b. absurd (let z : 0 < 0 = omega arith in not-suc-le-zero z);
    free = λ a. absurd (let z : 0 < 0 = omega arith in not-suc-le-zero z);
  }
  lowest_is (suc j) c = go (busy c) refl (lowest_is j (suc c))
    where
      go : (b : Bool) → busy c ≡ b → IsLowest j (suc c) (lowest_free busy j (suc c)) → IsLowest (suc j) c (lowest_free busy (suc j) c)
      go false e i = rw (lowest-free j c e) record {
        least = omega arith;
        most = omega arith;
        below = λ d a b. absurd (let z : 0 < 0 = omega arith in not-suc-le-zero z);
        free = λ a. e;
      }
      go true e i = rw (lowest-busy j c e) record {
        least = omega (arith, i.least);
        most = omega (arith, i.most);
        below = λ d a b. at d a b (ℕ_discrete c d);
        free = λ a. i.free (omega arith);
      }
        where
          at : (d : ℕ) → c ≤ d → d < lowest_free busy j (suc c) → Dec (c ≡ d) → busy d ≡ true
          at d a b (yes q) = sym (ap busy q) ∙ e
          at d a b (no q) = i.below d (omega arith) b

-- the same test of the j numbers from c on
pub lowest_ext : (f g : ℕ → Bool) (j c : ℕ) → ((d : ℕ) → d < c + j → f d ≡ g d) → lowest_free f j c ≡ lowest_free g j c
unfolding lowest_free
lowest_ext f g zero c e = refl
lowest_ext f g (suc j) c e =
    ap₂ (λ (b : Bool) (x : ℕ). choose {A = ℕ} b (λ _. x) (λ _. c)) (e c (omega arith)) (lowest_ext f g j (suc c) (λ d l. e d (omega arith)))

-- ---- turns, by first row and then by number

-- where b comes, of numbers below 256
abbrev pub turn : (ℕ → ℕ) → ℕ → ℕ
turn first b = first b * 256 + b

module _ (first : ℕ → ℕ) (p q : ℕ) where
  earlier_fact : earlier first p q ≡ true → (first p < first q) ⊎ ((first p ≡ first q) × (p < q))
  unfolding earlier
  earlier_fact e = ⊎_elim
      (λ x. inl (ltb-true (first p) (first q) x))
      (λ x. let h = and_elim (eqb (first p) (first q)) (ltb p q) x in inr (eqb-true (first p) (first q) h.0, ltb-true p q h.1))
      (or_elim (ltb (first p) (first q)) (eqb (first p) (first q) && ltb p q) e)

  earlier-row : first p < first q → earlier first p q ≡ true
  unfolding earlier
  earlier-row l = or_left (ltb (first p) (first q)) (eqb (first p) (first q) && ltb p q) (lt-ltb (first p) (first q) l)

  -- in one row, by number
  earlier-number : first p ≡ first q → earlier first p q ≡ ltb p q
  unfolding earlier
  earlier-number e = rw (le-ltb (first p) (first q) (omega arith)) (rw (eq-eqb (first p) (first q) e))

  pub earlier-turn : p < 256 → earlier first p q ≡ true → turn first p < turn first q
  earlier-turn l e = ⊎_elim (λ h. omega arith) (λ h. omega arith) (earlier_fact e)

  pub turn-earlier : q < 256 → turn first p < turn first q → earlier first p q ≡ true
  turn-earlier l h = go (ℕ_discrete (first p) (first q))
    where
      go : Dec (first p ≡ first q) → earlier first p q ≡ true
      go (yes e) = earlier-number e ∙ lt-ltb p q (omega arith)
      go (no e) = earlier-row (omega arith)

-- ---- who meets and who blocks

module _ (channel first last : ℕ → ℕ) (p q : ℕ) where
  pub meet_yes : channel p ≡ channel q → first p ≤ last q → first q ≤ last p → meet channel first last p q ≡ true
  unfolding meet
  meet_yes c a b = rw (eq-eqb _ _ c) (rw (le-leb _ _ a) (le-leb _ _ b))

  pub meet_fact : meet channel first last p q ≡ true → (channel p ≡ channel q) × (first p ≤ last q) × (first q ≤ last p)
  unfolding meet
  meet_fact e =
      let x = and_elim (eqb (channel p) (channel q)) (leb (first p) (last q) && leb (first q) (last p)) e in
      let y = and_elim (leb (first p) (last q)) (leb (first q) (last p)) x.1 in
      (eqb-true _ _ x.0, leb-true _ _ y.0, leb-true _ _ y.1)

  pub blocks_fact : blocks channel first last p q ≡ true → (earlier first p q ≡ true) × (meet channel first last p q ≡ true)
  unfolding blocks
  blocks_fact e = and_elim (earlier first p q) (meet channel first last p q) e

  pub blocks_yes : earlier first p q ≡ true → meet channel first last p q ≡ true → blocks channel first last p q ≡ true
  unfolding blocks
  blocks_yes a b = and_intro (earlier first p q) (meet channel first last p q) a b

pub meet-sym : (channel first last : ℕ → ℕ) (p q : ℕ) → meet channel first last p q ≡ true → meet channel first last q p ≡ true
meet-sym channel first last p q e = let x = meet_fact channel first last p q e in meet_yes channel first last q p (sym x.0) x.2 x.1

-- bundles of one channel that cover a row meet, and those that meet cover one
pub row-meet : (channel first last : ℕ → ℕ) (p q r : ℕ) → channel p ≡ channel q → (first p ≤ r) × (r ≤ last p)
    → (first q ≤ r) × (r ≤ last q) → meet channel first last p q ≡ true
row-meet channel first last p q r c x y = meet_yes channel first last p q c (omega arith) (omega arith)

pub meet-row : (channel first last : ℕ → ℕ) (p q : ℕ) → first p ≤ last p → first q ≤ last q → meet channel first last p q ≡ true
    → (r : ℕ) × (first p ≤ r) × (r ≤ last p) × (first q ≤ r) × (r ≤ last q)
meet-row channel first last p q a b e =
    let x = meet_fact channel first last p q e in (max (first p) (first q), omega arith, omega arith, omega arith, omega arith)

-- no bundle blocks itself
pub blocks_self : (channel first last : ℕ → ℕ) (b : ℕ) → blocks channel first last b b ≡ false
blocks_self channel first last b =
    not-true _ (λ e. ⊎_elim (λ l. omega arith) (λ l. omega arith) (earlier_fact first b b (blocks_fact channel first last b b e).0))

-- ---- busy tracks

module _ (n : ℕ) (channel first last : ℕ → ℕ) (track : List ℕ) (b c : ℕ) where
  pub busy_fact : busy n channel first last track b c ≡ true
      → (q : ℕ) × (q < n) × (blocks channel first last q b ≡ true) × (get_or track q 0 ≡ c)
  unfolding busy
  busy_fact e =
      let w = some_which n (λ q. blocks channel first last q b && eqb (get_or track q 0) c) e in
      let x = and_elim (blocks channel first last w.0 b) (eqb (get_or track w.0 0) c) w.2 in
      (w.0, w.1, x.0, eqb-true _ _ x.1)

  pub busy_yes : (q : ℕ) → q < n → blocks channel first last q b ≡ true → get_or track q 0 ≡ c → busy n channel first last track b c ≡ true
  unfolding busy
  busy_yes q l x y =
      some_found n (λ q. blocks channel first last q b && eqb (get_or track q 0) c) q l
      (and_intro (blocks channel first last q b) (eqb (get_or track q 0) c) x (eq-eqb _ _ y))
