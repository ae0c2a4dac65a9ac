-- The vertices that one set has and another lacks, found by the masks. Assumes nothing.
use Rattle.counting.proofs.Prelude.{◌≡◌, refl, sym, ap, ap₂, ◌∙◌, ◌≢◌, ⊎_elim, not, ◌&&◌, List, [], ◌∷◌, ℕ, zero, suc, ◌+◌, ◌-◌, ◌*◌, ◌/◌}
use Rattle.counting.proofs.Prelude.{◌%◌, ◌^◌, ◌≤◌, ◌<◌, arith, eqb, get_or, set, eq-eqb, subst, true≢false, false, lt-ltb, le-ltb}
use native.Mathlib.Nat.{lt_of_le_of_lt}
use lib.Bits.{bit_or, and_le_l}
use lib.Count.{count_trailing_zeros, trailing_le}
use native.Mathlib.Decide.{dec_lt}
use Rattle.std.specs.Prelude.{Option, Some, None}
use Rattle.std.specs.Option.{is_some}
use Rattle.counting.proofs.Truth.{lt-or-le}
use Rattle.specification.specs.Sets.{bit, member, member?, inserted, at, has?}
use Rattle.search.specs.Steps.Search.{Next, open?, NextOpen, below, Opens}
use Rattle.masks.specs.Pairs.{in_pair}
use Rattle.masks.proofs.Bits.{without, one_shl, bit_of_zero, trailing_below, trailing_at, trailing_lt}
use Rattle.masks.proofs.Sets.{without-member}
use Rattle.masks.proofs.Pairing.{pair_low, pair_high}
use Rattle.masks.proofs.Tables.{Row, row-member}

module _ (table visited : List ℕ) (h a b c d : ℕ) (ea : a ≡ get_or table (2 * h + 0) 0) (eb : b ≡ get_or visited (0 + 0) 0)
    (ec : c ≡ get_or table (2 * h + 1) 0) (ed : d ≡ get_or visited (0 + 1) 0)
    (fit : (i : ℕ) → get_or visited i 0 < 2 ^ 64) where
  open_bit : (v : ℕ) → v < 128 → member? (without a b ∷ without c d ∷ []) 0 v ≡ open? table h visited v
  unfolding open? has? at
  open_bit = without-member 2 table (2 * h) visited 0 (without a b ∷ without c d ∷ []) (λ i l. fit (0 + i)) same
    where
      same : (i : ℕ) → i < 2 → get_or (without a b ∷ without c d ∷ []) i 0 ≡ without (get_or table (2 * h + i) 0) (get_or visited (0 + i) 0)
      same zero l = ap₂ without ea eb
      same (suc zero) l = ap₂ without ec ed
      same (suc (suc i)) l = absurd (omega arith)

  pub next_open : (from r : ℕ) → Next (without a b ∷ without c d ∷ []) 0 (2 * 64) from r → NextOpen table h visited from r
  next_open from r p = record {
    within = p.within;
    skipped = λ v l m. sym (open_bit v (omega (arith, p.within))) ∙ ap (λ x. eqb x 1) (p.skipped v l m);
    found = λ l. let f = p.found l in (f.0, sym (open_bit r l) ∙ eq-eqb _ 1 f.1);
  }

-- ---- the first member of two masks, by the trailing zeros of the one and then of the other

module _ (x y : ℕ) where
  abbrev two : List ℕ
  two = x ∷ y ∷ []

  in_low : (v : ℕ) → v < 64 → member two 0 v ≡ bit x v
  unfolding in_pair
  in_low v l = pair_low x y v l

  in_high : (v : ℕ) → 64 ≤ v → v < 128 → member two 0 v ≡ bit y (v - 64)
  unfolding in_pair
  in_high v l m = ap (member two 0) (let e : v ≡ 64 + (v - 64) = omega arith in e) ∙ pair_high x y (v - 64) (omega arith)

  first-low : x < 2 ^ 64 → x ≢ 0 → Next two 0 (2 * 64) 0 (count_trailing_zeros 64 x)
  first-low fit d =
      let l : count_trailing_zeros 64 x < 64 = trailing_lt 64 x (omega arith) fit in
      record {
        within = omega arith;
        skipped = λ v a b. in_low v (omega arith) ∙ trailing_below 64 x v b;
        found = λ a. (omega arith, in_low (count_trailing_zeros 64 x) l ∙ trailing_at 64 x l);
      }

  module _ (e : x ≡ 0) where
    none_low : (v : ℕ) → v < 64 → member two 0 v ≡ 0
    none_low v l = in_low v l ∙ ap (λ (z : ℕ). bit z v) e ∙ bit_of_zero v

    -- or none, and then this is 128
    first_high : Next two 0 (2 * 64) 0 (64 + count_trailing_zeros 64 y)
    first_high =
        let t : count_trailing_zeros 64 y ≤ 64 = trailing_le 64 y in
        record {
          within = omega arith;
          skipped = λ v a b. ⊎_elim (λ m. none_low v m) (λ m. in_high v m (omega arith) ∙ trailing_below 64 y (v - 64) (omega arith))
              (lt-or-le v 64);
          found = λ a. (
            omega arith,
            in_high (64 + count_trailing_zeros 64 y) (omega arith) (omega arith)
                ∙ ap (bit y) (let q : 64 + count_trailing_zeros 64 y - 64 ≡ count_trailing_zeros 64 y = omega arith in q)
                ∙ trailing_at 64 y (omega arith),
          );
        }

-- what the code finds
module _ (low high : ℕ) (visited : List ℕ) (fit : (i : ℕ) → get_or visited i 0 < 2 ^ 64) where
  abbrev x : ℕ
  x = without low (get_or visited 0 0)

  abbrev y : ℕ
  y = without high (get_or visited 1 0)

  found_next : (r : ℕ) → Next (x ∷ y ∷ []) 0 (2 * 64) 0 r → NextOpen (low ∷ high ∷ []) 0 visited 0 r
  found_next = next_open (low ∷ high ∷ []) visited 0 low (get_or visited 0 0) high (get_or visited 1 0) refl refl refl refl fit 0

  pub open_low : low < 2 ^ 64 → x ≢ 0 → NextOpen (low ∷ high ∷ []) 0 visited 0 (count_trailing_zeros 64 x)
  open_low l z = found_next _ (first-low x y (lt_of_le_of_lt (and_le_l low ((2 ^ 64 - 1) - get_or visited 0 0)) l) z)

  pub open_high : x ≡ 0 → NextOpen (low ∷ high ∷ []) 0 visited 0 (64 + count_trailing_zeros 64 y)
  open_high e = found_next _ (first_high x y e)

-- ---- what is told of it

module _ (table visited : List ℕ) (h n v : ℕ) where
  below_yes : v < n → below n v ≡ Some v
  unfolding below
  below_yes l = rw (lt-ltb v n l)

  below_no : n ≤ v → below n v ≡ None
  unfolding below
  below_no l = rw (le-ltb v n l)

  pub opens_yes : NextOpen table h visited 0 v → v < n → Opens table h visited n (Some v)
  opens_yes o l = record { first = v; found = o; told = sym (below_yes l) }

  pub opens_no : NextOpen table h visited 0 v → n ≤ v → Opens table h visited n None
  opens_no o l = record { first = v; found = o; told = sym (below_no l) }

module _ (table visited : List ℕ) (h n : ℕ) where
  pub opens_some : (v : ℕ) → Opens table h visited n (Some v) → NextOpen table h visited 0 v × (v < n)
  opens_some v o = go (dec_lt o.first n)
    where
      go : Dec (o.first < n) → NextOpen table h visited 0 v × (v < n)
      go (yes l) =
          let e : Some v ≡ Some o.first = o.told ∙ below_yes table visited h n o.first l in
          let q : o.first ≡ v = cc in
          subst (λ x. NextOpen table h visited 0 x × (x < n)) q (o.found, l)
      go (no l) = let e : Some v ≡ None = o.told ∙ below_no table visited h n o.first (omega arith) in absurd (cc)

  pub opens_none : (o : Opens table h visited n None) → n ≤ o.first
  opens_none o = go (dec_lt o.first n)
    where
      go : Dec (o.first < n) → n ≤ o.first
      go (yes l) = let e : None ≡ Some o.first = o.told ∙ below_yes table visited h n o.first l in absurd (cc)
      go (no l) = omega arith

  pub opens_shut : (answer : Option ℕ) (o : Opens table h visited n answer) → is_some answer ≡ false → n ≤ o.first
  opens_shut None o e = opens_none o
  opens_shut (Some v) o e = absurd (true≢false e)

-- the masks of h, read one by one, stand for its row
pub row_open : (table visited : List ℕ) (h a b n : ℕ) (answer : Option ℕ) → Row 2 table h (a ∷ b ∷ [])
    → Opens (a ∷ b ∷ []) 0 visited n answer → Opens table h visited n answer
unfolding open? has? at
row_open table visited h a b n answer o p = record {
  first = p.first;
  found = record {
    within = p.found.within;
    skipped = λ v l m. sym (same v (omega (arith, p.found.within))) ∙ p.found.skipped v l m;
    found = λ l. let f = p.found.found l in (f.0, sym (same p.first l) ∙ f.1);
  };
  told = p.told;
}
  where
    same : (v : ℕ) → v < 128 → open? (a ∷ b ∷ []) 0 visited v ≡ open? table h visited v
    same v l = ap (λ (x : ℕ). eqb x 1 && not (member? visited 0 v)) (row-member 2 table h (a ∷ b ∷ []) o v l)

-- ---- a vertex is put into a set of two masks

module _ (T : List ℕ) (v : ℕ) where
  put-at : (i k : ℕ) → i ≡ 0 + v / 64 → k ≡ v % 64 → k < 64 → set T i (bit_or (get_or T i 0) ((1 * 2 ^ k) % 2 ^ 64)) ≡ inserted T 0 v
  unfolding inserted
  put-at i k ei ek l =
      ap (λ (x : ℕ). set T i (bit_or (get_or T i 0) x)) (one_shl k l ∙ ap (λ (x : ℕ). 2 ^ x) ek)
      ∙ ap (λ (x : ℕ). set T x (bit_or (get_or T x 0) (2 ^ (v % 64)))) ei

  pub put_low : v < 64 → set T 0 (bit_or (get_or T 0 0) ((1 * 2 ^ v) % 2 ^ 64)) ≡ inserted T 0 v
  put_low l = put-at 0 v (omega arith) (omega arith) l

  pub put-high : 64 ≤ v → v < 128 → set T 1 (bit_or (get_or T 1 0) ((1 * 2 ^ (v - 64)) % 2 ^ 64)) ≡ inserted T 0 v
  put-high l m = put-at 1 (v - 64) (omega arith) (omega arith) (omega arith)
