-- Rows round by round, each stored when it is settled. Assumes nothing.
use Rattle.counting.proofs.Prelude.{◌≡◌, refl, sym, ap, ap₂, ◌∙◌, subst, ◌≢◌, ◌⊎◌, inl, inr, ⊎_elim, ◌↔◌, Bool, true, false, true≢false}
use Rattle.counting.proofs.Prelude.{List, ℕ, suc, ◌+◌, ◌-◌, ◌*◌, ◌^◌, ◌≤◌, ◌<◌, min, zero-le, arith, length, get_or, eq-eqb, eqb-true}
use native.Mathlib.Nat.{lt_of_le_of_lt}
use native.Mathlib.Decide.{ℕ_discrete}
use native.Mathlib.Numerals.{add-one}
use lib.Bits.{bit_or, bit_and, and_le_l, or_comm}
use lib.Count.{count_trailing_zeros}
use Rattle.specification.specs.Count.{some, above}
use Rattle.specification.specs.Sets.{bit, at, has?}
use Rattle.specification.specs.Graph.{reaches?}
use Rattle.specification.specs.Graph.Reaches.{one}
use Rattle.rows.specs.Levels.{level_within, level, levels_used}
use Rattle.counting.specs.Quads.{quad}
use Rattle.counting.proofs.Truth.{lt-or-le, two_cases, true_or_false}
use Rattle.counting.proofs.Somes.{some_found, some_which}
use Rattle.masks.specs.Pairs.{in_pair}
use Rattle.masks.proofs.Bits.{without, trailing_at, trailing_lt}
use Rattle.masks.proofs.Pairing.{pair_lt, pair_low, pair_high, pair_at, pair_and, pair_or, pair_zero, pair_without}
use Rattle.reach.proofs.Routes.{reaches_trans}
use Rattle.counting.proofs.Above.{above_each, above-le, above_which}
use Rattle.rows.proofs.Depth.{settled, shallow}
use Rattle.rows.proofs.Compaction.{Order}
use Rattle.rows.proofs.Levels.{levels_below}
use Rattle.descent.specs.Steps.Members.{Below, Long, Pictured, Written}
use Rattle.descent.specs.Steps.Closed.{arc?, Inside, Laid}
use Rattle.specification.specs.Lent.{KeptFrom}
use Rattle.descent.proofs.Gathering.{long_below}
use Rattle.descent.proofs.Descending.{Stored, stored_at, same_bits}
use Rattle.descent.proofs.Arcs.{reached_decided}
use Rattle.descent.proofs.Ranking.{no_cycle}

module _ (E : ℕ → ℕ → Bool) (n : ℕ) where
  -- a row that is at most r one step deeper is the same
  same-level : (r v : ℕ) → level_within E n (suc r) v ≤ r → level_within E n (suc r) v ≡ level_within E n r v
  same-level r v h =
      ⊎_elim
      (λ l. settled E n r (suc r) v (omega arith) (inl l))
      (λ l. ⊎_elim
      (λ k. settled E n r (suc r) v (omega arith) (inr k))
      (λ k. let s = shallow E n r v in omega arith)
      (lt-or-le (level_within E n r v) r))
      (lt-or-le (level_within E n (suc r) v) r)

  -- what grows one step deeper grew before
  grew : (r v : ℕ) → suc r ≤ level_within E n (suc r) v → r ≤ level_within E n r v
  grew r v h =
      ⊎_elim
      (λ l. absurd (let e = settled E n r (suc r) v (omega arith) (inr l) in omega arith))
      (λ l. l)
      (lt-or-le (level_within E n r v) r)

  -- the vertices below a row that is settled are the same one step deeper
  below_same : (r k v : ℕ) → k ≤ r → level_within E n r v < k ↔ level_within E n (suc r) v < k
  below_same r k v h = (
    (λ l. let e = settled E n r (suc r) v (omega arith) (inr (omega arith)) in omega arith),
    λ l. let e = settled E n r (suc r) v (omega arith) (inl (omega arith)) in omega arith,
  )

  -- and at the end
  below_last : (r k v : ℕ) → r ≤ 128 → k ≤ r → level_within E n r v < k ↔ level E n v < k
  below_last r k v hr h = (
    (λ l. let e = settled E n r 128 v hr (inr (omega arith)) in omega arith),
    λ l. let e = settled E n r 128 v hr (inl (omega arith)) in omega arith,
  )

-- the set has a member
abbrev pub Some : ℕ → ℕ → ℕ → Type 0
Some n low high = (v : ℕ) × (v < 128) × (in_pair low high v ≡ 1)

-- after r rounds: low, high has the vertices whose row may still be higher, s the rows of the others and else what `places`
-- has, and `below` the sets up to r
pub record Round (e : List ℕ) (n r low high : ℕ) (places s below : List ℕ) : Type 0 where
  pub low_fits : low < 2 ^ 64
  pub high_fits : high < 2 ^ 64
  pub growing : (v : ℕ) → v < 128 → in_pair low high v ≡ 1 ↔ ((v < n) × (r ≤ level_within (has? 2 e) n r v))
  pub alive : Some n low high
  pub rule : (v : ℕ) → v < n → level_within (has? 2 e) n r v < r → quad 2 s v ≡ level_within (has? 2 e) n r v
  pub still : (v : ℕ) → v < n → r ≤ level_within (has? 2 e) n r v → quad 2 s v ≡ quad 2 places v
  pub rest : (k v : ℕ) → k < 4 → (k ≡ 2 → n ≤ v) → quad k s v ≡ quad k places v
  pub sets : (k v : ℕ) → k ≤ r → v < 128 → at 2 below k v ≡ 1 ↔ ((v < n) × (level_within (has? 2 e) n r v < k))

pub round_none : (e : List ℕ) (n low high : ℕ) (places below : List ℕ) → 0 < n → Below n low high → get_or below 0 0 ≡ 0
    → get_or below 1 0 ≡ 0
    → Round e n 0 low high places places below
unfolding level_within
round_none e n low high places below pos b z z' = record {
  low_fits = b.low_fits;
  high_fits = b.high_fits;
  growing = λ v h. ((λ q. ((b.members v h).0 q, zero-le)), λ p. (b.members v h).1 p.0);
  alive = (0, omega arith, (b.members 0 (omega arith)).1 pos);
  rule = λ v h l. absurd (omega arith);
  still = λ v h l. refl;
  rest = λ k v h o. refl;
  sets = λ k v h hv. ((λ q. absurd (let w = empty k v h hv in omega arith)), λ p. absurd (let w = p.1 in omega arith));
}
  where
    empty : (k v : ℕ) → k ≤ 0 → v < 128 → at 2 below k v ≡ 0
    empty k v h hv =
        sym (pair_at below k v hv)
        ∙ ap₂ (λ (x y : ℕ). in_pair x y v)
        (ap (λ (i : ℕ). get_or below i 0) (let q : 2 * k ≡ 0 = omega arith in q) ∙ z)
        (ap (λ (i : ℕ). get_or below i 0) (let q : 2 * k + 1 ≡ 1 = omega arith in q) ∙ z')
        ∙ pair_zero v hv

-- a mask that is not 0 has a member
mask_some : (x : ℕ) → x < 2 ^ 64 → x ≢ 0 → (j : ℕ) × (j < 64) × (bit x j ≡ 1)
mask_some x f ne = let l = trailing_lt 64 x (omega arith) f in (count_trailing_zeros 64 x, l, trailing_at 64 x l)

pub pair_some : (n a b : ℕ) → a < 2 ^ 64 → b < 2 ^ 64 → bit_or a b ≢ 0 → Some n a b
pair_some n a b fa fb ne = go (ℕ_discrete a 0) (ℕ_discrete b 0)
  where
    go : Dec (a ≡ 0) → Dec (b ≡ 0) → Some n a b
    go (no p) q = let m = mask_some a fa p in (m.0, (let l = m.1 in omega arith), pair_low a b m.0 m.1 ∙ m.2)
    go (yes p) (no q) = let m = mask_some b fb q in (64 + m.0, (let l = m.1 in omega arith), pair_high a b m.0 m.1 ∙ m.2)
    go (yes p) (yes q) = absurd (ne (ap₂ bit_or p q))

pub pair_none : (a b v : ℕ) → bit_or a b ≡ 0 → v < 128 → in_pair a b v ≡ 0
pair_none a b v z h =
    let q = pair_or a b b a v h in
    let w : in_pair (bit_or a b) (bit_or b a) v ≡ 0 = ap₂ (λ (x y : ℕ). in_pair x y v) z (or_comm b a ∙ z) ∙ pair_zero v h in
    omega arith

module _ (e : List ℕ) (n : ℕ) (small : n ≤ 128) (r low high first second p q a b : ℕ) (places s below : List ℕ)
    (o : Round e n r low high places s below)
    (start : Below n first second) (m : Pictured e low high p q) (ea : a ≡ bit_and low p) (eb : b ≡ bit_and high q) where
  fits_a : a < 2 ^ 64
  fits_a = subst (λ (x : ℕ). x < 2 ^ 64) (sym ea) (lt_of_le_of_lt (and_le_l low p) o.low_fits)

  fits_b : b < 2 ^ 64
  fits_b = subst (λ (x : ℕ). x < 2 ^ 64) (sym eb) (lt_of_le_of_lt (and_le_l high q) o.high_fits)

  both : (v : ℕ) → v < 128 → in_pair a b v ≡ min (in_pair low high v) (in_pair p q v)
  both v h = ap₂ (λ (x y : ℕ). in_pair x y v) ea eb ∙ pair_and low high p q v h

  -- those grow on that an edge enters from one that still grew
  grows : (v : ℕ) → v < 128 → in_pair a b v ≡ 1 ↔ ((v < n) × (suc r ≤ level_within (has? 2 e) n (suc r) v))
  unfolding level_within has?
  grows v h = (there, back)
    where
      there : in_pair a b v ≡ 1 → (v < n) × (suc r ≤ above n (λ u. has? 2 e u v) (level_within (has? 2 e) n r))
      there i =
          let w = both v h in
          let x = pair_lt low high v in
          let y = pair_lt p q v in
          let hit = (m.here v h).0 (omega arith) in
          let g = (o.growing hit.0 hit.1).0 hit.2 in
          let k = above_each n (λ u. has? 2 e u v) (level_within (has? 2 e) n r) hit.0 g.0 (eq-eqb _ _ hit.3) in
          let l = g.1 in
          (((o.growing v h).0 (omega arith)).0, omega arith)

      back : (v < n) × (suc r ≤ above n (λ u. has? 2 e u v) (level_within (has? 2 e) n r)) → in_pair a b v ≡ 1
      back i =
          let w = above_which n (λ u. has? 2 e u v) (level_within (has? 2 e) n r) r i.1 in
          let hw : w.0 < 128 = (let l = w.1 in omega arith) in
          let x = (o.growing v h).1 (i.0, grew (has? 2 e) n r v i.1) in
          let y = (m.here v h).1 (w.0, hw, (o.growing w.0 hw).1 (w.1, w.3), eqb-true _ _ w.2) in
          both v h ∙ omega arith

  -- those that stop
  stops : (c d v : ℕ) → v < 128 → in_pair (without c a) (without d b) v ≡ 1 ↔ ((in_pair c d v ≡ 1) × (in_pair a b v ≡ 0))
  stops c d v h =
      let w = pair_without c d a b v h fits_a fits_b in
      let x = pair_lt c d v in
      let y = pair_lt a b v in
      ((λ i. (omega arith, omega arith)), λ i. let k = i.0 in let l = i.1 in omega arith)

  stopping : (v : ℕ) → v < 128 → in_pair (without low a) (without high b) v ≡ 1 → v < n
  stopping v h i = ((o.growing v h).0 ((stops low high v h).0 i).0).0

  -- places of n vertices have theirs
  pub round_room : (t : List ℕ) → 4 * n ≤ length t → Long 4 t (without low a) 0 × Long 4 t (without high b) 64
  round_room t room = long_below 4 t n (without low a) (without high b) room stopping

  module _ (s' s'' below' : List ℕ) (w : Written (without low a) 0 r s s') (w' : Written (without high b) 64 r s' s'')
      (t : Stored below (r + 1) (without first a) (without second b) below') where
    -- one that does not stop in this round keeps what it has, and every one all but its row
    kept : (k v : ℕ) → k < 4 → (k ≡ 2 → v < 128 → in_pair (without low a) (without high b) v ≡ 1 → ⊥) → quad k s'' v ≡ quad k s v
    kept k v hk out =
        w'.others k v hk (λ z j h i y. out z (omega arith) (ap (in_pair (without low a) (without high b)) y ∙ pair_high _ _ j h ∙ i))
        ∙ w.others k v hk
        (λ z j h i y. out z (omega arith)
        (ap (in_pair (without low a) (without high b)) (y ∙ (let x : 0 + j ≡ j = omega arith in x)) ∙ pair_low _ _ j h ∙ i))

    -- one that stops has row r
    written : (v : ℕ) → v < 128 → in_pair (without low a) (without high b) v ≡ 1 → quad 2 s'' v ≡ r
    written v h i =
        ⊎_elim
        (λ l. w'.others 2 v (omega arith) (λ _ j hj z k. omega arith) ∙ ap (quad 2 s') (let k : v ≡ 0 + v = omega arith in k)
        ∙ w.done v l (sym (pair_low _ _ v l) ∙ i))
        (λ l.
        let k : v ≡ 64 + (v - 64) = omega arith in
        let hj : v - 64 < 64 = omega arith in
        ap (quad 2 s'') k ∙ w'.done (v - 64) hj
        (sym (pair_high (without low a) _ (v - 64) hj) ∙ subst (λ (x : ℕ). in_pair (without low a) (without high b) x ≡ 1) k i))
        (lt-or-le v 64)

    next-rule : (v : ℕ) → v < n → level_within (has? 2 e) n (suc r) v < suc r → quad 2 s'' v ≡ level_within (has? 2 e) n (suc r) v
    next-rule v h l =
        let hv : v < 128 = omega arith in
        let same = same-level (has? 2 e) n r v (omega arith) in
        let none : in_pair a b v ≡ 0 = ⊎_elim (λ k. k) (λ k. absurd (let g = ((grows v hv).0 k).1 in omega arith))
        (two_cases (in_pair a b v) (pair_lt a b v)) in
        ⊎_elim
        (λ k. kept 2 v (omega arith) (λ _ z i. let g = ((o.growing v hv).0 ((stops low high v hv).0 i).0).1 in omega arith) ∙ o.rule v h k
        ∙ sym same)
        (λ k. written v hv ((stops low high v hv).1 ((o.growing v hv).1 (h, k), none)) ∙ omega arith)
        (lt-or-le (level_within (has? 2 e) n r v) r)

    next_sets : (k v : ℕ) → k ≤ suc r → v < 128 → at 2 below' k v ≡ 1 ↔ ((v < n) × (level_within (has? 2 e) n (suc r) v < k))
    next_sets k v hk h = go (ℕ_discrete k (r + 1))
      where
        new : at 2 below' (r + 1) v ≡ 1 ↔ ((v < n) × (level_within (has? 2 e) n (suc r) v < r + 1))
        new =
            let z = stored_at below (r + 1) _ _ below' t v h in (
              (λ i.
                  let y = (stops first second v h).0 (sym z ∙ i) in
                  let hv = (start.members v h).0 y.0 in
                  let no = y.1 in (
                    hv,
                    ⊎_elim (λ l. omega arith) (λ l. absurd (let g = (grows v h).1 (hv, l) in omega arith))
                        (lt-or-le (level_within (has? 2 e) n (suc r) v) (suc r)),
                  )),
              λ i.
                  let l = i.1 in
                  z ∙ (stops first second v h).1 (
                    (start.members v h).1 i.0,
                    ⊎_elim (λ g. g) (λ g. absurd (let y = ((grows v h).0 g).1 in omega arith)) (two_cases (in_pair a b v) (pair_lt a b v)),
                  ),
            )

        go : Dec (k ≡ r + 1) → at 2 below' k v ≡ 1 ↔ ((v < n) × (level_within (has? 2 e) n (suc r) v < k))
        go (yes y) = subst (λ (x : ℕ). at 2 below' x v ≡ 1 ↔ ((v < n) × (level_within (has? 2 e) n (suc r) v < x))) (sym y) new
        go (no d) =
            let z = same_bits below below' k (t.low_other k d) (t.high_other k d) v h in
            let old = o.sets k v (omega arith) h in
            let f = below_same (has? 2 e) n r k v (omega arith) in
            ((λ i. let y = old.0 (sym z ∙ i) in (y.0, f.0 y.1)), λ i. z ∙ old.1 (i.0, f.1 i.1))

    -- one that grows on has what it had
    next_still : (v : ℕ) → v < n → suc r ≤ level_within (has? 2 e) n (suc r) v → quad 2 s'' v ≡ quad 2 places v
    next_still v h l =
        kept 2 v (omega arith) (λ _ hv i. absurd (let y = ((stops low high v hv).0 i).1 in let g = (grows v hv).1 (h, l) in omega arith))
        ∙ o.still v h (grew (has? 2 e) n r v l)

    next-rest : (k v : ℕ) → k < 4 → (k ≡ 2 → n ≤ v) → quad k s'' v ≡ quad k places v
    next-rest k v h out = kept k v h (λ z hv i. let g = stopping v hv i in let y = out z in omega arith) ∙ o.rest k v h out

    -- some grow on
    pub round-more : bit_or a b ≢ 0 → Round e n (r + 1) a b places s'' below'
    round-more ne = subst (λ (k : ℕ). Round e n k a b places s'' below') (sym (add-one r)) (record {
      low_fits = fits_a;
      high_fits = fits_b;
      growing = grows;
      alive = pair_some n a b fits_a fits_b ne;
      rule = next-rule;
      still = next_still;
      rest = next-rest;
      sets = next_sets;
    })

    -- none grows on: the rows are those of the rule
    module _ (inside : Inside e n) (hr : r < n) (z : bit_or a b ≡ 0) (was : List ℕ) (sets_past : KeptFrom (2 * (r + 1) + 2) was below')
      where
        low_rows : (v : ℕ) → v < n → level_within (has? 2 e) n (suc r) v < suc r
        low_rows v h =
            let hv : v < 128 = omega arith in
            ⊎_elim (λ l. l) (λ l. absurd (let g = (grows v hv).1 (h, l) in let y = pair_none a b v z hv in omega arith))
            (lt-or-le (level_within (has? 2 e) n (suc r) v) (suc r))

        last-rows : (v : ℕ) → v < n → level (has? 2 e) n v < suc r
        last-rows v h = (below_last (has? 2 e) n (suc r) (suc r) v (omega arith) (omega arith)).0 (low_rows v h)

        highest : r < levels_used (has? 2 e) n
        highest =
            let v = o.alive in
            let g = (o.growing v.0 v.1).0 v.2 in
            let k = above_each n (λ x. true) (level (has? 2 e) n) v.0 g.0 refl in
            let l = g.1 in
            ⊎_elim
            (λ y. absurd (let w = settled (has? 2 e) n r 128 v.0 (omega arith) (inl y) in omega arith))
            (λ y. omega arith)
            (lt-or-le (level (has? 2 e) n v.0) r)

        pub round-over : Laid e n (r + 1) places s'' was below'
        round-over = record {
          cyclic = λ y. absurd (omega arith);
          acyclic = λ y. no_cycle e n inside (λ v h. let l = last-rows v h in omega arith);
          used = λ y. let k = highest in let l = above-le n (λ v. true) (level (has? 2 e) n) (suc r) (λ v h t. last-rows v h) in
              omega arith;
          rule = λ y v h. next-rule v h (low_rows v h) ∙ sym (settled (has? 2 e) n (suc r) 128 v (omega arith) (inr (low_rows v h)));
          prefixes = λ y. record {
            few = omega arith;
            members = λ k v hk hv.
                let old = next_sets k v (omega arith) hv in
                let f = below_last (has? 2 e) n (suc r) k v (omega arith) (omega arith) in
                ((λ i. let x = old.0 i in (x.0, f.0 x.1)), λ i. old.1 (i.0, f.1 i.1));
            all = λ v h. let l = last-rows v h in omega arith;
          };
          sets_past = λ _. sets_past;
          refused = λ y. absurd (omega arith);
          rest = next-rest;
        }

-- the vertices that still grow have their masks in a table of 2 n
pub round_long : (e : List ℕ) (n r low high : ℕ) (places s below : List ℕ) → Round e n r low high places s below → 2 * n ≤ length e
    → Long 2 e low 0 × Long 2 e high 64
round_long e n r low high places s below o h = long_below 2 e n low high h (λ v hv i. ((o.growing v hv).0 i).0)

-- after n rounds some still grow: a vertex reaches itself
module _ (e : List ℕ) (n low high : ℕ) (places s was below : List ℕ) (inside : Inside e n) (o : Round e n n low high places s below)
    (sets_past : KeptFrom (2 * n + 2) was below) where
  self : ℕ → Bool
  self u = reaches? (arc? e) n u u

  order : some n self ≡ false → Order (has? 2 e) (reaches? (arc? e) n) n
  unfolding has? self
  order none =
      let small = inside.small in
      record {
        edges = λ u v hu hv i. (reached_decided e n inside u v).0 (one (omega arith, omega arith, eqb-true _ _ i));
        trans =
            λ u v x hu hv hx i j. (reached_decided e n inside u x).0
            (reaches_trans ((reached_decided e n inside u v).1 i) ((reached_decided e n inside v x).1 j));
        irrefl = λ u hu i. true≢false (sym (some_found n self u hu i) ∙ none);
      }

  pub round-refused : Laid e n 0 places s was below
  unfolding self
  round-refused = record {
    cyclic = λ y. ⊎_elim
        (λ t. let u = some_which n self t in (u.0, u.1, (reached_decided e n inside u.0 u.0).1 u.2))
        (λ f. absurd (contra f))
        (true_or_false (some n self));
    acyclic = λ y. absurd (y refl);
    used = λ y. absurd (y refl);
    rule = λ y. absurd (y refl);
    prefixes = λ y. absurd (y refl);
    sets_past = λ y. absurd (y refl);
    refused = λ _. record {
      sets = o.sets;
      past = sets_past;
      settled = o.rule;
      others = λ k v h out. others k v h out (ℕ_discrete k 2) (lt-or-le v n);
    };
    rest = o.rest;
  }
    where
      others : (k v : ℕ) → k < 4 → (k ≡ 2 → v < n → n ≤ level_within (has? 2 e) n n v) → Dec (k ≡ 2) → (v < n) ⊎ (n ≤ v)
          → quad k s v ≡ quad k places v
      others k v h out (yes q) (inl l) = subst (λ (x : ℕ). quad x s v ≡ quad x places v) (sym q) (o.still v l (out q l))
      others k v h out (yes q) (inr g) = o.rest k v h (λ _. g)
      others k v h out (no d) w = o.rest k v h (λ q. absurd (d q))

      contra : some n self ≡ false → ⊥
      contra f =
          let v = o.alive in
          let g = (o.growing v.0 v.1).0 v.2 in
          let small = inside.small in
          let l = levels_below (has? 2 e) (reaches? (arc? e) n) n (order f) small v.0 g.0 in
          let w = settled (has? 2 e) n n 128 v.0 small (inl l) in
          let k = g.1 in
          omega arith
