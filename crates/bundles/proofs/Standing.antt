-- The state stands for the bundles made so far: at the start, after a bundle, and at the end. Assumes nothing.
use Rattle.counting.proofs.Prelude.{◌≡◌, refl, sym, ap, ap₂, ◌∙◌, ◌≢◌, ◌⊎◌, inl, inr, ⊎_elim, Bool, true, false, true≢false, not, ◌&&◌}
use Rattle.counting.proofs.Prelude.{List, [], ◌∷◌, ◌++◌, ℕ, zero, suc, ◌+◌, ◌*◌, ◌≤◌, ◌<◌, min, max, arith, eqb, ltb, length, get_or, set}
use Rattle.counting.proofs.Prelude.{length-set, length-append, get_or-append, get_or-eq_default, eq-eqb, ne_eqb, lt-ltb, ltb-true}
use native.Mathlib.Decide.{ℕ_discrete}
use lib.Seq.{get_or-set_same, get_or-set_other, get_or-append_seam}
use Rattle.specification.specs.Count.{indicator, count}
use Rattle.specification.specs.Sets.{member, member?}
use Rattle.specification.specs.Bundles.{Bundle, gathers, taken, along, waits, waits_at, lowest, highest, made, empty}
use Rattle.counting.specs.Quads.{quad}
use Rattle.counting.proofs.Truth.{true_or_false, lt-or-le, and_elim}
use Rattle.counting.proofs.Falsity.{not-true}
use Rattle.counting.proofs.Sums.{sum_ext, sum_less}
use Rattle.counting.proofs.Classes.{sum_term}
use Rattle.counting.proofs.Quads.{quad-same, quad_other, quad_zero}
use Rattle.masks.proofs.Sets.{member-lt}
use Rattle.reach.proofs.Closures.{test_value}
use Rattle.bundles.specs.Promise.{number_from, Listed}
use Rattle.bundles.specs.Steps.{
  end_of,
  Sets,
  side_in,
  Filled,
  Loaded,
  open_at,
  State,
  state,
  AsLong,
  Room,
  stored,
  Added,
  part,
  Holds,
  Stands,
  Blank,
}
use Rattle.counting.proofs.Booleans.{and_no, and_yes}
use Rattle.bundles.proofs.Ends.{end_below, same_end, other_end}
use Rattle.counting.proofs.Choosing.{choose_yes, choose_no}
use Rattle.bundles.proofs.Numbers.{gathered, number_none, number-kept, number-last, open_end}
use Rattle.bundles.proofs.Extremes.{joined_ext, lowest_with, lowest-cut, highest_with, highest-cut}
use Rattle.bundles.proofs.Waiting.{Of, of_here, of_there, waits-ends, turned, waiting_open, wait_gone, wait_kept, wait_fewer}

-- ---- the edges in the masks, m an end

module _ (m n : ℕ) (small : n ≤ m * 64) (sets : List ℕ) where
  -- an edge of the masks is between two of n vertices
  pub side-inside : (u v : ℕ) → side_in m n sets u v ≡ true → (u < n) × (v < n)
  unfolding side_in
  side-inside u v e =
      let a = and_elim (ltb u n && ltb v n) (member? sets (m * end_of false u) v) e in
      let b = and_elim (ltb u n) (ltb v n) a.0 in
      (ltb-true u n b.0, ltb-true v n b.1)

  module _ (side : ℕ → ℕ → Bool) (inside : (u v : ℕ) → side u v ≡ true → (u < n) × (v < n)) (s : Sets m n side sets) where
    pub side_same : (u v : ℕ) → u < n → v < m * 64 → side_in m n sets u v ≡ side u v
    unfolding side_in
    side_same u v l h = ap (λ t. (ltb u n && ltb v n) && t) (s.has false u v l h) ∙ go (side u v) refl
      where
        go : (t : Bool) → side u v ≡ t → ((ltb u n && ltb v n) && side u v) ≡ side u v
        go true e = let i = inside u v e in ap₂ (λ a b. (a && b) && side u v) (lt-ltb u n i.0) (lt-ltb v n i.1)
        go false e = ap (λ t. (ltb u n && ltb v n) && t) e ∙ and_no (ltb u n && ltb v n) ∙ sym e

    -- an edge that neither has
    both_none : (u v : ℕ) → n ≤ u → side_in m n sets u v ≡ side u v
    both_none u v l =
        not-true (side_in m n sets u v) (λ e. let i = (side-inside u v e).0 in omega arith)
        ∙ sym (not-true (side u v) (λ e. let i = (inside u v e).0 in omega arith))

    pub sets_own : Sets m n (side_in m n sets) sets
    sets_own = record { size = s.size; has = has }
      where
        has : (d : Bool) (v w : ℕ) → v < n → w < m * 64 → member? sets (m * end_of d v) w ≡ along d (side_in m n sets) v w
        has true v w l h =
            s.has true v w l h ∙ sym (⊎_elim (λ k. side_same w v k (omega arith)) (both_none w v) (lt-or-le w n))
        has false v w l h = s.has false v w l h ∙ sym (side_same v w l h)

-- ---- at the start

-- a list of zeros is 0 past its end too
blank_value : (l : List ℕ) → Filled 0 (length l) l → (b : ℕ) → get_or l b 0 ≡ 0
blank_value l f b = ⊎_elim (λ h. f.value b h) (λ h. get_or-eq_default l 0 h) (lt-or-le b (length l))

part-empty : (k : ℕ) → part k empty ≡ 0
part-empty zero = refl
part-empty (suc zero) = refl
part-empty (suc (suc zero)) = refl
part-empty (suc (suc (suc k))) = refl

blank_entry : (l : List ℕ) → Filled 0 (length l) l → (k b : ℕ) → quad k l b ≡ part k empty
blank_entry l f k b = quad_zero l (blank_value l f) k b ∙ sym (part-empty k)

module _ (m n : ℕ) (small : n ≤ m * 64) (side : ℕ → ℕ → Bool) (inside : (u v : ℕ) → side u v ≡ true → (u < n) × (v < n)) where
  along-inside : (d : Bool) (v w : ℕ) → n ≤ w → along d side v w ≡ false
  along-inside true v w l = not-true (side w v) (λ e. let i = inside w v e in omega arith)
  along-inside false v w l = not-true (side v w) (λ e. let i = inside v w e in omega arith)

  nothing-taken : (d : Bool) (v w : ℕ) → along d side v w ≡ waits_at side [] d v w
  unfolding waits_at waits taken
  nothing-taken true v w = sym (and_yes (side w v))
  nothing-taken false v w = sym (and_yes (side v w))

  -- no bundle yet
  pub stands_none : (sets load spans number : List ℕ) → Sets m n side sets → Loaded m n sets load → Blank n spans number
      → Stands n side [] (state 0 spans number load)
  unfolding number_from count
  stands_none sets load spans number s l b = record {
    holds = record {
      sized = record { spans = b.entry.0; number = b.number.0; load = l.size };
      counted = refl;
      entry = λ k i h. blank_entry spans b.entry.1 k i;
      number = λ d v h. b.number.1.value (end_of d v) (let q = end_below d n v h in let r = b.number.0 in omega arith);
      past = λ e h k. b.number.1.value e k;
    };
    load = λ d v h. l.value d v h
        ∙ sum_ext (m * 64) (member sets (m * end_of d v)) (λ w. indicator (along d side v w))
        (λ w k. test_value (member sets (m * end_of d v) w) (member-lt sets (m * end_of d v) w) ∙ ap indicator (s.has d v w h k))
        ∙ sum_less n (m * 64) (λ w. indicator (along d side v w)) small (λ w a b. ap indicator (along-inside d v w a))
        ∙ sum_ext n (λ w. indicator (along d side v w)) (λ w. indicator (waits_at side [] d v w))
        (λ w k. ap indicator (nothing-taken d v w));
  }

-- ---- after a bundle

module _ (bs : List Bundle) (was : List ℕ) (x : Bundle) (room : 4 * length bs + 4 ≤ length was)
    (h : (k b : ℕ) → k < 4 → quad k was b ≡ part k (get_or bs b empty)) where
  abbrev one : List ℕ
  one = set was (4 * length bs) x.channel

  abbrev two : List ℕ
  two = set one (4 * length bs + 1) x.first

  abbrev three : List ℕ
  three = set two (4 * length bs + 2) x.last

  abbrev more : List Bundle
  more = bs ++ (x ∷ [])

  entry_other : (k b : ℕ) → k < 4 → b ≢ length bs → quad k three b ≡ quad k was b
  entry_other k b l ne =
      quad_other two b k (length bs) 2 x.last l (omega arith) (λ e q. ne e)
      ∙ quad_other one b k (length bs) 1 x.first l (omega arith) (λ e q. ne e)
      ∙ quad_other was b k (length bs) 0 x.channel l (omega arith) (λ e q. ne e)

  entry_here : (k : ℕ) → k < 4 → quad k three (length bs) ≡ part k x
  entry_here zero l =
      quad_other two (length bs) 0 (length bs) 2 x.last l (omega arith) (λ e q. omega arith)
      ∙ quad_other one (length bs) 0 (length bs) 1 x.first l (omega arith) (λ e q. omega arith)
      ∙ quad-same was (length bs) 0 x.channel (omega arith)
  entry_here (suc zero) l =
      quad_other two (length bs) 1 (length bs) 2 x.last l (omega arith) (λ e q. omega arith)
      ∙ quad-same one (length bs) 1 x.first (simp length-set (omega arith))
  entry_here (suc (suc zero)) l = quad-same two (length bs) 2 x.last (simp length-set (omega arith))
  entry_here (suc (suc (suc zero))) l =
      quad_other two (length bs) 3 (length bs) 2 x.last l (omega arith) (λ e q. omega arith)
      ∙ quad_other one (length bs) 3 (length bs) 1 x.first l (omega arith) (λ e q. omega arith)
      ∙ quad_other was (length bs) 3 (length bs) 0 x.channel l (omega arith) (λ e q. omega arith)
      ∙ h 3 (length bs) l
  entry_here (suc (suc (suc (suc k)))) l = absurd (omega arith)

  -- the entries with the new bundle's
  entry_more : (k b : ℕ) → k < 4 → quad k three b ≡ part k (get_or more b empty)
  entry_more k b l = ⊎_elim
      (λ i. entry_other k b l (λ e. omega arith) ∙ h k b l ∙ ap (part k) (sym (get_or-append bs (x ∷ []) empty b i)))
      (λ i. past (ℕ_discrete b (length bs)) i)
      (lt-or-le b (length bs))
    where
      past : Dec (b ≡ length bs) → length bs ≤ b → quad k three b ≡ part k (get_or more b empty)
      past (yes q) i = rw q (entry_here k l ∙ ap (part k) (sym (get_or-append_seam bs x [] empty)))
      past (no q) i =
          entry_other k b l q ∙ h k b l
          ∙ ap (part k) (get_or-eq_default bs empty i ∙ sym
          (get_or-eq_default more empty (let e = length-append bs (x ∷ []) in omega arith)))

pub added_long : (m : ℕ) (sets places : List ℕ) (c : ℕ) (d : Bool) (v : ℕ) (s r : State) → Added m sets places c d v s r → AsLong s r
added_long m sets places c d v s r a = record {
  spans = ap length a.spans ∙ simp length-set;
  number = ap length a.number ∙ length-set s.number (end_of d v) _;
  load = a.size;
}

-- an end that the new bundle is not of keeps its number
number_same : (bs : List Bundle) (b : Bundle) (d : Bool) (v : ℕ) → gathers b d v ≡ false
    → number_from 0 (bs ++ (b ∷ [])) d v ≡ number_from 0 bs d v
number_same bs b d v e =
    ⊎_elim
    (λ t. number-kept 0 bs (b ∷ []) d v t)
    (λ t. number-last 0 bs b d v t ∙ choose_no (gathers b d v) (λ _. 0 + length bs) (λ _. 256) e ∙ sym (number_none 0 bs d v t))
    (true_or_false (gathered bs d v))

same_or_not : (d t : Bool) → (t ≡ d) ⊎ (t ≡ not d)
same_or_not true true = inl refl
same_or_not true false = inr refl
same_or_not false true = inr refl
same_or_not false false = inl refl

-- by m masks an end; the bundles' numbers are below 256, which stands for none
module _ (m n : ℕ) (small : n ≤ m * 64) (short : 2 * n ≤ 256) (side : ℕ → ℕ → Bool)
    (inside : (u v : ℕ) → side u v ≡ true → (u < n) × (v < n))
    (sets places : List ℕ) (s : Sets m n side sets) (bs : List Bundle) (st : State) (o : Stands n side bs st)
    (d : Bool) (v : ℕ) (below : v < n) (few : length bs < 2 * n) (some : 0 < count n (waits_at side bs d v)) where
  waits-inside : (w : ℕ) → n ≤ w → waits_at side bs d v w ≡ false
  waits-inside w l =
      waits-ends side bs d v w
      ∙ ap (λ t. t && (not (gathered bs d v) && not (gathered bs (not d) w))) (along-inside m n small side inside d v w l)

  -- the code's test of an edge is the rule's
  open_waits : (w : ℕ) → w < m * 64 → open_at m sets st.number d v w ≡ waits_at side bs d v w
  unfolding open_at
  open_waits w l =
      ⊎_elim
      (λ k. ap₂ (λ a b. a && b) (s.has d v w below l)
      (ap (λ (x : ℕ). eqb x 256) (o.holds.number (not d) w k) ∙ open_end bs (not d) w (omega arith))
      ∙ ap (λ t. along d side v w && (t && not (gathered bs (not d) w))) (sym (ap not (waiting_open side bs d v n some)))
      ∙ sym (waits-ends side bs d v w))
      (λ k. ap (λ t. t && eqb (get_or st.number (end_of (not d) w) 0) 256)
      (s.has d v w below l ∙ along-inside m n small side inside d v w k) ∙ sym (waits-inside w k))
      (lt-or-le w n)

  pub stands_room : 4 * n ≤ length places → Room m sets places d v st
  unfolding count
  stands_room h = record {
    n = n;
    small = small;
    sized = o.holds.sized;
    count = (let e = o.holds.counted in omega arith);
    vertex = below;
    masks = s.size;
    long = h;
    inside = λ w l t. ⊎_elim (λ k. k)
        (λ k. absurd (true≢false (sym t ∙ s.has d v w below l ∙ along-inside m n small side inside d v w k))) (lt-or-le w n);
    counted = λ w l t. ⊎_elim
        (λ k. let e = o.load (not d) w k in
        let i = ap indicator (sym (turned side bs d w v) ∙ sym (open_waits w l) ∙ t) in
        let p = sum_term n (λ x. indicator (waits_at side bs (not d) w x)) v below in
        omega arith)
        (λ k. absurd (true≢false (sym t ∙ open_waits w l ∙ waits-inside w k)))
        (lt-or-le w n);
  }

  module _ (channel position : ℕ → ℕ) (c : ℕ) (r : State) (a : Added m sets places c d v st r) where
    abbrev b : Bundle
    b = made n side channel position (quad 2 places) c bs d v

    of : Of b d v
    unfolding made
    of = record { direction = refl; vertex = refl }

    first_is : min (lowest (m * 64) (open_at m sets st.number d v) (quad 2 places)) (quad 2 places v) ≡ b.first
    unfolding made
    first_is =
        ap (λ (x : ℕ). min x (quad 2 places v))
        (joined_ext min 255 (m * 64) (open_at m sets st.number d v) (waits_at side bs d v) (quad 2 places) (quad 2 places) open_waits
        (λ w l. refl)
        ∙ lowest-cut n (m * 64) (waits_at side bs d v) (quad 2 places) small (λ w l h. waits-inside w l))
        ∙ sym (lowest_with n (waits_at side bs d v) (quad 2 places) v below)

    last_is : max (highest (m * 64) (open_at m sets st.number d v) (quad 2 places)) (quad 2 places v) ≡ b.last
    unfolding made
    last_is =
        ap (λ (x : ℕ). max x (quad 2 places v))
        (joined_ext max 0 (m * 64) (open_at m sets st.number d v) (waits_at side bs d v) (quad 2 places) (quad 2 places) open_waits
        (λ w l. refl)
        ∙ highest-cut n (m * 64) (waits_at side bs d v) (quad 2 places) small (λ w l h. waits-inside w l))
        ∙ sym (highest_with n (waits_at side bs d v) (quad 2 places) v below)

    channel_is : b.channel ≡ c
    unfolding made
    channel_is = refl

    entry : (k i : ℕ) → k < 4 → quad k r.spans i ≡ part k (get_or (bs ++ (b ∷ [])) i empty)
    entry k i l =
        ap (λ (x : List ℕ). quad k x i) stores
        ∙ entry_more bs st.spans b (let e = o.holds.sized.spans in omega arith) o.holds.entry k i l
      where
        stores : r.spans ≡ stored st.spans (length bs) b.channel b.first b.last
        stores = cc (a.spans, o.holds.counted, first_is, last_is, channel_is)

    number : (t : Bool) (u : ℕ) → u < n → get_or r.number (end_of t u) 0 ≡ number_from 0 (bs ++ (b ∷ [])) t u
    number t u l = ap (λ (x : List ℕ). get_or x (end_of t u) 0) a.number
        ∙ ⊎_elim (λ q. same t q (ℕ_discrete u v)) (λ q. other t q) (same_or_not d t)
      where
        kept : (t : Bool) → gathers b t u ≡ false → end_of t u ≢ end_of d v
            → get_or (set st.number (end_of d v) st.count) (end_of t u) 0 ≡ number_from 0 (bs ++ (b ∷ [])) t u
        kept t g ne = get_or-set_other st.number (end_of d v) (end_of t u) st.count 0 ne ∙ o.holds.number t u l
            ∙ sym (number_same bs b t u g)

        same : (t : Bool) → t ≡ d → Dec (u ≡ v) → get_or (set st.number (end_of d v) st.count) (end_of t u) 0 ≡ number_from 0
            (bs ++ (b ∷ [])) t u
        same t q (yes e) =
            rw (q, e)
            (get_or-set_same st.number (end_of d v) st.count 0
            (let e = o.holds.sized.number in let q = end_below d n v below in omega arith)
            ∙ o.holds.counted
            ∙ sym (number-last 0 bs b d v (waiting_open side bs d v n some)
            ∙ choose_yes (gathers b d v) (λ _. 0 + length bs) (λ _. 256) (of_here b d v v of ∙ eq-eqb v v refl)
            ∙ (let z : 0 + length bs ≡ length bs = omega arith in z)))
        same t q (no e) = rw q (kept d (of_here b d v u of ∙ ne_eqb v u (λ z. e (sym z))) (λ z. e (same_end d u v z)))

        other : (t : Bool) → t ≡ not d → get_or (set st.number (end_of d v) st.count) (end_of t u) 0 ≡ number_from 0 (bs ++ (b ∷ [])) t u
        other t q = rw q (kept (not d) (of_there b d v u of) (λ z. other_end d v u (sym z)))

    load : (t : Bool) (u : ℕ) → u < n → get_or r.load (end_of t u) 0 ≡ count n (waits_at side (bs ++ (b ∷ [])) t u)
    load t u l = ⊎_elim (λ q. same t q (ℕ_discrete u v)) (λ q. other t q) (same_or_not d t)
      where
        same : (t : Bool) → t ≡ d → Dec (u ≡ v) → get_or r.load (end_of t u) 0 ≡ count n (waits_at side (bs ++ (b ∷ [])) t u)
        same t q (yes e) = rw (q, e) (a.gone ∙ sym (wait_gone side bs b d v of n))
        same t q (no e) = rw q (a.kept u e ∙ o.load d u l ∙ sym (wait_kept side bs b d v of n u e))

        other : (t : Bool) → t ≡ not d → get_or r.load (end_of t u) 0 ≡ count n (waits_at side (bs ++ (b ∷ [])) t u)
        other t q =
            rw q
            (let x = a.fewer u (omega arith) in
            let y = o.load (not d) u l in
            let z = wait_fewer side bs b d v of n u below in
            let i = ap indicator (open_waits u (omega arith)) in
            omega arith)

    past : (e : ℕ) → 2 * n ≤ e → e < length r.number → get_or r.number e 0 ≡ 256
    past e h k =
        ap (λ (x : List ℕ). get_or x e 0) a.number
        ∙ get_or-set_other st.number (end_of d v) e st.count 0 (λ z. let q = end_below d n v below in omega arith)
        ∙ o.holds.past e h (let q = (added_long m sets places c d v st r a).number in omega arith)

    pub stands_more : Stands n side (bs ++ (b ∷ [])) r
    stands_more =
        let h = o.holds in
        let l = added_long m sets places c d v st r a in
        record {
          holds = record {
            sized = record {
              spans = let x = l.spans in let y = h.sized.spans in omega arith;
              number = let x = l.number in let y = h.sized.number in omega arith;
              load = let x = l.load in let y = h.sized.load in omega arith;
            };
            counted = (let e = length-append bs (b ∷ []) in let p = a.count in let q = h.counted in omega arith);
            entry = entry;
            number = number;
            past = past;
          };
          load = load;
        }

-- ---- at the end

pub holds-listed : (n : ℕ) (bs : List Bundle) (s : State) → length bs ≤ 2 * n → Holds n bs s
    → Listed n bs s.count s.spans s.number
holds-listed n bs s few h = record {
  counted = h.counted;
  few = few;
  channel = λ b. h.entry 0 b (omega arith);
  first = λ b. h.entry 1 b (omega arith);
  last = λ b. h.entry 2 b (omega arith);
  into = h.number true;
  out_of = h.number false;
  past = h.past;
}

-- no bundle at all
pub nothing-listed : (n : ℕ) (spans number : List ℕ) → Blank n spans number → Listed n [] 0 spans number
unfolding number_from
nothing-listed n spans number b = record {
  counted = refl;
  few = omega arith;
  channel = blank_entry spans b.entry.1 0;
  first = blank_entry spans b.entry.1 1;
  last = blank_entry spans b.entry.1 2;
  into = λ v l. b.number.1.value (2 * v) (let r = b.number.0 in omega arith);
  out_of = λ v l. b.number.1.value (2 * v + 1) (let r = b.number.0 in omega arith);
  past = λ e h k. b.number.1.value e k;
}

pub nothing_fourth : (n : ℕ) (spans number : List ℕ) → Blank n spans number → (b : ℕ) → quad 3 spans b ≡ 0
nothing_fourth n spans number b = quad_zero spans (blank_value spans b.entry.1) 3
