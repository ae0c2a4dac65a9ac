-- The masks of each channel's vertices: how they are filled, and which edges out of a vertex they leave; and how a loop finds that there is
-- none to bundle. Assumes nothing.
use Rattle.counting.proofs.Prelude.{◌≡◌, sym, ap, ◌∙◌, subst, ⊎_elim, Bool, true, false, not, ◌&&◌, List, ℕ, ◌+◌, ◌-◌, ◌*◌, ◌/◌, ◌%◌, ◌^◌}
use Rattle.counting.proofs.Prelude.{◌≤◌, ◌<◌, min, arith, eqb, ltb, get_or, set, replicate, length-replicate, eq-eqb, eqb-true, lt-ltb}
use Rattle.counting.proofs.Prelude.{le-ltb, ltb-true}
use native.Mathlib.Nat.{not-suc-le-zero, mul-le-mul_left}
use native.Mathlib.Decide.{ℕ_discrete}
use lib.Bits.{bit_and, bit_or}
use lib.Pow.{pow_pos}
use Rattle.counting.specs.Quads.{quad}
use Rattle.counting.proofs.Truth.{true_or_false, lt-or-le, and_intro, and_elim, same_truth}
use Rattle.counting.proofs.Booleans.{and_no}
use Rattle.specification.specs.Sets.{bit, member, member?, at, inserted}
use Rattle.specification.specs.Bundles.{adjacent?, apart?}
use Rattle.masks.proofs.Bits.{bit-lt, bit_of_zero, bit-and, one_shl, bit_high, bit_not}
use Rattle.masks.proofs.Sets.{member-lt}
use Rattle.masks.proofs.Tables.{at_zeros, Put, put_law}
use Rattle.masks.proofs.Members.{length_inserted}
use Rattle.bundles.specs.Sides.{table_side?}
use Rattle.bundles.specs.Steps.{FirstBits, Owned, Part, low_side}

-- a bit is set in a mask as the code does it
pub stored : (s : List ℕ) (first v : ℕ) → set s (first + v / 64)
    (bit_or (get_or s (first + v / 64) 0) ((1 * 2 ^ (v % 64)) % 2 ^ 64)) ≡ inserted s first v
unfolding inserted
stored s first v = ap (λ (x : ℕ). set s (first + v / 64) (bit_or (get_or s (first + v / 64) 0) x)) (one_shl (v % 64) (omega arith))

-- of k sets with m masks each, mask i of set e is one
pub mask_below : (m e k i : ℕ) → e < k → i < m → m * e + i < m * k
mask_below m e k i h l = omega (arith, mul-le-mul_left m h)

-- ---- the table is filled, with m masks a channel

pub owned_none : (m channels : ℕ) (places : List ℕ) (k : ℕ) → m * channels ≤ k → Owned m channels places 0 (replicate k 0)
unfolding at
owned_none m channels places k room = record {
  size = let e = length-replicate {A = ℕ} k 0 in omega arith;
  only = λ c v h l e. absurd (let z = at_zeros m k c v in omega arith);
  all = λ c v h l. absurd (not-suc-le-zero l);
}

module _ (m channels : ℕ) (places own : List ℕ) (j : ℕ) (o : Owned m channels places j own) where
  -- the channel of j is not one of these
  pub owned_skip : channels ≤ quad 0 places j → Owned m channels places (j + 1) own
  owned_skip high = record {
    size = o.size;
    only = λ c v h l e. let p = o.only c v h l e in (omega arith, p.1);
    all = λ c v h l e. ⊎_elim
        (λ k. o.all c v h k e)
        (λ k. absurd (let q = ap (quad 0 places) (let z : v ≡ j = omega arith in z) in omega arith))
        (lt-or-le v j);
  }

  -- j is put into the masks of its channel
  pub owned_put : j < m * 64 → quad 0 places j < channels → Owned m channels places (j + 1) (inserted own (m * quad 0 places j) j)
  unfolding at
  owned_put low small = record {
    size = let e = length_inserted own (m * quad 0 places j) j in let h = o.size in omega arith;
    only = λ c v h l e. only c v h l e (ℕ_discrete v j) (ℕ_discrete c (quad 0 places j));
    all = λ c v h l e. ⊎_elim
        (λ k. put.other c v (omega arith) (λ p q. omega arith) ∙ o.all c v h k e)
        (λ k. last c v (let z : v ≡ j = omega arith in z) e)
        (lt-or-le v j);
  }
    where
      put : Put m own (quad 0 places j) j (inserted own (m * quad 0 places j) j)
      put = put_law m own (quad 0 places j) j low
          (let a = mask_below m (quad 0 places j) channels (j / 64) small (omega arith) in let h = o.size in omega arith)

      last : (c v : ℕ) → v ≡ j → quad 0 places v ≡ c → member (inserted own (m * quad 0 places j) j) (m * c) v ≡ 1
      last c v z e =
          let q = ap (quad 0 places) z in
          let k : c ≡ quad 0 places j = omega arith in
          ap (λ (x : ℕ). member (inserted own (m * quad 0 places j) j) (m * x) v) k ∙ ap
          (member (inserted own (m * quad 0 places j) j) (m * quad 0 places j)) z ∙ put.here

      only : (c v : ℕ) → c < channels → v < m * 64 → member (inserted own (m * quad 0 places j) j) (m * c) v ≡ 1 → Dec (v ≡ j) → Dec
          (c ≡ quad 0 places j) → (v < j + 1) × (quad 0 places v ≡ c)
      only c v h l e (yes p) (yes q) = (omega arith, ap (quad 0 places) p ∙ sym q)
      only c v h l e (yes p) (no q) = absurd (let k = (o.only c v h l (sym (put.other c v l (λ x y. q x)) ∙ e)).0 in omega arith)
      only c v h l e (no p) q = let k = o.only c v h l (sym (put.other c v l (λ x y. p y)) ∙ e) in (omega arith, k.1)

  -- the same as the code's loop takes it: k is the number of its channel
  pub owned_more : (k : ℕ) → j < m * 64 → k ≡ quad 0 places j → k < channels
      → Owned m channels places (j + 1) (set own (m * k + j / 64) (bit_or (get_or own (m * k + j / 64) 0) ((1 * 2 ^ (j % 64)) % 2 ^ 64)))
  owned_more k low e small =
      subst (Owned m channels places (j + 1)) (sym (stored own (m * k) j ∙ ap (λ (x : ℕ). inserted own (m * x) j) e))
      (owned_put low (omega arith))

-- ---- a channel's masks

-- a member of mask i
pub as_bit : (s : List ℕ) (first i j : ℕ) → j < 64 → member s first (64 * i + j) ≡ bit (get_or s (first + i) 0) j
unfolding member
as_bit s first i j l =
    let x : (64 * i + j) / 64 ≡ i = omega arith in
    let y : (64 * i + j) % 64 ≡ j = omega arith in
    ap (λ (k : ℕ). bit (get_or s (first + k) 0) ((64 * i + j) % 64)) x ∙ ap (bit (get_or s (first + i) 0)) y

module _ (m n channels : ℕ) (places own : List ℕ) (o : Owned m channels places n own) (c : ℕ) (low : c < channels) where
  pub owned_part : (i mask base : ℕ) → i < m → mask ≡ get_or own (m * c + i) 0 → base ≡ 64 * i → Part n places c mask base
  owned_part i mask base hi e z =
      subst (Part n places c mask) (sym z)
      (record {
        only = λ j l x. o.only c (64 * i + j) low (omega arith) (here j l ∙ x);
        all = λ j l h q. sym (here j l) ∙ o.all c (64 * i + j) low h q;
      })
    where
      here : (j : ℕ) → j < 64 → member own (m * c) (64 * i + j) ≡ bit mask j
      here j l = as_bit own (m * c) i j l ∙ ap (λ (x : ℕ). bit x j) (sym e)

  -- the edges out of u to its channel's vertices, without those next to it; the table of edges has two masks a vertex
  module _ (edges : List ℕ) (u : ℕ) (below : u < n) (c-is : c ≡ quad 0 places u) (i mask base : ℕ) (hi : i < m)
      (mask_is : mask ≡ bit_and (get_or edges (2 * u + i) 0) (get_or own (m * c + i) 0)) (base-is : base ≡ 64 * i) where
    abbrev far : ℕ → Bool
    far j = not (adjacent? (quad 1 places u) (quad 1 places (base + j)))

    both : (j : ℕ) → j < 64 → bit mask j ≡ min (member edges (2 * u) (base + j)) (member own (m * c) (base + j))
    both j l =
        ap (λ (x : ℕ). bit x j) mask_is
        ∙ bit-and (get_or edges (2 * u + i) 0) (get_or own (m * c + i) 0) j
        ∙ sym (ap (λ (b : ℕ). min (member edges (2 * u) (b + j)) (member own (m * c) (b + j))) base-is ∙ ap
        (λ (x : ℕ). min x (member own (m * c) (64 * i + j))) (as_bit edges (2 * u) i j l) ∙ ap
        (min (bit (get_or edges (2 * u + i) 0) j)) (as_bit own (m * c) i j l))

    pub masked-heads : (j : ℕ) → j < 64 → bit mask j ≡ 1 → base + j < n
    masked-heads j l t =
        let b = both j l in
        let x = member-lt edges (2 * u) (base + j) in
        let y = member-lt own (m * c) (base + j) in
        (o.only c (base + j) low (omega arith) (omega arith)).0

    pub masked : (j : ℕ) → j < 64 → low_side n channels edges places u (base + j) ≡ (eqb (bit mask j) 1 && far j)
    unfolding low_side table_side? apart?
    masked j l = same_truth _ (eqb (bit mask j) 1 && far j) there back
      where
        there : low_side n channels edges places u (base + j) ≡ true → (eqb (bit mask j) 1 && far j) ≡ true
        there t =
            let p = (and_elim (member? edges (2 * u) (base + j) &&
            ((ltb u n && ltb (base + j) n) && (eqb (quad 0 places u) (quad 0 places (base + j)) && far j)))
            (ltb (quad 0 places u) channels) t).0 in
            let q = and_elim (member? edges (2 * u) (base + j)) ((ltb u n && ltb (base + j) n) &&
            (eqb (quad 0 places u) (quad 0 places (base + j)) && far j)) p in
            let r = and_elim (ltb u n && ltb (base + j) n) (eqb (quad 0 places u) (quad 0 places (base + j)) && far j) q.1 in
            let s = and_elim (eqb (quad 0 places u) (quad 0 places (base + j))) (far j) r.1 in
            let h = ltb-true (base + j) n (and_elim (ltb u n) (ltb (base + j) n) r.0).1 in
            let e = eqb-true (quad 0 places u) (quad 0 places (base + j)) s.0 in
            let f = eqb-true (member edges (2 * u) (base + j)) 1 q.0 in
            let k = o.all c (base + j) low h (omega arith) in
            let b = both j l in
            and_intro (eqb (bit mask j) 1) (far j) (eq-eqb (bit mask j) 1 (omega arith)) s.1

        back : (eqb (bit mask j) 1 && far j) ≡ true → low_side n channels edges places u (base + j) ≡ true
        back t =
            let p = and_elim (eqb (bit mask j) 1) (far j) t in
            let b = both j l in
            let f = eqb-true (bit mask j) 1 p.0 in
            let x = member-lt edges (2 * u) (base + j) in
            let y = member-lt own (m * c) (base + j) in
            let w = o.only c (base + j) low (omega arith) (omega arith) in
            let w1 = w.1 in
            and_intro _ (ltb (quad 0 places u) channels)
            (and_intro (member? edges (2 * u) (base + j)) _ (eq-eqb (member edges (2 * u) (base + j)) 1 (omega arith))
            (and_intro (ltb u n && ltb (base + j) n) _
            (and_intro (ltb u n) (ltb (base + j) n) (lt-ltb u n below) (lt-ltb (base + j) n w.0))
            (and_intro (eqb (quad 0 places u) (quad 0 places (base + j))) (far j)
            (eq-eqb (quad 0 places u) (quad 0 places (base + j)) (omega arith)) p.1)))
            (lt-ltb (quad 0 places u) channels (omega arith))

-- no edge out of u is bundled where its channel is not one of these
pub high-channel : (n channels : ℕ) (edges places : List ℕ) (u : ℕ) → channels ≤ quad 0 places u → (v : ℕ)
    → low_side n channels edges places u v ≡ false
unfolding low_side
high-channel n channels edges places u h v =
    ap (λ t. table_side? n edges (quad 0 places) (quad 1 places) u v && t) (le-ltb (quad 0 places u) channels h)
    ∙ and_no (table_side? n edges (quad 0 places) (quad 1 places) u v)

-- ---- no edge out of the vertices before u, as the loop that looks for one takes it

pub record NoSide (n : ℕ) (edges places : List ℕ) (u : ℕ) : Type 0 where
  pub none : (a v : ℕ) → a < u → v < n → table_side? n edges (quad 0 places) (quad 1 places) a v ≡ false

module _ (n : ℕ) (edges places : List ℕ) (u : ℕ) where
  -- v is of u's channel and not next to it
  abbrev far_from_u : ℕ → Bool
  far_from_u v = eqb (quad 0 places u) (quad 0 places v) && not (adjacent? (quad 1 places u) (quad 1 places v))

  -- where mask i has no such vertex, there is no edge into one of its 64
  no_side_mask : (i k mask ones : ℕ) → k ≡ n - 64 * i → mask ≡ bit_and (get_or edges (2 * u + i) 0) ones → FirstBits k ones
      → ((j : ℕ) → bit mask j ≡ 1 → far_from_u (64 * i + j) ≡ false)
      → (j : ℕ) → j < 64 → 64 * i + j < n → table_side? n edges (quad 0 places) (quad 1 places) u (64 * i + j) ≡ false
  unfolding table_side? apart?
  no_side_mask i k mask ones k-is e first h j l m =
      ⊎_elim
      (λ t. ap (λ s. member? edges (2 * u) (64 * i + j) && ((ltb u n && ltb (64 * i + j) n) && s)) (h j (has t))
      ∙ ap (λ s. member? edges (2 * u) (64 * i + j) && s) (and_no (ltb u n && ltb (64 * i + j) n))
      ∙ and_no (member? edges (2 * u) (64 * i + j)))
      (λ t. ap (λ s. s && ((ltb u n && ltb (64 * i + j) n) && far_from_u (64 * i + j))) t)
      (true_or_false (member? edges (2 * u) (64 * i + j)))
    where
      has : member? edges (2 * u) (64 * i + j) ≡ true → bit mask j ≡ 1
      has t =
          let a = sym (as_bit edges (2 * u) i j l) ∙ eqb-true _ 1 t in
          let b = first.all j l (omega arith) in
          let d = bit-and (get_or edges (2 * u + i) 0) ones j in
          ap (λ (m : ℕ). bit m j) e ∙ (let z : bit (bit_and (get_or edges (2 * u + i) 0) ones) j ≡ 1 = omega arith in z)

  -- nor out of u, where neither of its two masks has a vertex of its channel that is not next to it
  pub no_side-more : n ≤ 128 → NoSide n edges places u → (low high first second : ℕ)
      → low ≡ bit_and (get_or edges (2 * u + 0) 0) first → high ≡ bit_and (get_or edges (2 * u + 1) 0) second
      → FirstBits n first → FirstBits (n - 64) second → ((j : ℕ) → bit low j ≡ 1 → far_from_u (0 + j) ≡ false)
      → ((j : ℕ) → bit high j ≡ 1 → far_from_u (64 + j) ≡ false) → NoSide n edges places (u + 1)
  no_side-more small o low high first second a b x y f g = record {
    none = λ a v l m. ⊎_elim (λ k. o.none a v k m) (λ k. ap (λ (x : ℕ). side x v) (let e : a ≡ u = omega arith in e) ∙ out v m)
        (lt-or-le a u);
  }
    where
      side : ℕ → ℕ → Bool
      side x v = table_side? n edges (quad 0 places) (quad 1 places) x v

      out : (v : ℕ) → v < n → side u v ≡ false
      out v m = ⊎_elim
          (λ k. ap (side u) (let e : v ≡ 64 * 0 + v = omega arith in e) ∙ no_side_mask 0 n low first (omega arith) a x f v k (omega arith))
          (λ k. ap (side u) (let e : v ≡ 64 * 1 + (v - 64) = omega arith in e)
          ∙ no_side_mask 1 (n - 64) high second (omega arith) b y g (v - 64) (omega arith) (omega arith))
          (lt-or-le v 64)

-- ---- the first bits

-- a member of a mask that is cut to the first k
pub cut_below : (x k ones : ℕ) → FirstBits k ones → (j : ℕ) → j < 64 → bit (bit_and x ones) j ≡ 1 → j < k
cut_below x k ones first j l e =
    let d = bit-and x ones j in
    let a = bit-lt x j in
    let b = bit-lt ones j in
    first.only j l (omega arith)

pub first_of : (k mask : ℕ) → mask ≡ 2 ^ k - 1 → FirstBits k mask
first_of k mask e = record {
  only = λ j l t. ⊎_elim (λ m. m) (λ m. absurd (let z = bit_high k (2 ^ k - 1) j (let p = pow_pos k in omega arith) m in
      let q = ap (λ (x : ℕ). bit x j) e in omega arith)) (lt-or-le j k);
  all = λ j l m. ap (λ (x : ℕ). bit x j) (e ∙ (let q : 2 ^ k - 1 ≡ (2 ^ k - 1) - 0 = omega arith in q)) ∙ bit_not k 0 j (pow_pos k) m ∙
      (let z = bit_of_zero j in omega arith);
}

-- all of them
pub first-all : (k mask : ℕ) → 64 ≤ k → FirstBits 64 mask → FirstBits k mask
first-all k mask h o = record { only = λ j l t. omega arith; all = λ j l m. o.all j l l }
