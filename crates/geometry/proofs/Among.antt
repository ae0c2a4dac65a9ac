-- The course of a cross edge by candidates, and candidates in two masks. Assumes nothing.
use Rattle.counting.proofs.Prelude.{◌≡◌, refl, sym, ap, ◌∙◌, subst, ◌≢◌, ⊎_elim, Bool, true, false, ◌&&◌, [], ◌∷◌, ℕ, suc, ◌+◌, ◌-◌, ◌/◌}
use Rattle.counting.proofs.Prelude.{◌%◌, ◌^◌, ◌≤◌, ◌<◌, arith, eqb, get_or, eqb-true, eq-eqb, ltb-true, lt-ltb}
use lib.Count.{count_trailing_zeros}
use Rattle.counting.proofs.Truth.{lt-or-le, same_truth, and_intro, and_elim}
use Rattle.counting.proofs.Somes.{some_found, some_which, some_ext}
use Rattle.specification.specs.Sets.{bit, member}
use Rattle.specification.specs.declared.Course.TheVariants.{Straight}
use Rattle.specification.specs.Geometry.{Point, Hit, BlockedAmong, Decides, is_hit, is_blocked, is_blocked_among, bend_row, bend_beside}
use Rattle.specification.specs.Geometry.{course_of}
use Rattle.specification.specs.Geometry.{course_among}
use Rattle.masks.specs.Pairs.{in_pair}
use Rattle.masks.proofs.Bits.{bit_high, bit_of_zero}
use Rattle.masks.proofs.Pairing.{pair_low, pair_high}
use Rattle.masks.proofs.Visiting.{Visited, visited_all, lowest_in}
use Rattle.geometry.specs.Steps.{Struck}
use Rattle.geometry.proofs.Segments.{hit_rise}
use Rattle.geometry.proofs.Tests.{decides, not_so, so, decides_once, is_hit_decides, hit_true}

-- ---- the course, by whether a candidate is in the way

module _ (candidate : ℕ → Bool) (at : ℕ → Point) (n u v : ℕ) where
  among_decides : Decides (is_blocked_among candidate at n u v) (BlockedAmong candidate at n u v)
  unfolding is_blocked_among
  among_decides = decides _
      (λ t.
      let s = and_elim _ _ t in
      let q = and_elim _ _ s.0 in
      let f = some_which n _ s.1 in
      let h = and_elim _ _ f.2 in
      record {
        blocked = record {
          tail = ltb-true _ _ q.0;
          head = ltb-true _ _ q.1;
          vertex = f.0;
          known = f.1;
          hit = (is_hit_decides (at u) (at v) (at f.0)).holds h.1;
        };
        among = h.0;
      })
      (λ b.
      let k = b.blocked in
      and_intro _ _ (and_intro _ _ (lt-ltb _ _ k.tail) (lt-ltb _ _ k.head))
      (some_found n _ k.vertex k.known (and_intro _ _ b.among (hit_true _ _ _ k.hit))))

  pub among_blocked : BlockedAmong candidate at n u v
      → course_among candidate at n u v ≡ bend_beside (at u).column (at v).column (bend_row (at v))
  unfolding course_among
  among_blocked b = rw (decides_once _ _ among_decides (so b))

  pub among_free : (BlockedAmong candidate at n u v → ⊥) → course_among candidate at n u v ≡ Straight
  unfolding course_among
  among_free f = rw (decides_once _ _ among_decides (not_so f))

  -- no end, no answer but false
  pub no_tail : n ≤ u → Decides false (BlockedAmong candidate at n u v)
  no_tail l = not_so (λ b. let h : u < n = b.blocked.tail in omega arith)

  pub no_head : n ≤ v → Decides false (BlockedAmong candidate at n u v)
  no_head l = not_so (λ b. let h : v < n = b.blocked.head in omega arith)

  -- nor where the segment rises by one row at most
  pub no_rise : (at v).row ≤ (at u).row + 1 → Decides false (BlockedAmong candidate at n u v)
  no_rise l = not_so (λ b. let h : (at u).row + 2 ≤ (at v).row = hit_rise b.blocked.hit in omega arith)

  pub among-low : (at v).row ≤ (at u).row + 1 → course_among candidate at n u v ≡ Straight
  among-low l = among_free ((no_rise l).fails refl)

  -- with every vertex a candidate that lies strictly inside, the course is the edge's
  pub among_enough : ((w : ℕ) → w < n → Hit (at u) (at v) (at w) → candidate w ≡ true)
      → course_among candidate at n u v ≡ course_of at n u v
  unfolding course_among course_of is_blocked_among is_blocked
  among_enough f = rw (some_ext n (λ w. candidate w && is_hit (at u) (at v) (at w)) (λ w. is_hit (at u) (at v) (at w)) same) refl
    where
      same : (w : ℕ) → w < n → (candidate w && is_hit (at u) (at v) (at w)) ≡ is_hit (at u) (at v) (at w)
      same w l =
          same_truth (candidate w && is_hit (at u) (at v) (at w)) (is_hit (at u) (at v) (at w))
          (λ t. (and_elim (candidate w) (is_hit (at u) (at v) (at w)) t).1)
          (λ t. and_intro (candidate w) (is_hit (at u) (at v) (at w)) (f w l ((is_hit_decides (at u) (at v) (at w)).holds t)) t)

-- the course goes by the candidates below n alone
pub among_same : (f g : ℕ → Bool) (at : ℕ → Point) (n u v : ℕ) → ((w : ℕ) → w < n → f w ≡ g w)
    → course_among f at n u v ≡ course_among g at n u v
unfolding course_among is_blocked_among
among_same f g at n u v e =
    rw (some_ext n (λ w. f w && is_hit (at u) (at v) (at w)) (λ w. g w && is_hit (at u) (at v) (at w))
    (λ w l. ap (λ b. b && is_hit (at u) (at v) (at w)) (e w l))) refl

-- ---- the vertices of one mask

module _ (mask base : ℕ) (at : ℕ → Point) (n u v : ℕ) where
  -- bit j is no vertex that lies strictly inside
  abbrev pub Missed : ℕ → Type 0
  Missed j = base + j < n → Hit (at u) (at v) (at (base + j)) → ⊥

  module _ (x : ℕ) (s : Visited mask x Missed) where
    pub struck_here : x ≢ 0 → base + count_trailing_zeros 64 x < n → Hit (at u) (at v) (at (base + count_trailing_zeros 64 x))
        → Decides true (Struck mask base at n u v)
    struck_here ne l i = so (record { place = count_trailing_zeros 64 x; set = lowest_in mask x Missed s ne; known = l; hit = i })

    pub struck_none : x ≡ 0 → Decides false (Struck mask base at n u v)
    struck_none z = not_so (λ k. visited_all mask x Missed s z k.place k.set k.known k.hit)

-- ---- candidates in two masks

-- two masks have no vertex from 128 on
pub pair_past : (a b w : ℕ) → 128 ≤ w → in_pair a b w ≡ 0
unfolding in_pair member
pair_past a b w h =
    let e : 0 + w / 64 ≡ suc (suc (w / 64 - 2)) = omega arith in
    ap (λ (i : ℕ). bit (get_or (a ∷ b ∷ []) i 0) (w % 64)) e ∙ bit_of_zero (w % 64)

module _ (low high : ℕ) (fl : low < 2 ^ 64) (fh : high < 2 ^ 64) (at : ℕ → Point) (n u v : ℕ) (hu : u < n) (hv : v < n) where
  abbrev paired : ℕ → Bool
  paired w = eqb (in_pair low high w) 1

  inside_mask : (m j : ℕ) → m < 2 ^ 64 → bit m j ≡ 1 → j < 64
  inside_mask m j f e = ⊎_elim (λ l. l) (λ l. absurd (let z = bit_high 64 m j f l in omega arith)) (lt-or-le j 64)

  struck_blocks : (m base : ℕ) → ((j : ℕ) → j < 64 → in_pair low high (base + j) ≡ bit m j) → m < 2 ^ 64
      → Struck m base at n u v → BlockedAmong paired at n u v
  struck_blocks m base same f s = record {
    blocked = record { tail = hu; head = hv; vertex = base + s.place; known = s.known; hit = s.hit };
    among = eq-eqb _ 1 (same s.place (inside_mask m s.place f s.set) ∙ s.set);
  }

  first-same : (j : ℕ) → j < 64 → in_pair low high (0 + j) ≡ bit low j
  first-same j l = ap (in_pair low high) (let e : 0 + j ≡ j = omega arith in e) ∙ pair_low low high j l

  pub first-blocks : Struck low 0 at n u v → Decides true (BlockedAmong paired at n u v)
  first-blocks s = so (struck_blocks low 0 first-same fl s)

  -- a vertex of neither mask is no candidate
  neither : (Struck low 0 at n u v → ⊥) → (Struck high 64 at n u v → ⊥) → BlockedAmong paired at n u v → ⊥
  neither f g b =
      let w = b.blocked.vertex in
      let k : w < n = b.blocked.known in
      let e : in_pair low high w ≡ 1 = eqb-true _ _ b.among in
      ⊎_elim
      (λ l. f (make low 0 w w (omega arith) (sym (pair_low low high w l) ∙ e) k b.blocked.hit))
      (λ l. ⊎_elim
      (λ m.
      let q : w ≡ 64 + (w - 64) = omega arith in
      g
      (make high 64 w (w - 64) q (sym (pair_high low high (w - 64) (omega arith)) ∙ ap (in_pair low high) (sym q) ∙ e) k
      b.blocked.hit))
      (λ m. let z = pair_past low high w m in omega arith)
      (lt-or-le w 128))
      (lt-or-le w 64)
    where
      make : (m base w j : ℕ) → w ≡ base + j → bit m j ≡ 1 → w < n → Hit (at u) (at v) (at w) → Struck m base at n u v
      make m base w j q e k h = record { place = j; set = e; known = omega arith; hit = subst (λ x. Hit (at u) (at v) (at x)) q h }

  pub masks_decide : (r : Bool) → (Struck low 0 at n u v → ⊥) → Decides r (Struck high 64 at n u v)
      → Decides r (BlockedAmong paired at n u v)
  masks_decide true f d = so (struck_blocks high 64 (pair_high low high) fh (d.holds refl))
  masks_decide false f d = not_so (neither f (d.fails refl))
