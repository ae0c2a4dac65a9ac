-- A vertex is finished where its successors are: its set is the union of theirs
-- and of its edges. The list c has the places. Assumes nothing.
use Rattle.counting.proofs.Prelude.{◌≡◌, refl, sym, ap₂, ◌∙◌, subst, ◌≢◌, ◌⊎◌, inl, inr, ⊎_elim, ◌↔◌, List, [], ◌∷◌, ℕ, zero, suc, ◌+◌, ◌*◌}
use Rattle.counting.proofs.Prelude.{◌^◌, ◌≤◌, ◌<◌, arith, length, get_or, set, length-set}
use lib.Bits.{bit_or}
use lib.Count.{ones}
use lib.Seq.{get_or-set_same, get_or-set_other}
use Rattle.specification.specs.Count.{sum}
use Rattle.counting.specs.Quads.{quad}
use Rattle.counting.proofs.Sums.{sum_ext}
use Rattle.specification.specs.Sets.{at}
use Rattle.masks.specs.Pairs.{in_pair}
use Rattle.masks.proofs.Sets.{count_masks}
use Rattle.masks.proofs.Pairing.{pair_lt, pair_or, pair_at, max_split, max-make}
use Rattle.specification.specs.Graph.{Reaches, Longer}
use Rattle.specification.specs.Graph.Reaches.{one, more}
use Rattle.reach.proofs.Routes.{reaches_trans}
use Rattle.descent.specs.Steps.Members.{Long, Pictured, Nested}
use Rattle.descent.specs.Steps.Closed.{Arc, Ample, Reached, Finished, Same, Vertex}
use Rattle.descent.proofs.Gathering.{long_both}

-- ---- two masks are stored for u

-- s' has the masks a and b for u, and for the others what s has
pub record Stored (s : List ℕ) (u a b : ℕ) (s' : List ℕ) : Type 0 where
  pub low : get_or s' (2 * u) 0 ≡ a
  pub high : get_or s' (2 * u + 1) 0 ≡ b
  pub low_other : (w : ℕ) → w ≢ u → get_or s' (2 * w) 0 ≡ get_or s (2 * w) 0
  pub high_other : (w : ℕ) → w ≢ u → get_or s' (2 * w + 1) 0 ≡ get_or s (2 * w + 1) 0

pub stored_law : (s : List ℕ) (u a b : ℕ) → 2 * u + 1 < length s → Stored s u a b (set (set s (2 * u) a) (2 * u + 1) b)
stored_law s u a b h =
    let r : List ℕ = set s (2 * u) a in
    let k : length r ≡ length s = length-set s (2 * u) a in
    record {
      low = get_or-set_other r (2 * u + 1) (2 * u) b 0 (λ e. omega arith) ∙ get_or-set_same s (2 * u) a 0 (omega arith);
      high = get_or-set_same r (2 * u + 1) b 0 (omega arith);
      low_other =
          λ w d. get_or-set_other r (2 * u + 1) (2 * w) b 0 (λ e. omega arith)
          ∙ get_or-set_other s (2 * u) (2 * w) a 0 (λ e. d (omega arith));
      high_other =
          λ w d. get_or-set_other r (2 * u + 1) (2 * w + 1) b 0 (λ e. d (omega arith))
          ∙ get_or-set_other s (2 * u) (2 * w + 1) a 0 (λ e. omega arith);
    }

-- what stands past them is as it was
pub stored_past : (s : List ℕ) (u a b i : ℕ) → 2 * u + 2 ≤ i → get_or (set (set s (2 * u) a) (2 * u + 1) b) i 0 ≡ get_or s i 0
stored_past s u a b i h =
    get_or-set_other (set s (2 * u) a) (2 * u + 1) i b 0 (λ e. omega arith) ∙ get_or-set_other s (2 * u) i a 0 (λ e. omega arith)

pub stored_at : (s : List ℕ) (u a b : ℕ) (s' : List ℕ) → Stored s u a b s' → (v : ℕ) → v < 128 → at 2 s' u v ≡ in_pair a b v
stored_at s u a b s' o v h = sym (pair_at s' u v h) ∙ ap₂ (λ (x y : ℕ). in_pair x y v) o.low o.high

-- where two masks are the same, so are the bits
pub same_bits : (s s' : List ℕ) (u : ℕ) → get_or s' (2 * u) 0 ≡ get_or s (2 * u) 0 → get_or s' (2 * u + 1) 0 ≡ get_or s (2 * u + 1) 0
    → (v : ℕ)
    → v < 128 → at 2 s' u v ≡ at 2 s u v
same_bits s s' u p q v h = sym (pair_at s' u v h) ∙ ap₂ (λ (x y : ℕ). in_pair x y v) p q ∙ pair_at s u v h

-- the ones of two masks
pub pair_count : (a b : ℕ) → a < 2 ^ 64 → b < 2 ^ 64 → ones a + ones b ≡ sum 128 (in_pair a b)
unfolding sum in_pair
pair_count a b ha hb = sym (count_masks (a ∷ b ∷ []) 0 fit 2 ∙ omega arith)
  where
    fit : (i : ℕ) → get_or (a ∷ b ∷ []) i 0 < 2 ^ 64
    fit zero = ha
    fit (suc zero) = hb
    fit (suc (suc i)) = omega arith

-- ---- what is finished stays so where the lists stay

pub finished-same : (e : List ℕ) (w : ℕ) (t l c t' l' c' : List ℕ) → Same w t l t' l' → quad 3 c' w ≡ quad 3 c w → Finished e t l c w
    → Finished e t' l' c' w
finished-same e w t l c t' l' c' s o f = record {
  reached = λ v h. subst (λ (x : ℕ). x ≡ 1 ↔ Reaches (Arc e) w v) (sym (same_bits t t' w s.low s.high v h)) (f.reached v h);
  farther = λ v h. subst (λ (x : ℕ). x ≡ 1 ↔ Longer (Arc e) w v) (sym (same_bits l l' w s.low_far s.high_far v h)) (f.farther v h);
  counted = o ∙ f.counted ∙ sym (sum_ext 128 (at 2 t' w) (at 2 t w) (λ v h. same_bits t t' w s.low s.high v h));
}

pub same_refl : (w : ℕ) (t l : List ℕ) → Same w t l t l
same_refl w t l = record { low = refl; high = refl; low_far = refl; high_far = refl }

pub same_trans : (w : ℕ) (t l t' l' t'' l'' : List ℕ) → Same w t l t' l' → Same w t' l' t'' l'' → Same w t l t'' l''
same_trans w t l t' l' t'' l'' p q = record {
  low = q.low ∙ p.low;
  high = q.high ∙ p.high;
  low_far = q.low_far ∙ p.low_far;
  high_far = q.high_far ∙ p.high_far;
}

-- ---- one vertex

module _ (e t : List ℕ) (u low high : ℕ) (hu : u < 128) (el : low ≡ get_or e (2 * u) 0) (eh : high ≡ get_or e (2 * u + 1) 0) where
  -- a member of u's two masks is a successor
  arc : (w : ℕ) → w < 128 → in_pair low high w ≡ 1 → Arc e u w
  arc w hw m = (hu, hw, sym (ap₂ (λ (x y : ℕ). in_pair x y w) el eh ∙ pair_at e u w hw) ∙ m)

  -- the table has masks for u's successors
  pub long_law : Ample e t → Long 2 t low 0 × Long 2 t high 64
  long_law ample = long_both 2 t low high (λ w hw m. ample.room u w (arc w hw m))

  -- the sets of u's successors hold the sets of those of them that they have
  pub nested_law : ((w : ℕ) → Arc e u w → Reached e t w) → Nested t low high
  nested_law right = record {
    holds = λ x w v hx hw hv mx mw p q.
        let rx = right x (arc x hx mx) in
        (rx v hv).1 (reaches_trans ((rx w hw).0 p) ((right w (arc w hw mw) v hv).0 q));
  }

module _ (e t l c : List ℕ) (u low high p q : ℕ) (hu : u < 128) (el : low ≡ get_or e (2 * u) 0) (eh : high ≡ get_or e (2 * u + 1) 0)
    (m : Pictured t low high p q) (right : (w : ℕ) → Arc e u w → Reached e t w) where
  edge_bit : (v : ℕ) → v < 128 → in_pair low high v ≡ at 2 e u v
  edge_bit v h = ap₂ (λ (x y : ℕ). in_pair x y v) el eh ∙ pair_at e u v h

  -- by two edges or more
  far-bit : (v : ℕ) → v < 128 → in_pair p q v ≡ 1 ↔ Longer (Arc e) u v
  far-bit v h = (
    (λ i. let s = (m.here v h).0 i in
        let arc : Arc e u s.0 = (hu, s.1, sym (edge_bit s.0 s.1) ∙ s.2) in
        (s.0, arc, (right s.0 arc v h).0 s.3)),
    λ r. let arc = r.1 in (m.here v h).1 (r.0, arc.1, edge_bit r.0 arc.1 ∙ arc.2, (right r.0 arc v h).1 r.2),
  )

  split : (v : ℕ) → Reaches (Arc e) u v → (Arc e u v) ⊎ Longer (Arc e) u v
  split v (one a) = inl a
  split v (more a r) = inr (_, a, r)

  near_bit : (v : ℕ) → v < 128 → in_pair (bit_or low p) (bit_or high q) v ≡ 1 ↔ Reaches (Arc e) u v
  near_bit v h = (
    (λ i. ⊎_elim
        (λ x. one (hu, h, sym (edge_bit v h) ∙ x))
        (λ x. let r = (far-bit v h).0 x in more r.1 r.2)
        (max_split (in_pair low high v) (in_pair p q v) (pair_lt low high v) (pair_lt p q v) (sym (pair_or low high p q v h) ∙ i))),
    λ r. pair_or low high p q v h
        ∙ max-make (in_pair low high v) (in_pair p q v) (pair_lt low high v) (pair_lt p q v)
        (⊎_elim (λ a. inl (edge_bit v h ∙ a.2)) (λ a. inr ((far-bit v h).1 a)) (split v r)),
  )

  pub vertex_law : (t' l' c' : List ℕ) → Stored t u (bit_or low p) (bit_or high q) t' → Stored l u p q l'
      → quad 3 c' u ≡ ones (bit_or low p) + ones (bit_or high q)
      → ((k v : ℕ) → k < 4 → (k ≡ 3 → v ≢ u) → quad k c' v ≡ quad k c v) → bit_or low p < 2 ^ 64 → bit_or high q < 2 ^ 64
      → Vertex e u t l c t' l' c'
  vertex_law t' l' c' st sl sc rest fa fb = record {
    own = record {
      reached = λ v h. subst (λ (x : ℕ). x ≡ 1 ↔ Reaches (Arc e) u v) (sym (stored_at t u _ _ t' st v h)) (near_bit v h);
      farther = λ v h. subst (λ (x : ℕ). x ≡ 1 ↔ Longer (Arc e) u v) (sym (stored_at l u _ _ l' sl v h)) (far-bit v h);
      counted = sc ∙ pair_count (bit_or low p) (bit_or high q) fa fb
          ∙ sym (sum_ext 128 (at 2 t' u) (in_pair (bit_or low p) (bit_or high q)) (λ v h. stored_at t u _ _ t' st v h));
    };
    others =
        λ w d. record { low = st.low_other w d; high = st.high_other w d; low_far = sl.low_other w d; high_far = sl.high_other w d };
    rest = rest;
  }
