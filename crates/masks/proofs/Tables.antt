-- Laws of a table that has a set of w masks for each vertex, for any w. Assumes nothing.
use Rattle.counting.proofs.Prelude.{◌≡◌, sym, ap, ◌∙◌, ◌≢◌, ⊎_elim, List, [], ◌∷◌, ℕ, zero, suc, ◌+◌, ◌-◌, ◌*◌, ◌/◌, ◌%◌, ◌^◌, ◌≤◌, ◌<◌}
use Rattle.counting.proofs.Prelude.{max, arith, length, get_or, set, replicate}
use native.Mathlib.Nat.{mul_comm}
use native.Mathlib.Decide.{ℕ_discrete}
use lib.Arith.{digits_div, digits_mod}
use lib.Bits.{bit_or}
use lib.Seq.{get_or-set_same, get_or-set_other}
use Rattle.counting.proofs.Truth.{lt-or-le}
use Rattle.counting.proofs.Zeros.{zeros}
use Rattle.specification.specs.Sets.{bit, mask_of, member, at, inserted, United}
use Rattle.masks.proofs.Bits.{bit_of_zero, with_here, with_other}
use Rattle.masks.proofs.Sets.{member-lt, united_member}

pub at_lt : (w : ℕ) (t : List ℕ) (u v : ℕ) → at w t u v < 2
unfolding at
at_lt w t u v = member-lt t (w * u) v

-- a table of zeros has no bit
pub at_zeros : (w n u v : ℕ) → at w (replicate n 0) u v ≡ 0
unfolding at member
at_zeros w n u v = ap (λ (x : ℕ). bit x (v % 64)) (zeros n (mask_of (w * u) v)) ∙ bit_of_zero (v % 64)

-- ---- the masks of different vertices are different

row-div : (w u i : ℕ) → i < w → (w * u + i) / w ≡ u
row-div w u i h = ap (λ (x : ℕ). (x + i) / w) (mul_comm w u) ∙ digits_div u h

row-mod : (w u i : ℕ) → i < w → (w * u + i) % w ≡ i
row-mod w u i h = ap (λ (x : ℕ). (x + i) % w) (mul_comm w u) ∙ digits_mod u h

pub same_row : (w u i u' i' : ℕ) → i < w → i' < w → w * u + i ≡ w * u' + i' → u ≡ u'
same_row w u i u' i' h h' e = sym (row-div w u i h) ∙ ap (λ (x : ℕ). x / w) e ∙ row-div w u' i' h'

pub same_mask : (w u i u' i' : ℕ) → i < w → i' < w → w * u + i ≡ w * u' + i' → i ≡ i'
same_mask w u i u' i' h h' e = sym (row-mod w u i h) ∙ ap (λ (x : ℕ). x % w) e ∙ row-mod w u' i' h'

mask_lt : (w v : ℕ) → v < w * 64 → v / 64 < w
mask_lt w v h = omega arith

-- ---- a vertex is put into the set of another

-- s is t with v put into the set of u
pub record Put (w : ℕ) (t : List ℕ) (u v : ℕ) (s : List ℕ) : Type 0 where
  pub here : at w s u v ≡ 1
  pub other : (u' v' : ℕ) → v' < w * 64 → (u' ≡ u → v' ≢ v) → at w s u' v' ≡ at w t u' v'

pub put_law : (w : ℕ) (t : List ℕ) (u v : ℕ) → v < w * 64 → w * u + v / 64 < length t → Put w t u v (inserted t (w * u) v)
unfolding at member inserted
put_law w t u v hv hl = record {
  here = ap (λ (x : ℕ). bit x (v % 64)) (get_or-set_same t i x 0 hl) ∙ with_here (get_or t i 0) (v % 64);
  other = λ u' v' hv' ne. go u' v' hv' ne (ℕ_discrete (w * u' + v' / 64) i);
}
  where
    i : ℕ
    i = w * u + v / 64

    x : ℕ
    x = bit_or (get_or t i 0) (2 ^ (v % 64))

    go : (u' v' : ℕ) → v' < w * 64 → (u' ≡ u → v' ≢ v) → Dec (w * u' + v' / 64 ≡ i)
        → bit (get_or (set t i x) (w * u' + v' / 64) 0) (v' % 64) ≡ bit (get_or t (w * u' + v' / 64) 0) (v' % 64)
    go u' v' hv' ne (yes e) =
        let eu : u' ≡ u = same_row w u' (v' / 64) u (v / 64) (mask_lt w v' hv') (mask_lt w v hv) e in
        let em : v' / 64 ≡ v / 64 = same_mask w u' (v' / 64) u (v / 64) (mask_lt w v' hv') (mask_lt w v hv) e in
        ap (λ (j : ℕ). bit (get_or (set t i x) j 0) (v' % 64)) e
        ∙ ap (λ (y : ℕ). bit y (v' % 64)) (get_or-set_same t i x 0 hl)
        ∙ with_other (get_or t i 0) (v % 64) (v' % 64) (λ er. ne eu (omega arith))
        ∙ ap (λ (j : ℕ). bit (get_or t j 0) (v' % 64)) (sym e)
    go u' v' hv' ne (no d) = ap (λ (y : ℕ). bit y (v' % 64)) (get_or-set_other t i (w * u' + v' / 64) x 0 d)

-- ---- the masks of a vertex

-- o has the w masks that t has for k
pub record Row (w : ℕ) (t : List ℕ) (k : ℕ) (o : List ℕ) : Type 0 where
  pub mask : (i : ℕ) → i < w → get_or o i 0 ≡ get_or t (w * k + i) 0

-- the two masks of k, read one by one
pub pair_row : (t : List ℕ) (k a b : ℕ) → a ≡ get_or t (2 * k + 0) 0 → b ≡ get_or t (2 * k + 1) 0 → Row 2 t k (a ∷ b ∷ [])
pair_row t k a b p q = record { mask = go }
  where
    go : (i : ℕ) → i < 2 → get_or (a ∷ b ∷ []) i 0 ≡ get_or t (2 * k + i) 0
    go zero l = p
    go (suc zero) l = q
    go (suc (suc i)) l = absurd (omega arith)

pub row-member : (w : ℕ) (t : List ℕ) (k : ℕ) (o : List ℕ) → Row w t k o → (v : ℕ) → v < w * 64 → member o 0 v ≡ at w t k v
unfolding at member
row-member w t k o r v h =
    ap (λ (i : ℕ). bit (get_or o i 0) (v % 64)) (let e : 0 + v / 64 ≡ v / 64 = omega arith in e)
    ∙ ap (λ (x : ℕ). bit x (v % 64)) (r.mask (v / 64) (omega arith))

-- ---- a set is put into the set of a vertex

-- where all masks but those of u stay, so do the sets of the other vertices
pub others_kept : (w u : ℕ) (t s : List ℕ) → ((i : ℕ) → i < w * u → get_or s i 0 ≡ get_or t i 0)
    → ((i : ℕ) → w * u + w ≤ i → get_or s i 0 ≡ get_or t i 0)
    → (u' v : ℕ) → v < w * 64 → u' ≢ u → at w s u' v ≡ at w t u' v
unfolding at member
others_kept w u t s below above u' v h ne = ap (λ (x : ℕ). bit x (v % 64)) (elsewhere (v / 64) (mask_lt w v h))
  where
    elsewhere : (i : ℕ) → i < w → get_or s (w * u' + i) 0 ≡ get_or t (w * u' + i) 0
    elsewhere i hi =
        ⊎_elim
        (λ l. below (w * u' + i) l)
        (λ l. ⊎_elim
        (λ m. absurd (ne (same_row w u' i u ((w * u' + i) - w * u) hi (omega arith) (omega arith))))
        (λ m. above (w * u' + i) m)
        (lt-or-le (w * u' + i) (w * u + w)))
        (lt-or-le (w * u' + i) (w * u))

-- s is t with the set o of w masks put into the set of u
pub record Absorbed (w : ℕ) (t : List ℕ) (u : ℕ) (o s : List ℕ) : Type 0 where
  pub here : (v : ℕ) → v < w * 64 → at w s u v ≡ max (at w t u v) (member o 0 v)
  pub other : (u' v : ℕ) → v < w * 64 → u' ≢ u → at w s u' v ≡ at w t u' v

pub absorbed_law : (w : ℕ) (t : List ℕ) (u : ℕ) (o s : List ℕ) → United t (w * u) o w s → Absorbed w t u o s
unfolding at
absorbed_law w t u o s a = record { here = united_member w t (w * u) o s a; other = others_kept w u t s a.below a.above }
