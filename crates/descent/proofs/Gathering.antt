-- The sets of a mask's members put together. Assumes nothing.
use Rattle.counting.proofs.Prelude.{◌≡◌, sym, ap, ◌∙◌, subst, ◌≢◌, ◌⊎◌, inl, inr, ⊎_elim, List, ℕ, ◌+◌, ◌-◌, ◌*◌, ◌^◌, ◌≤◌, ◌<◌, max, arith}
use Rattle.counting.proofs.Prelude.{length, get_or}
use native.Mathlib.Nat.{le_trans, mul-suc, mul-le-mul_left}
use lib.Bits.{bit_or}
use lib.Count.{count_trailing_zeros}
use Rattle.counting.proofs.Truth.{lt-or-le}
use Rattle.specification.specs.Sets.{bit, at}
use Rattle.masks.specs.Pairs.{in_pair}
use Rattle.masks.proofs.Tables.{at_lt}
use Rattle.masks.proofs.Clearing.{clear}
use Rattle.masks.proofs.Visiting.{Visited, visited_none, visited_all, visited_more, lowest-lt, lowest_in}
use Rattle.masks.proofs.Pairing.{pair_lt, pair_low, pair_high, pair_zero, pair_or, pair_at, max_split, max-make}
use Rattle.descent.specs.Steps.Members.{Long, Gathered, FirstGathered, Pictured}
use Rattle.descent.specs.Steps.Closed.{Inside}

-- a list that has numbers for the members of a set has them for those of its two masks
pub long_both : (w : ℕ) (t : List ℕ) (low high : ℕ) → ((v : ℕ) → v < 128 → in_pair low high v ≡ 1 → w * v + w ≤ length t)
    → Long w t low 0 × Long w t high 64
long_both w t low high h = (
  record { room = λ j l e. let z : 0 + j ≡ j = omega arith in rw z (h j (omega arith) (pair_low low high j l ∙ e)) },
  record { room = λ j l e. h (64 + j) (omega arith) (pair_high low high j l ∙ e) },
)

-- and so has a list of numbers for n vertices, where the members are among these
pub long_below : (w : ℕ) (t : List ℕ) (n low high : ℕ) → w * n ≤ length t → ((v : ℕ) → v < 128 → in_pair low high v ≡ 1 → v < n)
    → Long w t low 0 × Long w t high 64
long_below w t n low high h inside =
    long_both w t low high (λ v hv i. le_trans (subst (λ (x : ℕ). x ≤ w * n) (mul-suc w v) (mul-le-mul_left w (inside v hv i))) h)

-- the set of a member is in the set a, b
abbrev pub Held : List ℕ → ℕ → ℕ → ℕ → ℕ → Type 0
Held t base a b j = (v : ℕ) → v < 128 → at 2 t (base + j) v ≡ 1 → in_pair a b v ≡ 1

-- on the way: x has the members that are left
pub record Gathering (t : List ℕ) (mask base c d a b x : ℕ) : Type 0 where
  pub members : Visited mask x (Held t base a b)
  pub kept : (v : ℕ) → v < 128 → in_pair c d v ≡ 1 → in_pair a b v ≡ 1
  pub only : (v : ℕ) → v < 128 → in_pair a b v ≡ 1
      → (in_pair c d v ≡ 1) ⊎ ((j : ℕ) × (j < 64) × (bit mask j ≡ 1) × (at 2 t (base + j) v ≡ 1))

module _ (t : List ℕ) (mask base c d : ℕ) where
  pub gathering_none : mask < 2 ^ 64 → Gathering t mask base c d c d mask
  gathering_none h = record { members = visited_none mask (Held t base c d) h; kept = λ v l e. e; only = λ v l e. inl e }

  pub gathering_more : (a b x w p q : ℕ) → Gathering t mask base c d a b x → x ≢ 0 → w ≡ base + count_trailing_zeros 64 x
      → p ≡ get_or t (2 * w) 0 → q ≡ get_or t (2 * w + 1) 0 → Gathering t mask base c d (bit_or a p) (bit_or b q) (clear x)
  gathering_more a b x w p q g ne ew ep eq = record {
    members = visited_more mask x (Held t base a b) g.members ne (Held t base (bit_or a p) (bit_or b q))
        (λ j held v l e. into v l (inl (held v l e)))
        (λ v l e. into v l (inr (subst (λ (y : ℕ). at 2 t y v ≡ 1) (sym ew) e)));
    kept = λ v l e. into v l (inl (g.kept v l e));
    only = λ v l e. ⊎_elim
        (λ o. g.only v l o)
        (λ o. inr (
          count_trailing_zeros 64 x,
          lowest-lt mask x (Held t base a b) g.members ne,
          lowest_in mask x (Held t base a b) g.members ne,
          subst (λ (y : ℕ). at 2 t y v ≡ 1) ew o,
        ))
        (max_split (in_pair a b v) (at 2 t w v) (pair_lt a b v) (at_lt 2 t w v) (sym (whole v l) ∙ e));
  }
    where
      whole : (v : ℕ) → v < 128 → in_pair (bit_or a p) (bit_or b q) v ≡ max (in_pair a b v) (at 2 t w v)
      whole v l =
          pair_or a b p q v l
          ∙ ap (λ (y : ℕ). max (in_pair a b v) y)
          (ap (λ (y : ℕ). in_pair y q v) ep ∙ ap (λ (y : ℕ). in_pair (get_or t (2 * w) 0) y v) eq ∙ pair_at t w v l)

      into : (v : ℕ) → v < 128 → (in_pair a b v ≡ 1) ⊎ (at 2 t w v ≡ 1) → in_pair (bit_or a p) (bit_or b q) v ≡ 1
      into v l o = whole v l ∙ max-make (in_pair a b v) (at 2 t w v) (pair_lt a b v) (at_lt 2 t w v) o

  pub gathering_all : (a b x : ℕ) → Gathering t mask base c d a b x → x ≡ 0 → Gathered t mask base c d a b
  gathering_all a b x g z = record {
    here = λ v l. (
      g.only v l,
      λ o. ⊎_elim (λ e. g.kept v l e) (λ p. visited_all mask x (Held t base a b) g.members z p.0 p.2 v l p.3) o,
    );
  }

-- two masks after another: the union of the sets of all members
pub pictured_both : (t : List ℕ) (low high c d a b : ℕ) → Gathered t low 0 0 0 c d → Gathered t high 64 c d a b → Pictured t low high a b
pictured_both t low high c d a b f g =
    record { here = λ v h. ((λ e. out v h ((g.here v h).0 e)), λ p. into v h p.0 p.1 p.2 p.3) }
  where
    Through : ℕ → Type 0
    Through v = (w : ℕ) × (w < 128) × (in_pair low high w ≡ 1) × (at 2 t w v ≡ 1)

    out : (v : ℕ) → v < 128 → (in_pair c d v ≡ 1) ⊎ ((j : ℕ) × (j < 64) × (bit high j ≡ 1) × (at 2 t (64 + j) v ≡ 1)) → Through v
    out v h (inl e) =
        ⊎_elim
        (λ z. absurd (let n = pair_zero v h in omega arith))
        (λ p. (
          p.0,
          (let l = p.1 in omega arith),
          pair_low low high p.0 p.1
              ∙ p.2,
          subst (λ (x : ℕ). at 2 t x v ≡ 1) (let q : 0 + p.0 ≡ p.0 = omega arith in q) p.3,
        ))
        ((f.here v h).0 e)
    out v h (inr p) = (64 + p.0, (let l = p.1 in omega arith), pair_high low high p.0 p.1 ∙ p.2, p.3)

    into : (v : ℕ) → v < 128 → (w : ℕ) → w < 128 → in_pair low high w ≡ 1 → at 2 t w v ≡ 1 → in_pair a b v ≡ 1
    into v h w hw m e =
        ⊎_elim
        (λ l. (g.here v h).1
        (inl
        ((f.here v h).1
        (inr (w, l, sym (pair_low low high w l) ∙ m, subst (λ (x : ℕ). at 2 t x v ≡ 1) (let q : w ≡ 0 + w = omega arith in q) e)))))
        (λ l.
        let q : w ≡ 64 + (w - 64) = omega arith in
        let k : w - 64 < 64 = omega arith in
        (g.here v h).1
        (inr (
          w - 64,
          k,
          sym (pair_high low high (w - 64) k)
              ∙ subst (λ (x : ℕ). in_pair low high x ≡ 1) q m,
          subst (λ (x : ℕ). at 2 t x v ≡ 1) q e,
        )))
        (lt-or-le w 64)

-- the first masks alone, where no vertex is above 63
pub pictured_first : (t : List ℕ) (n low high a : ℕ) → n ≤ 64 → Inside t n → ((v : ℕ) → v < 128 → in_pair low high v ≡ 1 → v < n)
    → FirstGathered t low a → Pictured t low high a 0
pictured_first t n low high a few inside members f = record { here = λ v h. (out v h, λ p. into v h p.0 p.1 p.2 p.3) }
  where
    b : ℕ
    b = f.second

    same : (v : ℕ) → v < 64 → in_pair a 0 v ≡ in_pair a b v
    same v l = pair_low a 0 v l ∙ sym (pair_low a b v l)

    out : (v : ℕ) → v < 128 → in_pair a 0 v ≡ 1 → (w : ℕ) × (w < 128) × (in_pair low high w ≡ 1) × (at 2 t w v ≡ 1)
    out v h e =
        ⊎_elim
        (λ l. ⊎_elim
        (λ z. absurd (let n = pair_zero v h in omega arith))
        (λ p. (
          p.0,
          (let l = p.1 in omega arith),
          pair_low low high p.0 p.1
              ∙ p.2,
          subst (λ (x : ℕ). at 2 t x v ≡ 1) (let q : 0 + p.0 ≡ p.0 = omega arith in q) p.3,
        ))
        ((f.gathered.here v h).0 (sym (same v l) ∙ e)))
        (λ l.
        let q : 64 + (v - 64) ≡ v = omega arith in
        let k : v - 64 < 64 = omega arith in
        let z = pair_zero v h in
        absurd (let y : in_pair a 0 v ≡ in_pair 0 0 v = ap (in_pair a 0) (sym q) ∙ pair_high a 0 (v - 64) k ∙ sym (pair_high 0 0 (v - 64) k)
        ∙ ap (in_pair 0 0) q in omega arith))
        (lt-or-le v 64)

    into : (v : ℕ) → v < 128 → (w : ℕ) → w < 128 → in_pair low high w ≡ 1 → at 2 t w v ≡ 1 → in_pair a 0 v ≡ 1
    into v h w hw m e =
        let lw : w < 64 = (let k = members w hw m in omega arith) in
        let lv : v < 64 = (let k = inside.head w v (hw, h, e) in omega arith) in
        same v lv
        ∙ (f.gathered.here v h).1
        (inr (w, lw, sym (pair_low low high w lw) ∙ m, subst (λ (x : ℕ). at 2 t x v ≡ 1) (let q : w ≡ 0 + w = omega arith in q) e))
