-- The table without the rows and columns of held vertices, row by row. Assumes nothing.
use Rattle.counting.proofs.Prelude.{◌≡◌, sym, ap, ap₂, ◌∙◌, ◌≢◌, Bool, true, false, not, ◌&&◌, List, [], ◌∷◌, ℕ, zero}
use Rattle.counting.proofs.Prelude.{suc, ◌+◌, ◌*◌, ◌^◌, ◌≤◌, ◌<◌, arith, eqb, length, get_or, set, replicate, length-set}
use Rattle.counting.proofs.Prelude.{length-replicate}
use mathlib.Core.Bool.{and_comm}
use native.Mathlib.Decide.{ℕ_discrete}
use lib.Seq.{get_or-set_same, get_or-set_other}
use Rattle.specification.specs.Sets.{member, member?, at, has?}
use Rattle.specification.specs.Given.{masked}
use Rattle.masks.proofs.Bits.{without}
use Rattle.masks.proofs.Sets.{without-member}
use Rattle.masks.proofs.Tables.{at_zeros, pair_row, row-member, others_kept}
use Rattle.planning.specs.Steps.{Cleared}

module _ (table held : List ℕ) where
  abbrev holds : ℕ → Bool
  holds = member? held 0

  -- the rows below u are done, and the others have nothing
  pub record Clearing (u : ℕ) (r : List ℕ) : Type 0 where
    pub size : length r ≡ 256
    pub done : (w v : ℕ) → w < u → v < 128 → has? 2 r w v ≡ masked holds (has? 2 table) w v
    pub rest : (w v : ℕ) → u ≤ w → v < 128 → at 2 r w v ≡ 0

  pub clearing_none : Clearing 0 (replicate 256 0)
  clearing_none = record {
    size = length-replicate {A = ℕ} 256 0;
    done = λ w v l. absurd (omega arith);
    rest = λ w v l m. at_zeros 2 256 w v;
  }

  module _ (u : ℕ) (r : List ℕ) (g : Clearing u r) where
    -- row u has nothing
    pub clearing_held : holds u ≡ true → Clearing (u + 1) r
    unfolding masked has?
    clearing_held h = record {
      size = g.size;
      done = λ w v l m. go w v l m (ℕ_discrete w u);
      rest = λ w v l m. g.rest w v (omega arith) m;
    }
      where
        go : (w v : ℕ) → w < u + 1 → v < 128 → Dec (w ≡ u) → has? 2 r w v ≡ masked holds (has? 2 table) w v
        go w v l m (yes e) = ap (λ x. eqb x 1) (g.rest w v (omega arith) m)
            ∙ sym (ap (λ x. not x && (not (holds v) && has? 2 table w v)) (ap holds e ∙ h))
        go w v l m (no d) = g.done w v (omega arith) m

    module _ (few : u < 128) (h : holds u ≡ false) (a b c d : ℕ) (ea : a ≡ get_or table (2 * u + 0) 0) (eb : b ≡ get_or table (2 * u + 1) 0)
        (ec : c ≡ get_or held (0 + 0) 0) (ed : d ≡ get_or held (0 + 1) 0) (fit : (i : ℕ) → get_or held i 0 < 2 ^ 64) where
      abbrev two : List ℕ
      two = without a c ∷ without b d ∷ []

      abbrev s : List ℕ
      s = set (set r (2 * u) (without a c)) (2 * u + 1) (without b d)

      two_member : (v : ℕ) → v < 128 → member? two 0 v ≡ (has? 2 table u v && not (holds v))
      unfolding has? at
      two_member = without-member 2 table (2 * u) held 0 two (λ i l. fit (0 + i)) same
        where
          same : (i : ℕ) → i < 2 → get_or two i 0 ≡ without (get_or table (2 * u + i) 0) (get_or held (0 + i) 0)
          same zero l = ap₂ without ea ec
          same (suc zero) l = ap₂ without eb ed
          same (suc (suc i)) l = absurd (omega arith)

      here : (v : ℕ) → v < 128 → at 2 s u v ≡ member two 0 v
      here v l = sym (row-member 2 s u two (pair_row s u (without a c) (without b d)
          (sym (ap (λ i. get_or s i 0) (let e : 2 * u + 0 ≡ 2 * u = omega arith in e)
          ∙ get_or-set_other (set r (2 * u) (without a c)) (2 * u + 1) (2 * u) (without b d) 0 (λ e. omega arith)
          ∙ get_or-set_same r (2 * u) (without a c) 0 (omega (arith, g.size))))
          (sym (get_or-set_same (set r (2 * u) (without a c)) (2 * u + 1) (without b d) 0
          (omega (arith, g.size, length-set r (2 * u) (without a c)))))) v l)

      apart : (i : ℕ) → i ≢ 2 * u → i ≢ 2 * u + 1 → get_or s i 0 ≡ get_or r i 0
      apart i x y = get_or-set_other (set r (2 * u) (without a c)) (2 * u + 1) i (without b d) 0 y
          ∙ get_or-set_other r (2 * u) i (without a c) 0 x

      other : (w v : ℕ) → v < 128 → w ≢ u → at 2 s w v ≡ at 2 r w v
      other = others_kept 2 u r s (λ i l. apart i (λ e. omega arith) (λ e. omega arith))
          (λ i l. apart i (λ e. omega arith) (λ e. omega arith))

      pub clearing_row : Clearing (u + 1) (set (set r (2 * u) (without a c)) (2 * u + 1) (without b d))
      unfolding masked has?
      clearing_row = record {
        size = length-set (set r (2 * u) (without a c)) (2 * u + 1) (without b d) ∙ length-set r (2 * u) (without a c) ∙ g.size;
        done = λ w v l m. go w v l m (ℕ_discrete w u);
        rest = λ w v l m. other w v m (λ e. omega arith) ∙ g.rest w v (omega arith) m;
      }
        where
          row : (v : ℕ) → v < 128 → has? 2 s u v ≡ masked holds (has? 2 table) u v
          row v m = ap (λ x. eqb x 1) (here v m) ∙ two_member v m ∙ and_comm (has? 2 table u v) (not (holds v))
              ∙ sym (ap (λ x. not x && (not (holds v) && has? 2 table u v)) h)

          go : (w v : ℕ) → w < u + 1 → v < 128 → Dec (w ≡ u) → has? 2 s w v ≡ masked holds (has? 2 table) w v
          go w v l m (yes e) = ap (λ x. has? 2 s x v) e ∙ row v m ∙ ap (λ x. masked holds (has? 2 table) x v) (sym e)
          go w v l m (no d) = ap (λ x. eqb x 1) (other w v m d) ∙ g.done w v (omega arith) m

    pub clearing_all : (n : ℕ) → n ≤ u → Cleared (member? held 0) n table r
    clearing_all n l = record { size = g.size; each = λ w v a b. g.done w v (omega arith) b }
