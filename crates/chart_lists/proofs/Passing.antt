-- Entries, one more at a time. Assumes nothing.
use Rattle.counting.proofs.Prelude.{◌≡◌, refl, ap, ap₂, ◌∙◌, Bool, true, false, not, List, ℕ, zero, suc, ◌+◌, ◌-◌, ◌*◌, ◌/◌, ◌%◌, ◌<◌, ◌≤◌}
use Rattle.counting.proofs.Prelude.{arith, get_or, set}
use native.Mathlib.Nat.{add-zero}
use Rattle.specification.specs.Count.{indicator}
use Rattle.counting.proofs.Truth.{indicator-le}
use Rattle.counting.specs.Quads.{quad}
use Rattle.specification.specs.Checks.{floor_at}
use Rattle.specification.specs.Numbers.{code_of, word_number, arrow_number, bundle_number, bundles}
use Rattle.specification.specs.Pass.{as_numbers, stored, state, next}
use Rattle.reduction.specs.Reduction.{transitive_in?}
use Rattle.kinds.specs.Kinds.{kind_among}
use Rattle.specification.specs.declared.Code.{Code}
use Rattle.specification.specs.declared.Kind.{Kind}
use Rattle.chart_lists.specs.Steps.Numbers.{Given, tail_at, head_at, kind_at, arrow_from, word_from, bundle_from}

-- ---- five or six numbers, and the count of a mark

five : (n : ℕ → ℕ) (i a b c d e : ℕ) (l : List ℕ) → a ≡ n 0 → b ≡ n 1 → c ≡ n 2 → d ≡ n 3 → e ≡ n 4
    → set (set (set (set (set l i a) (i + 1) b) (i + 2) c) (i + 3) d) (i + 4) e ≡ stored n i 5 l
unfolding stored
five n i a b c d e l ea eb ec ed ee = rw (ea, eb, ec, ed, ee, add-zero)

six : (n : ℕ → ℕ) (i a b c d e f : ℕ) (l : List ℕ) → a ≡ n 0 → b ≡ n 1 → c ≡ n 2 → d ≡ n 3 → e ≡ n 4 → f ≡ n 5
    → set (set (set (set (set (set l i a) (i + 1) b) (i + 2) c) (i + 3) d) (i + 4) e) (i + 5) f ≡ stored n i 6 l
unfolding stored
six n i a b c d e f l ea eb ec ed ee ef = rw (ea, eb, ec, ed, ee, ef, add-zero)

-- 1 less a mark counts what has none
unmarked : (b : Bool) (x : ℕ) → x ≡ indicator b → 1 - x ≡ indicator (not b)
unmarked true x e = rw e refl
unmarked false x e = rw e refl

pub mark-low : (longer : List ℕ) (u v x : ℕ) → x ≡ indicator (transitive_in? longer u v) → x ≤ 1
mark-low longer u v x e = omega (arith, e, indicator-le (transitive_in? longer u v))

-- ---- a vertex and a bundle

pub word-stored : (places column : List ℕ) (floored : Bool) (floors : List ℕ) (v x : ℕ) (l : List ℕ) → x ≡ floor_at floored floors v
    → set (set (set (set (set (set l (v * 6) (quad 0 places v)) (v * 6 + 1) (quad 1 places v)) (v * 6 + 2) (get_or column v 0)) (v * 6 + 3)
    (quad 2 places v)) (v * 6 + 4) (quad 3 places v)) (v * 6 + 5) x
    ≡ stored (word_number (word_from places column floored floors v)) (v * 6) 6 l
unfolding word_number word_from
word-stored places column floored floors v x l e =
    six (word_number (word_from places column floored floors v)) (v * 6) _ _ _ _ _ _ l refl refl refl refl refl e

entry_at : (spans : List ℕ) (b f : ℕ) → f < 4 → get_or spans (4 * b + f) 0 ≡ bundle_number (bundle_from spans b) f
unfolding bundle_number bundle_from
entry_at spans b zero h = ap (λ (i : ℕ). get_or spans i 0) (add-zero (4 * b))
entry_at spans b (suc zero) h = refl
entry_at spans b (suc (suc zero)) h = refl
entry_at spans b (suc (suc (suc zero))) h = refl
entry_at spans b (suc (suc (suc (suc f)))) h = absurd (omega arith)

-- the list of bundles is `spans`, number by number
pub bundle_at : (spans : List ℕ) (i : ℕ) → get_or spans i 0 ≡ bundles (bundle_from spans) i
bundle_at spans i =
    let e : i ≡ 4 * (i / 4) + i % 4 = omega arith in
    ap (λ (k : ℕ). get_or spans k 0) e ∙ entry_at spans (i / 4) (i % 4) (omega arith)

-- ---- an edge

module _ (g : Given) (e : ℕ) where
  pub kind-here : (k : Kind)
      → k ≡ kind_among (quad 0 g.places (tail_at g e)) (quad 0 g.places (head_at g e)) (quad 1 g.places (tail_at g e))
      (quad 1 g.places (head_at g e)) (get_or g.number (2 * head_at g e) 0) (get_or g.number (2 * tail_at g e + 1) 0) g.columns
      g.places g.below g.left (tail_at g e) (head_at g e) → k ≡ kind_at g e
  unfolding kind_at
  kind-here k h = h

  -- what is left where k is the code of what `kinds::kind_of` answers and the mark what `mark_at` does: one step of the pass
  pub arrow_next : (mark firm : ℕ) (k : Code) (l x : List ℕ)
      → k ≡ code_of (kind_at g e)
      → mark ≡ indicator (transitive_in? g.longer (tail_at g e) (head_at g e))
      → x ≡ set (set (set (set (set l (e * 5) e) (e * 5 + 1) k.code) (e * 5 + 2) k.value) (e * 5 + 3) k.row) (e * 5 + 4) mark
      → state x (firm + (1 - mark)) ≡ next as_numbers (arrow_from g) e (state l firm)
  unfolding next arrow_number arrow_from
  arrow_next mark firm k l x s q put =
      ap₂ state
      (put ∙ five (arrow_number (arrow_from g e)) (e * 5) e k.code k.value k.row mark l refl
      (ap (λ (x : Code). x.code) s) (ap (λ (x : Code). x.value) s) (ap (λ (x : Code). x.row) s) q)
      (ap (λ (x : ℕ). firm + x) (unmarked (transitive_in? g.longer (tail_at g e) (head_at g e)) mark q))
