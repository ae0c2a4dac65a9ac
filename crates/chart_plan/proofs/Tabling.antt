-- Tables that are filled entry by entry. Assumes nothing.
use Rattle.counting.proofs.Prelude.{◌≡◌, refl, ◌∙◌, List, ℕ, ◌+◌, ◌<◌, arith, ◌-◌, ◌≤◌, ap, ◌++◌, take, drop, length, get_or, set}
use Rattle.counting.proofs.Prelude.{length-set}
use Rattle.std.proofs.lemmas.List.{length-take-le, get_or-append_right, get_or-drop, length-append, length-drop}
use Rattle.std.proofs.Math.ListN.{get_or-append}
use native.Mathlib.Nat.{not-suc-le-zero}
use borrow.Author.Count.{below_more}
use lib.Seq.{get_or-set_same, get_or-set_other}
use Rattle.chart_plan.specs.Steps.{Tabled}

pub tabled_none : (was : List ℕ) (f : ℕ → ℕ) → Tabled was f 0 was
tabled_none was f = record { long = refl; made = λ i l. absurd (not-suc-le-zero l); past = λ i l. refl }

pub tabled_more : {was : List ℕ} {f : ℕ → ℕ} {j : ℕ} {t : List ℕ} (x : ℕ) → j < length was → Tabled was f j t → x ≡ f j
    → Tabled was f (j + 1) (set t j x)
tabled_more {was} {f} {j} {t} x h s e = record {
  long = length-set t j x ∙ s.long;
  made = below_more (λ (i : ℕ). get_or (set t j x) i 0 ≡ f i) j
      (λ i l. get_or-set_other t j i x 0 (λ q. omega arith) ∙ s.made i l)
      (get_or-set_same t j x 0 (let l = s.long in omega arith) ∙ e);
  past = λ i l. get_or-set_other t j i x 0 (λ q. omega arith) ∙ s.past i (omega arith);
}

-- the first n entries are written, and those behind them stay
pub tabled_part : {was : List ℕ} {f : ℕ → ℕ} {n : ℕ} {t : List ℕ} → n ≤ length was → Tabled (take n was) f (length (take n was)) t
    → Tabled was f n (t ++ drop n was)
tabled_part {was} {f} {n} {t} h s =
    let m : length (take n was) ≡ n = length-take-le n was h in
    let k : length t ≡ n = s.long ∙ m in
    record {
      long = omega (arith, length-append t (drop n was), length-drop n was);
      made = λ i l. get_or-append t (drop n was) 0 i (omega arith) ∙ s.made i (omega arith);
      past = λ i l.
          get_or-append_right t (drop n was) n i 0 k l ∙ get_or-drop n was (i - n) 0
          ∙ ap (λ j. get_or was j 0) (let e : n + (i - n) ≡ i = omega arith in e);
    }
