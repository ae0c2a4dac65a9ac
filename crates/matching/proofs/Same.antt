-- The channels planned depend on the relation only between the n vertices: no search asks of any other. Assumes nothing.
use Rattle.counting.proofs.Prelude.{◌≡◌, refl, sym, ap, ◌∙◌, Bool, not, ◌&&◌, List, [], ℕ, zero, suc, ◌+◌, ◌≤◌, ◌<◌, arith}
use mathlib.Core.Option.{none-ne-some}
use Rattle.specification.specs.Planning.{Held, State, predecessor_of, fresh, scan, augment, asks, matching_to, candidate, marked, taken}
use Rattle.specification.specs.Planning.{begun, planned_to, planned}
use Rattle.matching.specs.Visited.{seen}
use Rattle.matching.proofs.Scan.{scan_ind, scan_end, scan_pass, scan_free, scan-moved, scan_stuck}
use Rattle.matching.proofs.Sound.{Sound, sound_augment}

module _ (n : ℕ) (L L' : ℕ → ℕ → Bool) (same : (u v : ℕ) → u < n → v < n → L u v ≡ L' u v) where
  -- both searches give the same, for a vertex and for predecessors that are vertices
  abbrev Agree : (ℕ → State → State) → (ℕ → State → State) → Type 0
  Agree again again' = (h : ℕ) (s : State) → h < n → Sound L n s.held → again h s ≡ again' h s

  candidate-same : (h v : ℕ) (s : State) → h < n → v < n → candidate L' h v s ≡ candidate L h v s
  unfolding candidate
  candidate-same h v s b l = ap (λ (t : Bool). t && not (seen v s)) (sym (same h v b l))

  module _ (again again' : ℕ → State → State) (h : ℕ) (b : h < n)
      (sound : (k : ℕ) (s : State) → k < n → Sound L n s.held → Sound L n (again k s).held) (agree : Agree again again') where
    scan-same : (j v : ℕ) (s : State) → v + j ≤ n → Sound L n s.held → scan L n again h j v s ≡ scan L' n again' h j v s
    unfolding marked
    scan-same = scan_ind L n again h (λ j v s x. v + j ≤ n → Sound L n s.held → x ≡ scan L' n again' h j v s) (record {
      at_end = λ v s l c. sym (scan_end L' n again' h zero v s);
      pass = λ j v s e ih l c. ih (omega arith) c ∙ sym (scan_pass L' n again' h j v s (candidate-same h v s b (omega arith) ∙ e));
      free = λ j v s e f l c. sym (scan_free L' n again' h j v s (candidate-same h v s b (omega arith) ∙ e) f);
      moved = λ j v s p e f y l c.
          let a : again p (marked v s) ≡ again' p (marked v s) = agree p (marked v s) (c v p f).0 c in
          ap (taken h v) a
          ∙ sym (scan-moved L' n again' h j v s p (candidate-same h v s b (omega arith) ∙ e) f (sym (ap (λ (r : State). r.found) a) ∙ y));
      stuck = λ j v s p e f y ih l c.
          let a : again p (marked v s) ≡ again' p (marked v s) = agree p (marked v s) (c v p f).0 c in
          ih (omega arith) (sound p (marked v s) (c v p f).0 c)
          ∙ ap (scan L' n again' h j (suc v)) a
          ∙ sym (scan_stuck L' n again' h j v s p (candidate-same h v s b (omega arith) ∙ e) f (sym (ap (λ (r : State). r.found) a) ∙ y));
    })

  augment-same : (k : ℕ) → Agree (augment L n k) (augment L' n k)
  unfolding augment
  augment-same zero h s b c = refl
  augment-same (suc k) h s b c = scan-same (augment L n k) (augment L' n k) h b (sound_augment L n k) (augment-same k) n 0 s (omega arith) c

  asks-same : (k j h : ℕ) (held : List Held) → h + j ≡ n → Sound L n held → asks L n k j h held ≡ asks L' n k j h held
  unfolding asks
  asks-same k zero h held e c = refl
  asks-same k (suc j) h held e c =
      asks-same k j (suc h) (augment L n k h (fresh held)).held (omega arith) (sound_augment L n k h (fresh held) (omega arith) c)
      ∙ ap (λ (x : State). asks L' n k j (suc h) x.held) (augment-same k h (fresh held) (omega arith) c)

  pub planned-same : planned L n ≡ planned L' n
  unfolding planned planned_to matching_to predecessor_of
  planned-same = ap (λ held. begun n held (suc n) n) (asks-same (suc n) n 0 [] (omega arith) (λ v p e. absurd (none-ne-some p e)))
