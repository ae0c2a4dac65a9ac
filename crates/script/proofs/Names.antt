-- A name matched byte by byte: it is matched whole exactly when the part is the name. Assumes nothing.
use Rattle.counting.proofs.Prelude.{◌≡◌, refl, ◌∙◌, Bool, true, false, ◌&&◌, List, [], ◌∷◌, ℕ, ◌+◌, ◌≤◌, ◌<◌, arith, eqb, ltb, length}
use Rattle.std.specs.Prelude.{Option, Some, None}
use Rattle.counting.proofs.Prelude.{get_or, drop, drop_of_length-le, eq-eqb, ne_eqb, lt-ltb, le-ltb}
use native.Mathlib.Decide.{dec_lt}
use native.Mathlib.Numerals.{add-one}
use lib.Seq.{drop-cons}
use Rattle.specification.specs.Count.{choose}
use Rattle.specification.specs.Orders.{same}
use Rattle.script.specs.Scanning.{advanced, whole?}

-- how many bytes of the name are matched after a part, of which so many were before
unfoldable pub followed : List ℕ → Option ℕ → List ℕ → Option ℕ
followed name m [] = m
followed name m (b ∷ l) = followed name (advanced name m b) l

module _ (name : List ℕ) where
  missed_stays : (l : List ℕ) → followed name None l ≡ None
  unfolding followed advanced
  missed_stays [] = refl
  missed_stays (b ∷ l) = missed_stays l

  missed_fails : (l : List ℕ) → whole? (length name) (followed name None l) ≡ false
  missed_fails l = rw (missed_stays l)

  -- m bytes are matched, and the name ends there
  at_end : (m : ℕ) → m ≤ length name → (m < length name → ⊥) → (m ≡ length name) × (drop m name ≡ [])
  at_end m h d = (omega arith, drop_of_length-le name (let l : length name ≤ m = omega arith in l))

  pub followed_same : (m : ℕ) (l : List ℕ) → m ≤ length name → whole? (length name) (followed name (Some m) l) ≡ same l (drop m name)
  unfolding followed advanced same
  followed_same m [] h = go (dec_lt m (length name))
    where
      go : Dec (m < length name) → eqb m (length name) ≡ same [] (drop m name)
      go (yes k) = ne_eqb m (length name) (λ e. omega arith) ∙ rw (drop-cons name m 0 k)
      go (no d) = let e = at_end m h d in eq-eqb m (length name) e.0 ∙ rw e.1
  followed_same m (b ∷ l) h = go (dec_lt m (length name)) (eqb (get_or name m 0) b) refl (λ k. followed_same (m + 1) l k)
    where
      go : Dec (m < length name) → (t : Bool) → eqb (get_or name m 0) b ≡ t
          → (m + 1 ≤ length name → whole? (length name) (followed name (Some (m + 1)) l) ≡ same l (drop (m + 1) name))
          → whole? (length name)
          (followed name (choose (ltb m (length name) && eqb (get_or name m 0) b) (λ _. Some (m + 1)) (λ _. None)) l)
          ≡ same (b ∷ l) (drop m name)
      go (yes k) true e rest = rw (lt-ltb m (length name) k, drop-cons name m 0 k, e) (rest (omega arith) ∙ rw (add-one m))
      go (yes k) false e rest = rw (lt-ltb m (length name) k, drop-cons name m 0 k, e) (missed_fails l)
      go (no d) t e rest = rw (le-ltb m (length name) (omega arith), (at_end m h d).1) (missed_fails l)
