-- The predecessors that a table of bytes has. Assumes nothing.
use Rattle.counting.proofs.Prelude.{◌≡◌, refl, sym, ap, ◌∙◌, subst, ◌≢◌, List, ℕ, zero, suc, ◌≤◌, ◌<◌, arith, eqb, get_or, eq-eqb, ne_eqb}
use native.Mathlib.Decide.{ℕ_discrete}
use mathlib.Core.Option.{Option, none, some}
use Rattle.specification.specs.Planning.{Held, predecessor_of, is?}
use Rattle.matching.proofs.Scan.{put, put-here, put_other}
use Rattle.search.specs.Tabled.{byte_of, Tabled}
use Rattle.planning.specs.Steps.{held_in}

module _ (P : List ℕ) where
  pass : (v : ℕ) → get_or P v 0 ≡ 255 → held_in (suc v) P ≡ held_in v P
  unfolding held_in
  pass v e = rw (eq-eqb (get_or P v 0) 255 e)

  more : (v : ℕ) → get_or P v 0 ≢ 255 → held_in (suc v) P ≡ put v (get_or P v 0) (held_in v P)
  unfolding held_in
  more v d = rw (ne_eqb (get_or P v 0) 255 d)

  -- no vertex with a predecessor is v
  held_other : (n v : ℕ) → ((w : ℕ) → w < n → get_or P w 0 ≢ 255 → v ≢ w) → predecessor_of (held_in n P) v ≡ none
  unfolding held_in predecessor_of
  held_other zero v d = refl
  held_other (suc w) v d = go (ℕ_discrete (get_or P w 0) 255) (held_other w v (λ u l. d u (omega arith)))
    where
      go : Dec (get_or P w 0 ≡ 255) → predecessor_of (held_in w P) v ≡ none → predecessor_of (held_in (suc w) P) v ≡ none
      go (yes q) ih = ap (λ l. predecessor_of l v) (pass w q) ∙ ih
      go (no q) ih = ap (λ l. predecessor_of l v) (more w q) ∙ put_other (held_in w P) w (get_or P w 0) v (d w (omega arith) q) ∙ ih

  pub held_none : (n v : ℕ) → get_or P v 0 ≡ 255 → predecessor_of (held_in n P) v ≡ none
  held_none n v e = held_other n v (λ w l q x. q (ap (λ y. get_or P y 0) (sym x) ∙ e))

  pub held_past : (n v : ℕ) → n ≤ v → predecessor_of (held_in n P) v ≡ none
  held_past n v h = held_other n v (λ w l q x. omega arith)

  pub held-some : (n v : ℕ) → v < n → get_or P v 0 ≢ 255 → predecessor_of (held_in n P) v ≡ some (get_or P v 0)
  held-some zero v l d = absurd (omega arith)
  held-some (suc w) v l d = go (ℕ_discrete v w) (ℕ_discrete (get_or P w 0) 255) (λ m. held-some w v m d)
    where
      go : Dec (v ≡ w) → Dec (get_or P w 0 ≡ 255) → (v < w → predecessor_of (held_in w P) v ≡ some (get_or P v 0))
          → predecessor_of (held_in (suc w) P) v ≡ some (get_or P v 0)
      go (yes x) (yes q) ih = absurd (d (ap (λ y. get_or P y 0) x ∙ q))
      go (yes x) (no q) ih = ap (λ l. predecessor_of l v) (more w q)
          ∙ subst (λ y. predecessor_of (put w (get_or P w 0) (held_in w P)) y ≡ some (get_or P y 0)) (sym x)
          (put-here (held_in w P) w (get_or P w 0))
      go (no x) (yes q) ih = ap (λ l. predecessor_of l v) (pass w q) ∙ ih (omega arith)
      go (no x) (no q) ih = ap (λ l. predecessor_of l v) (more w q) ∙ put_other (held_in w P) w (get_or P w 0) v x ∙ ih (omega arith)

  -- the predecessor is h
  pub held_is : (n v h : ℕ) → v < n → h < 128 → is? h (predecessor_of (held_in n P) v) ≡ eqb (get_or P v 0) h
  unfolding is?
  held_is n v h l m = go (ℕ_discrete (get_or P v 0) 255)
    where
      go : Dec (get_or P v 0 ≡ 255) → is? h (predecessor_of (held_in n P) v) ≡ eqb (get_or P v 0) h
      go (yes q) = ap (is? h) (held_none n v q) ∙ sym (ne_eqb (get_or P v 0) h (λ x. omega arith))
      go (no q) = ap (is? h) (held-some n v l q)

-- a table that has the predecessors of the rule: these
pub held_tabled : (n : ℕ) (held : List Held) (P : List ℕ) → n ≤ 128 → Tabled held P → ((v p : ℕ) → predecessor_of held v ≡ some p → p < n)
    → (v : ℕ) → v < n → predecessor_of (held_in n P) v ≡ predecessor_of held v
unfolding byte_of
held_tabled n held P small t low v l = go (predecessor_of held v) refl
  where
    at : get_or P v 0 ≡ byte_of (predecessor_of held v)
    at = t.each v (omega arith)

    go : (m : Option ℕ) → predecessor_of held v ≡ m → predecessor_of (held_in n P) v ≡ predecessor_of held v
    go none e = held_none P n v (at ∙ ap byte_of e) ∙ sym e
    go (some p) e =
        let x : get_or P v 0 ≡ p = at ∙ ap byte_of e in
        held-some P n v l (λ (y : get_or P v 0 ≡ 255). omega (arith, x, low v p e)) ∙ ap {B = Option ℕ} some x ∙ sym e
