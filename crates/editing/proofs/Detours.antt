-- Longer routes, told from the edges of one vertex and what their heads have. Assumes nothing.
use Rattle.counting.proofs.Prelude.{◌≡◌, refl, sym, ap, ◌∙◌, ◌≢◌, ⊎_elim, true, false, true≢false, ◌&&◌, List, ℕ, ◌+◌, ◌-◌, ◌*◌, ◌/◌}
use Rattle.counting.proofs.Prelude.{◌%◌, ◌≤◌, ◌<◌, arith, eqb, get_or, eq-eqb, eqb-true}
use lib.Count.{count_trailing_zeros}
use Rattle.counting.proofs.Truth.{lt-or-le, and_intro, and_elim, same_truth}
use Rattle.counting.proofs.Falsity.{not-true}
use Rattle.counting.proofs.Somes.{some_found, some_which}
use Rattle.specification.specs.Sets.{bit, member, at, has?}
use Rattle.masks.proofs.Visiting.{Visited, lowest-lt, lowest_in, visited_all}
use Rattle.editing.specs.Promise.{detour?}
use Rattle.editing.specs.Steps.{passing?}

-- ---- the members of a mask, one by one

-- vertex j of the mask does not have v
abbrev pub Lacks : ℕ → List ℕ → ℕ → ℕ → ℕ → Type 0
Lacks w t base v j = has? w t (base + j) v ≡ false

module _ (w : ℕ) (t : List ℕ) (mask base v x : ℕ) (s : Visited mask x (Lacks w t base v)) where
  -- the lowest that is left has it
  pub passing_found : x ≢ 0 → has? w t (base + count_trailing_zeros 64 x) v ≡ true → passing? w t mask base v ≡ true
  unfolding passing?
  passing_found ne e =
      some_found 64 _ (count_trailing_zeros 64 x) (lowest-lt mask x _ s ne) (and_intro _ _ (eq-eqb _ 1 (lowest_in mask x _ s ne)) e)

  -- none is left
  pub passing_none : x ≡ 0 → passing? w t mask base v ≡ false
  unfolding passing?
  passing_none z =
      not-true _
      (λ e.
      let p = some_which 64 (λ j. eqb (bit mask j) 1 && has? w t (base + j) v) e in
      let b = and_elim (eqb (bit mask p.0) 1) (has? w t (base + p.0) v) p.2 in
      true≢false (sym b.1 ∙ visited_all mask x (Lacks w t base v) s z p.0 (eqb-true _ 1 b.0)))

-- ---- the masks of u, w of them

module _ (w : ℕ) (e t : List ℕ) (u v : ℕ) where
  -- bit j of mask i is vertex 64 i + j
  row-bit : (i j : ℕ) → j < 64 → has? w e u (64 * i + j) ≡ eqb (bit (get_or e (w * u + i) 0) j) 1
  unfolding has? at member
  row-bit i j h =
      let q : (64 * i + j) / 64 ≡ i = omega arith in
      let r : (64 * i + j) % 64 ≡ j = omega arith in rw (q, r)

  -- m is that mask, which begins at vertex b: by way of x, which is in it
  passing_by : (i b m x : ℕ) → b ≡ 64 * i → m ≡ get_or e (w * u + i) 0 → b ≤ x → x < b + 64 → has? w e u x ≡ true → has? w t x v ≡ true
      → passing? w t m b v ≡ true
  unfolding passing?
  passing_by i b m x q same l h p r =
      let j : x - b < 64 = omega arith in
      some_found 64 _ (x - b) j
      (and_intro _ _
      (ap (λ (y : ℕ). eqb (bit y (x - b)) 1) same ∙ sym (row-bit i (x - b) j)
      ∙ ap (has? w e u) (let z : 64 * i + (x - b) ≡ x = omega arith in z) ∙ p)
      (ap (λ (y : ℕ). has? w t y v) (let z : b + (x - b) ≡ x = omega arith in z) ∙ r))

  -- .. and by way of a member
  pub detour_by : (i b m : ℕ) → i < w → b ≡ 64 * i → m ≡ get_or e (w * u + i) 0 → passing? w t m b v ≡ true → detour? w e t u v ≡ true
  unfolding passing? detour?
  detour_by i b m h q same p =
      let s = some_which 64 (λ j. eqb (bit m j) 1 && has? w t (b + j) v) p in
      let l = s.1 in
      let c = and_elim (eqb (bit m s.0) 1) (has? w t (b + s.0) v) s.2 in
      some_found (w * 64) _ (b + s.0) (omega arith)
      (and_intro _ _
      (ap (λ (y : ℕ). has? w e u (y + s.0)) q ∙ row-bit i s.0 l ∙ ap (λ (y : ℕ). eqb (bit y s.0) 1) (sym same) ∙ c.0) c.1)

-- of two masks: by the second alone, where it is not by the first
module _ (e t : List ℕ) (u v : ℕ) where
  pub detour-second : (m n : ℕ) → m ≡ get_or e (2 * u + 0) 0 → n ≡ get_or e (2 * u + 1) 0 → passing? 2 t m 0 v ≡ false
      → detour? 2 e t u v ≡ passing? 2 t n 64 v
  unfolding detour?
  detour-second m n first second none =
      same_truth _ _
      (λ p.
      let s = some_which 128 (λ x. has? 2 e u x && has? 2 t x v) p in
      let l = s.1 in
      let c = and_elim (has? 2 e u s.0) (has? 2 t s.0 v) s.2 in
      ⊎_elim
      (λ h. absurd (true≢false (sym (passing_by 2 e t u v 0 0 m s.0 refl first (omega arith) h c.0 c.1) ∙ none)))
      (λ h. passing_by 2 e t u v 1 64 n s.0 refl second h (omega arith) c.0 c.1)
      (lt-or-le s.0 64))
      (detour_by 2 e t u v 1 64 n (omega arith) refl second)
