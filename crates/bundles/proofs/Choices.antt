-- Laws of the choice: no vertex goes before the best. Assumes nothing.
use Rattle.counting.proofs.Prelude.{◌≡◌, refl, sym, ap, ◌∙◌, subst, ◌⊎◌, inl, inr, ⊎_elim, Bool, true, false, true≢false, ◌&&◌, ◌||◌, List}
use Rattle.counting.proofs.Prelude.{ℕ, zero, suc, ◌≤◌, ◌<◌, arith, eqb, ltb, get_or, eq-eqb, ne_eqb, eqb-true, ltb-true, ltb-false}
use native.Mathlib.Nat.{not-suc-le-zero}
use Rattle.specification.specs.Count.{choose}
use Rattle.counting.specs.Quads.{quad}
use Rattle.counting.proofs.Truth.{true_or_false, lt-or-le, and_intro, and_elim, or_elim, or_neither}
use Rattle.specification.specs.Bundles.{before, best, better}
use Rattle.bundles.specs.Steps.{end_of, load_at}
use Rattle.counting.proofs.Choosing.{choose_yes, choose_no}

-- x edges at position p, and y at position q
ahead_yes : (x p y q : ℕ) → (ltb y x || (eqb y x && ltb p q)) ≡ true → (y < x) ⊎ ((y ≡ x) × (p < q))
ahead_yes x p y q e =
    ⊎_elim (λ a. inl (ltb-true y x a)) (λ a. let b = and_elim (eqb y x) (ltb p q) a in inr (eqb-true y x b.0, ltb-true p q b.1))
    (or_elim (ltb y x) (eqb y x && ltb p q) e)

ahead_no : (x p y q : ℕ) → (ltb y x || (eqb y x && ltb p q)) ≡ false → (x ≤ y) × (x ≡ y → q ≤ p)
ahead_no x p y q e =
    let o = or_neither (ltb y x) (eqb y x && ltb p q) e in (
      ltb-false y x o.0,
      λ z. ltb-false p q
          (⊎_elim (λ t. absurd (true≢false (sym (and_intro (eqb y x) (ltb p q) (eq-eqb y x (sym z)) t) ∙ o.1))) (λ t. t)
          (true_or_false (ltb p q))),
    )

module _ (position f : ℕ → ℕ) where
  before_yes : (v w : ℕ) → before position f v w ≡ true → (f w < f v) ⊎ ((f w ≡ f v) × (position v < position w))
  unfolding before
  before_yes v w e = ahead_yes (f v) (position v) (f w) (position w) e

  before_no : (v w : ℕ) → before position f v w ≡ false → (f v ≤ f w) × (f v ≡ f w → position w ≤ position v)
  unfolding before
  before_no v w e = ahead_no (f v) (position v) (f w) (position w) e

  -- one vertex more
  best_cases : (j : ℕ) → ((before position f j (best position j f) ≡ true) × (best position (suc j) f ≡ j))
      ⊎ ((before position f j (best position j f) ≡ false) × (best position (suc j) f ≡ best position j f))
  unfolding best
  best_cases j =
      ⊎_elim
      (λ t. inl (t, choose_yes (before position f j (best position j f)) (λ _. j) (λ _. best position j f) t))
      (λ t. inr (t, choose_no (before position f j (best position j f)) (λ _. j) (λ _. best position j f) t))
      (true_or_false (before position f j (best position j f)))

  best-first : best position 1 f ≡ 0
  unfolding best
  best-first = ⊎_elim (λ p. p.1) (λ p. p.1) (best_cases 0)

  best_none : best position 0 f ≡ 0
  unfolding best
  best_none = refl

  pub best_below : (n : ℕ) → 0 < n → best position n f < n
  best_below zero l = absurd (not-suc-le-zero l)
  best_below (suc zero) l = subst (λ (x : ℕ). x < 1) (sym best-first) (omega arith)
  best_below (suc (suc j)) l =
      ⊎_elim (λ p. let e = p.1 in omega arith) (λ p. let e = p.1 in let i = best_below (suc j) (omega arith) in omega arith)
      (best_cases (suc j))

  -- NO VERTEX HAS MORE, and of equals none has a lower position
  pub best_most : (n u : ℕ) → u < n → (f u ≤ f (best position n f))
      × (f u ≡ f (best position n f) → position (best position n f) ≤ position u)
  best_most zero u l = absurd (not-suc-le-zero l)
  best_most (suc j) u l =
      ⊎_elim
      (λ p. let b = before_yes j (best position j f) p.0 in
      let fe = ap f p.1 in let pe = ap position p.1 in
      ⊎_elim
      (λ h. let i = best_most j u h in
      ⊎_elim (λ z. (omega arith, λ y. omega arith)) (λ z. (omega arith, λ y. let k = i.1 (omega arith) in omega arith)) b)
      (λ h. let q : u ≡ j = omega arith in let fu = ap f q in let pu = ap position q in (omega arith, λ y. omega arith))
      (lt-or-le u j))
      (λ p. let b = before_no j (best position j f) p.0 in
      let fe = ap f p.1 in let pe = ap position p.1 in
      ⊎_elim
      (λ h. let i = best_most j u h in (omega arith, λ y. let k = i.1 (omega arith) in omega arith))
      (λ h. let q : u ≡ j = omega arith in let fu = ap f q in let pu = ap position q in
      (omega arith, λ y. let k = b.1 (omega arith) in omega arith))
      (lt-or-le u j))
      (best_cases j)

  -- and of equals of one position none has a lower number
  pub best-least : (n u : ℕ) → u < n → f u ≡ f (best position n f) → position u ≡ position (best position n f) → best position n f ≤ u
  best-least zero u l a b = absurd (not-suc-le-zero l)
  best-least (suc j) u l a b =
      ⊎_elim
      (λ p. let c = before_yes j (best position j f) p.0 in
      let be = p.1 in let fe = ap f p.1 in let pe = ap position p.1 in
      ⊎_elim
      (λ h. let i = best_most j u h in
      absurd (⊎_elim (λ z. omega arith) (λ z. let y = z.0 in let x = z.1 in let k = i.1 (omega arith) in omega arith) c))
      (λ h. omega arith)
      (lt-or-le u j))
      (λ p. let be = p.1 in let fe = ap f p.1 in let pe = ap position p.1 in
      ⊎_elim
      (λ h. let i = best-least j u h (omega arith) (omega arith) in omega arith)
      (λ h. ⊎_elim
      (λ k. let q = best_below j k in omega arith)
      (λ k. let q : best position j f ≡ best position 0 f = ap (λ (x : ℕ). best position x f) (let z : j ≡ 0 = omega arith in z) in
      let w = best_none in omega arith)
      (lt-or-le 0 j))
      (lt-or-le u j))
      (best_cases j)

-- the same loads and positions below n
pub best_ext : (p q f g : ℕ → ℕ) (n : ℕ) → ((v : ℕ) → v < n → p v ≡ q v) → ((v : ℕ) → v < n → f v ≡ g v) → best p n f ≡ best q n g
unfolding best before
best_ext p q f g zero a b = refl
best_ext p q f g (suc zero) a b = best-first p f ∙ sym (best-first q g)
best_ext p q f g (suc (suc j)) a b =
    let ih : best p (suc j) f ≡ best q (suc j) g = best_ext p q f g (suc j) (λ v l. a v (omega arith)) (λ v l. b v (omega arith)) in
    let low = best_below q g (suc j) (omega arith) in
    let at : (v w : ℕ) → v < suc (suc j) → w < suc (suc j)
    → before p f v w ≡ before q g v w = λ v w l m. simp (a v l, a w m, b v l, b w m) in
    ap (λ (x : ℕ). better p f x (suc j)) ih
    ∙ ap (λ (t : Bool). choose t (λ _. suc j) (λ _. best q (suc j) g)) (at (suc j) (best q (suc j) g) (omega arith) (omega arith))

-- a vertex of the channel has its load, and another none
module _ (places load : List ℕ) (c : ℕ) (d : Bool) (v : ℕ) where
  pub own : (e : ℕ) → quad 0 places v ≡ c → e ≡ end_of d v → load_at c places load d v ≡ get_or load e 0
  own e h q =
      choose_yes (eqb (quad 0 places v) c) (λ _. get_or load (end_of d v) 0) (λ _. 0) (eq-eqb (quad 0 places v) c h)
      ∙ ap (λ (x : ℕ). get_or load x 0) (sym q)

  pub other : (quad 0 places v ≡ c → ⊥) → load_at c places load d v ≡ 0
  other h = choose_no (eqb (quad 0 places v) c) (λ _. get_or load (end_of d v) 0) (λ _. 0) (ne_eqb (quad 0 places v) c h)
