-- What each answer of the test says. Assumes nothing.
use Rattle.counting.proofs.Prelude.{◌≡◌, refl, sym, ◌∙◌, ⊎_elim, Bool, true, false, true≢false, ℕ, ◌≤◌, ◌<◌, arith, eqb-true, eq-eqb}
use Rattle.counting.proofs.Prelude.{ltb-true, lt-ltb}
use Rattle.counting.proofs.Truth.{and_intro, and_elim, true_or_false}
use Rattle.counting.proofs.Somes.{some_found, some_which}
use Rattle.specification.specs.Geometry.{Point, Hit, Blocked, aligned, Decides, is_hit, is_blocked}
use Rattle.geometry.proofs.Segments.{on_products, products_on, between-inside, inside-low, inside-high}

-- an answer that is true exactly where P holds
pub decides : {P : Type 0} (r : Bool) → (r ≡ true → P) → (P → r ≡ true) → Decides r P
decides r f g = record { holds = f; fails = λ e p. true≢false (sym (g p) ∙ e) }

pub not_so : {P : Type 0} → (P → ⊥) → Decides false P
not_so f = decides false (λ e. absurd (true≢false (sym e))) (λ p. absurd (f p))

pub so : {P : Type 0} → P → Decides true P
so p = decides true (λ e. p) (λ q. refl)

-- one answer at most
pub decides_once : {P : Type 0} (r s : Bool) → Decides r P → Decides s P → r ≡ s
decides_once true true h k = refl
decides_once true false h k = absurd (k.fails refl (h.holds refl))
decides_once false true h k = absurd (h.fails refl (k.holds refl))
decides_once false false h k = refl

pub hit_low : (a b p : Point) → p.row ≤ a.row → Decides false (Hit a b p)
hit_low a b p h = not_so (λ i. let l : a.row < p.row = inside-low i.rises i.inside in omega arith)

pub hit_high : (a b p : Point) → b.row ≤ p.row → Decides false (Hit a b p)
hit_high a b p h = not_so (λ i. let l : p.row < b.row = inside-high i.rises i.inside in omega arith)

pub hit_between : (a b p : Point) (r : Bool) → a.row < p.row → p.row < b.row
    → r ≡ aligned a.column a.row b.column b.row p.column p.row → Decides r (Hit a b p)
hit_between a b p r h k e = decides r
    (λ t. record { rises = omega arith; inside = between-inside a b p h k (products_on a b p h k (eqb-true _ _ (sym e ∙ t))) })
    (λ i. e ∙ eq-eqb _ _ (on_products a b p h k i.inside.on))

-- the computed tests
pub is_hit_decides : (a b p : Point) → Decides (is_hit a b p) (Hit a b p)
unfolding is_hit
is_hit_decides a b p = decides _
    (λ t.
    let s = and_elim _ _ t in
    let q = and_elim _ _ s.0 in
    (hit_between a b p _ (ltb-true _ _ q.0) (ltb-true _ _ q.1) refl).holds s.1)
    (λ i.
    let l : a.row < p.row = inside-low i.rises i.inside in
    let h : p.row < b.row = inside-high i.rises i.inside in
    and_intro _ _ (and_intro _ _ (lt-ltb _ _ l) (lt-ltb _ _ h)) (eq-eqb _ _ (on_products a b p l h i.inside.on)))

pub hit_true : (a b p : Point) → Hit a b p → is_hit a b p ≡ true
hit_true a b p i = decides_once _ _ (is_hit_decides a b p) (so i)

module _ (at : ℕ → Point) (n u v : ℕ) where
  pub is_blocked_decides : Decides (is_blocked at n u v) (Blocked at n u v)
  unfolding is_blocked
  is_blocked_decides = decides _
      (λ t.
      let s = and_elim _ _ t in
      let q = and_elim _ _ s.0 in
      let f = some_which n _ s.1 in
      record {
        tail = ltb-true _ _ q.0;
        head = ltb-true _ _ q.1;
        vertex = f.0;
        known = f.1;
        hit = (is_hit_decides (at u) (at v) (at f.0)).holds f.2;
      })
      (λ b.
      and_intro _ _ (and_intro _ _ (lt-ltb _ _ b.tail) (lt-ltb _ _ b.head))
      (some_found n _ b.vertex b.known (hit_true _ _ _ b.hit)))

  pub is_blocked_true : Blocked at n u v → is_blocked at n u v ≡ true
  is_blocked_true b = decides_once _ _ is_blocked_decides (so b)

  pub is_blocked_false : (Blocked at n u v → ⊥) → is_blocked at n u v ≡ false
  is_blocked_false f = decides_once _ _ is_blocked_decides (not_so f)

  pub blocked_or_free : {X : Type 0} → (Blocked at n u v → X) → ((Blocked at n u v → ⊥) → X) → X
  blocked_or_free f g =
      ⊎_elim (λ e. f (is_blocked_decides.holds e)) (λ e. g (is_blocked_decides.fails e)) (true_or_false (is_blocked at n u v))
