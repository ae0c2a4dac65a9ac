-- The channels that predecessors make, whatever the predecessors and the depth: no vertex stands in them twice. Assumes nothing.
use Rattle.counting.proofs.Prelude.{◌≡◌, refl, sym, ap, ◌∙◌, subst, Bool, true, false, false≢true, ℕ, zero, suc, ◌+◌, ◌≤◌, ◌<◌, arith}
use Rattle.counting.proofs.Prelude.{length, length-append, eqb-true, eq-eqb}
use mathlib.Core.List.{List, [], ◌∷◌, ◌++◌, flatten}
use mathlib.Core.Option.{Option, none, some, some-injective, none-ne-some}
use native.Mathlib.Decide.{ℕ_discrete, dec_lt}
use Rattle.specification.specs.Count.{indicator, sum, count}
use Rattle.specification.specs.Planning.{Held, predecessor_of, none?, is?, successor_from, successor, chain, begins, begun}
use Rattle.specification.specs.Channels.{times}
use Rattle.matching.proofs.Lists.{Within, times-here, times_other, times_none, times_snoc, length-bound}

pub is_true : (h : ℕ) (m : Option ℕ) → is? h m ≡ true → m ≡ some h
unfolding is?
is_true h none e = absurd (false≢true e)
is_true h (some p) e = ap {B = Option ℕ} some (eqb-true p h e)

pub is_same : (h : ℕ) → is? h (some h) ≡ true
unfolding is?
is_same h = eq-eqb h h refl

module _ (n : ℕ) (held : List Held) where
  -- ---- the definitions' cases

  pub chain_none : (k : ℕ) → chain n held k none ≡ []
  unfolding chain
  chain_none zero = refl
  chain_none (suc k) = refl

  pub chain-some : (k v : ℕ) → chain n held (suc k) (some v) ≡ v ∷ chain n held k (successor n held v)
  unfolding chain
  chain-some k v = refl

  pub begun_none : (k : ℕ) → begun n held k 0 ≡ []
  unfolding begun
  begun_none k = refl

  pub begun_yes : (k v : ℕ) → predecessor_of held v ≡ none → begun n held k (suc v) ≡ begun n held k v ++ (chain n held k (some v) ∷ [])
  unfolding begun begins none?
  begun_yes k v e = rw e

  pub begun_no : (k v p : ℕ) → predecessor_of held v ≡ some p → begun n held k (suc v) ≡ begun n held k v
  unfolding begun begins none?
  begun_no k v p e = rw e

  pub successor_end : (h v : ℕ) → successor_from n held h 0 v ≡ none
  unfolding successor_from
  successor_end h v = refl

  pub successor-here : (h j v : ℕ) → is? h (predecessor_of held v) ≡ true → successor_from n held h (suc j) v ≡ some v
  unfolding successor_from
  successor-here h j v e = rw e

  pub successor_on : (h j v : ℕ) → is? h (predecessor_of held v) ≡ false
      → successor_from n held h (suc j) v ≡ successor_from n held h j (suc v)
  unfolding successor_from
  successor_on h j v e = rw e

  -- ---- a successor has its predecessor

  abbrev Follows : ℕ → ℕ → Type 0
  Follows h w = (w < n) × (predecessor_of held w ≡ some h)

  successor-from : (h j v w : ℕ) → v + j ≡ n → successor_from n held h j v ≡ some w → Follows h w
  successor-from h zero v w e f = absurd (none-ne-some w (sym (successor_end h v) ∙ f))
  successor-from h (suc j) v w e f = go (is? h (predecessor_of held v)) refl (successor-from h j (suc v) w (omega arith))
    where
      go : (b : Bool) → is? h (predecessor_of held v) ≡ b → (successor_from n held h j (suc v) ≡ some w → Follows h w) → Follows h w
      go true q ih =
          let x : v ≡ w = some-injective v w (sym (successor-here h j v q) ∙ f) in
          (omega arith, ap (predecessor_of held) (sym x) ∙ is_true h (predecessor_of held v) q)
      go false q ih = ih (sym (successor_on h j v q) ∙ f)

  pub successor_fact : (h w : ℕ) → successor n held h ≡ some w → (w < n) × (predecessor_of held w ≡ some h)
  unfolding successor
  successor_fact h w = successor-from h n 0 w (omega arith)

  -- ---- from a vertex back to the one that begins its channel

  -- a is i steps back from v, and has no predecessor
  pub data Back : ℕ → ℕ → ℕ → Type 0 where
    stop : {a : ℕ} → predecessor_of held a ≡ none → Back a 0 a
    step : {v p i a : ℕ} → predecessor_of held v ≡ some p → Back p i a → Back v (suc i) a

  back_unique : {v i j a b : ℕ} → Back v i a → Back v j b → (i ≡ j) × (a ≡ b)
  back_unique (stop e) (stop f) = (refl, refl)
  back_unique (stop e) (step {p = p} f r) = absurd (none-ne-some p (sym e ∙ f))
  back_unique (step {p = p} e r) (stop f) = absurd (none-ne-some p (sym f ∙ e))
  back_unique {j = j} {b = b} (step {p = p} {i = i} e r) (step {p = q} {i = k} f t) =
      let u = back_unique r (subst (λ x. Back x k b) (some-injective q p (sym f ∙ e)) t) in (ap suc u.0, u.1)

  -- a vertex of a chain leads back to where the chain began
  pub chain_in : (k x v i a : ℕ) → x < n → Back x i a → 0 < times v (chain n held k (some x)) → (j : ℕ) × (i ≤ j) × (v < n) × Back v j a
  unfolding chain
  chain_in zero x v i a l b h = absurd (omega (arith, times_none v))
  chain_in (suc k) x v i a l b h = go (ℕ_discrete v x) (successor n held x) refl
      (λ w e p. let f = successor_fact x w e in chain_in k w v (suc i) a f.0 (step f.1 b) p)
    where
      rest : List ℕ
      rest = chain n held k (successor n held x)

      go : Dec (v ≡ x) → (m : Option ℕ) → successor n held x ≡ m
          → ((w : ℕ) → successor n held x ≡ some w → 0 < times v (chain n held k (some w)) → (j : ℕ) × (suc i ≤ j) × (v < n) × Back v j a)
          → (j : ℕ) × (i ≤ j) × (v < n) × Back v j a
      go (yes q) m e ih = (i, omega arith, omega arith, subst (λ y. Back y i a) (sym q) b)
      go (no q) none e ih =
          absurd (omega (arith, times_other x v rest q, ap (λ m. times v (chain n held k m)) e, ap (times v) (chain_none k), times_none v))
      go (no q) (some w) e ih =
          let r = ih w e (omega (arith, times_other x v rest q, ap (λ m. times v (chain n held k m)) e)) in
          (r.0, omega (arith, r.1), r.2, r.3)

  -- and stands in it once
  pub chain_once : (k x v i a : ℕ) → x < n → Back x i a → times v (chain n held k (some x)) ≤ 1
  unfolding chain
  chain_once zero x v i a l b = omega (arith, times_none v)
  chain_once (suc k) x v i a l b = go (ℕ_discrete v x) (successor n held x) refl
      (λ w e. let f = successor_fact x w e in chain_once k w v (suc i) a f.0 (step f.1 b))
    where
      rest : List ℕ
      rest = chain n held k (successor n held x)

      at : (m : Option ℕ) → successor n held x ≡ m → times v rest ≡ times v (chain n held k m)
      at m e = ap (λ m. times v (chain n held k m)) e

      new : v ≡ x → (w : ℕ) → successor n held x ≡ some w → Dec (0 < times v rest) → times v rest ≡ 0
      new q w e (yes p) = absurd (
          let f = successor_fact x w e in
          let r = chain_in k w v (suc i) a f.0 (step f.1 b) (omega (arith, at (some w) e)) in
          let u = back_unique (subst (λ y. Back y i a) (sym q) b) r.3 in
          omega (arith, r.1, u.0))
      new q w e (no p) = omega arith

      go : Dec (v ≡ x) → (m : Option ℕ) → successor n held x ≡ m
          → ((w : ℕ) → successor n held x ≡ some w → times v (chain n held k (some w)) ≤ 1)
          → times v (x ∷ rest) ≤ 1
      go (yes q) none e ih =
          omega (arith, at none e, ap (times v) (chain_none k), times_none v, ap (λ y. times v (y ∷ rest)) q, times-here v rest)
      go (yes q) (some w) e ih = omega (arith, new q w e (dec_lt 0 (times v rest)), ap (λ y. times v (y ∷ rest)) q, times-here v rest)
      go (no q) none e ih = omega (arith, at none e, ap (times v) (chain_none k), times_none v, times_other x v rest q)
      go (no q) (some w) e ih = omega (arith, at (some w) e, ih w e, times_other x v rest q)

  -- ---- the channels begun below v, at most k deep

  module _ (k : ℕ) where
    -- u leads back to a vertex below v
    abbrev From : ℕ → ℕ → Type 0
    From u v = (a : ℕ) × (j : ℕ) × (a < v) × (u < n) × Back u j a

    whole : (u v : ℕ) → predecessor_of held v ≡ none
        → times u (flatten (begun n held k (suc v))) ≡ times u (flatten (begun n held k v)) + times u (chain n held k (some v))
    whole u v e = ap (λ x. times u (flatten x)) (begun_yes k v e) ∙ times_snoc u (begun n held k v) (chain n held k (some v))

    begun_in : (v u : ℕ) → v ≤ n → 0 < times u (flatten (begun n held k v)) → From u v
    unfolding flatten
    begun_in zero u l h = absurd (omega (arith, ap (λ x. times u (flatten x)) (begun_none k), times_none u))
    begun_in (suc v) u l h = go (predecessor_of held v) refl (dec_lt 0 (times u (chain n held k (some v)))) (begun_in v u (omega arith))
      where
        grow : From u v → From u (suc v)
        grow r = (r.0, r.1, omega (arith, r.2), r.3, r.4)

        go : (m : Option ℕ) → predecessor_of held v ≡ m → Dec (0 < times u (chain n held k (some v)))
            → (0 < times u (flatten (begun n held k v)) → From u v) → From u (suc v)
        go none e (yes p) ih = let r = chain_in k v u 0 v (omega arith) (stop e) p in (v, r.0, omega arith, r.2, r.3)
        go none e (no p) ih = grow (ih (omega (arith, whole u v e)))
        go (some x) e d ih = grow (ih (omega (arith, ap (λ z. times u (flatten z)) (begun_no k v x e))))

    pub begun_once : (v u : ℕ) → v ≤ n → times u (flatten (begun n held k v)) ≤ 1
    unfolding flatten
    begun_once zero u l = omega (arith, ap (λ x. times u (flatten x)) (begun_none k), times_none u)
    begun_once (suc v) u l =
        go (predecessor_of held v) refl (dec_lt 0 (times u (chain n held k (some v)))) (dec_lt 0 (times u (flatten (begun n held k v))))
        (begun_once v u (omega arith))
      where
        go : (m : Option ℕ) → predecessor_of held v ≡ m → Dec (0 < times u (chain n held k (some v)))
            → Dec (0 < times u (flatten (begun n held k v)))
            → times u (flatten (begun n held k v)) ≤ 1 → times u (flatten (begun n held k (suc v))) ≤ 1
        go none e (yes p) (yes q) ih = absurd (
            let r = begun_in v u (omega arith) q in
            let s = chain_in k v u 0 v (omega arith) (stop e) p in
            let b = back_unique r.4 s.3 in
            omega (arith, r.2, b.1))
        go none e (yes p) (no q) ih = omega (arith, whole u v e, chain_once k v u 0 v (omega arith) (stop e))
        go none e (no p) q ih = omega (arith, whole u v e)
        go (some x) e p q ih = subst (λ z. times u (flatten z) ≤ 1) (sym (begun_no k v x e)) ih

    pub begun_within : (v : ℕ) → v ≤ n → Within n (flatten (begun n held k v))
    begun_within v l u h = go (dec_lt 0 (times u (flatten (begun n held k v))))
      where
        go : Dec (0 < times u (flatten (begun n held k v))) → times u (flatten (begun n held k v)) ≡ 0
        go (yes p) = absurd (let r = begun_in v u l p in omega (arith, r.3))
        go (no p) = omega arith

    -- so there is room for all of them
    pub begun_room : (v : ℕ) → v ≤ n → length (flatten (begun n held k v)) ≤ n
    begun_room v l = length-bound n (flatten (begun n held k v)) (begun_within v l) (λ u m. begun_once v u l)

    -- as many channels as vertices without predecessor
    pub begun_count : (v : ℕ) → length (begun n held k v) ≡ count v (begins n held)
    unfolding begun count sum
    begun_count zero = refl
    begun_count (suc v) = go (begins n held v) refl (begun_count v)
      where
        go : (b : Bool) → begins n held v ≡ b → length (begun n held k v) ≡ count v (begins n held)
            → length (begun n held k (suc v)) ≡ count v (begins n held) + indicator (begins n held v)
        go true e ih = rw e (omega (arith, length-append (begun n held k v) (chain n held k (some v) ∷ []), ih))
        go false e ih = rw e (omega (arith, ih))

  -- ---- a channel that begins with v ends after at most n vertices

  pub chain_room : (k v : ℕ) → v < n → predecessor_of held v ≡ none → length (chain n held k (some v)) ≤ n
  chain_room k v l e =
      length-bound n (chain n held k (some v)) (λ u m. within u m (dec_lt 0 (times u (chain n held k (some v)))))
      (λ u m. chain_once k v u 0 v l (stop e))
    where
      within : (u : ℕ) → n ≤ u → Dec (0 < times u (chain n held k (some v))) → times u (chain n held k (some v)) ≡ 0
      within u m (yes p) = absurd (let r = chain_in k v u 0 v l (stop e) p in omega (arith, r.2))
      within u m (no p) = omega arith

-- ---- channels depend on the n vertices' predecessors alone

module _ (n : ℕ) (held held' : List Held) (same : (v : ℕ) → v < n → predecessor_of held v ≡ predecessor_of held' v) where
  successor-same : (h j v : ℕ) → v + j ≤ n → successor_from n held h j v ≡ successor_from n held' h j v
  unfolding successor_from
  successor-same h zero v l = refl
  successor-same h (suc j) v l = rw (same v (omega arith), successor-same h j (suc v) (omega arith)) refl

  chain_same : (k : ℕ) (m : Option ℕ) → chain n held k m ≡ chain n held' k m
  unfolding chain successor
  chain_same zero m = refl
  chain_same (suc k) none = refl
  chain_same (suc k) (some v) =
      ap (λ l. v ∷ l) (chain_same k (successor n held v) ∙ ap (chain n held' k) (successor-same v n 0 (omega arith)))

  pub begun-same : (k v : ℕ) → v ≤ n → begun n held k v ≡ begun n held' k v
  unfolding begun begins
  begun-same k zero l = refl
  begun-same k (suc v) l = rw (same v (omega arith), begun-same k v (omega arith), chain_same k (some v)) refl
