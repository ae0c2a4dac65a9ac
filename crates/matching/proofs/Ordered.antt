-- Channels that hold every vertex once, each leading to the next, are a division, if `leads` is a strict order. Assumes nothing.
use Rattle.counting.proofs.Prelude.{◌≡◌, refl, sym, ap, ◌∙◌, ◌≢◌, ◌⊎◌, inl, inr, ⊎_elim, Bool, true, false, false≢true, ℕ, zero, suc, ◌+◌}
use Rattle.counting.proofs.Prelude.{◌≤◌, ◌<◌, arith, length, eq-eqb, ne_eqb}
use mathlib.Core.List.{List, [], ◌∷◌, flatten}
use native.Mathlib.Nat.{not-suc-le-zero}
use native.Mathlib.Decide.{ℕ_discrete, dec_lt}
use Rattle.counting.proofs.Truth.{and_elim, lt-or-le}
use Rattle.specification.specs.Channels.{times, has, place_from, linked, channel_from, channel_of, position_of, every, all_linked}
use Rattle.matching.specs.Lists.{full}
use Rattle.matching.specs.Division.{Order, Covers, Channelled}
use Rattle.matching.proofs.Lists.{Within, within_head, within_tail, within_has, times_other, times_none, times-append, has_true}
use Rattle.matching.proofs.Lists.{has_false, times-here, times-has, times_hasnt}

-- ---- places in one channel

place_first : (p x : ℕ) (l : List ℕ) → place_from p (x ∷ l) x ≡ p
unfolding place_from
place_first p x l = rw (eq-eqb x x refl)

place_later : (p x v : ℕ) (l : List ℕ) → v ≢ x → place_from p (x ∷ l) v ≡ place_from (suc p) l v
unfolding place_from
place_later p x v l d = rw (ne_eqb x v (λ e. d (sym e)))

place_le : (p v : ℕ) (l : List ℕ) → 0 < times v l → p ≤ place_from p l v
place_le p v [] h = absurd (omega (arith, times_none v))
place_le p v (x ∷ l) h = go (ℕ_discrete v x) (place_le (suc p) v l)
  where
    go : Dec (v ≡ x) → (0 < times v l → suc p ≤ place_from (suc p) l v) → p ≤ place_from p (x ∷ l) v
    go (yes q) ih = omega (arith, ap (λ y. place_from p (y ∷ l) v) (sym q), place_first p v l)
    go (no q) ih = omega (arith, ih (omega (arith, times_other x v l q)), place_later p x v l q)

-- what is asked of two vertices of a list, by their places
module _ (Q : ℕ → ℕ → Type 0) where
  -- both stand further on, or one of them first
  two-places : (p x u v : ℕ) (l : List ℕ) → 0 < times u (x ∷ l) → 0 < times v (x ∷ l)
      → (u ≡ x → v ≡ x → Q (place_from p (x ∷ l) u) (place_from p (x ∷ l) v))
      → (u ≡ x → v ≢ x → 0 < times v l → Q (place_from p (x ∷ l) u) (place_from p (x ∷ l) v))
      → (u ≢ x → v ≡ x → 0 < times u l → Q (place_from p (x ∷ l) u) (place_from p (x ∷ l) v))
      → (u ≢ x → v ≢ x → 0 < times u l → 0 < times v l → Q (place_from p (x ∷ l) u) (place_from p (x ∷ l) v))
      → Q (place_from p (x ∷ l) u) (place_from p (x ∷ l) v)
  two-places p x u v l hu hv a b c d = go (ℕ_discrete u x) (ℕ_discrete v x)
    where
      go : Dec (u ≡ x) → Dec (v ≡ x) → Q (place_from p (x ∷ l) u) (place_from p (x ∷ l) v)
      go (yes e) (yes f) = a e f
      go (yes e) (no f) = b e f (omega (arith, times_other x v l f))
      go (no e) (yes f) = c e f (omega (arith, times_other x u l e))
      go (no e) (no f) = d e f (omega (arith, times_other x u l e)) (omega (arith, times_other x v l f))

place_apart : (p u v : ℕ) (l : List ℕ) → 0 < times u l → 0 < times v l → place_from p l u ≡ place_from p l v → u ≡ v
place_apart p u v [] hu hv = absurd (omega (arith, times_none u))
place_apart p u v (x ∷ l) hu hv =
    two-places (λ a b. a ≡ b → u ≡ v) p x u v l hu hv
    (λ e f o. e ∙ sym f)
    (λ e f h o. absurd (omega (arith, ap (place_from p (x ∷ l)) e, place_first p x l, place_later p x v l f, place_le (suc p) v l h)))
    (λ e f h o. absurd (omega (arith, ap (place_from p (x ∷ l)) f, place_first p x l, place_later p x u l e, place_le (suc p) u l h)))
    (λ e f g h o. place_apart (suc p) u v l g h (sym (place_later p x u l e) ∙ o ∙ place_later p x v l f))

module _ (leads : ℕ → ℕ → Bool) where
  linked_head : (x y : ℕ) (l : List ℕ) → linked leads (x ∷ y ∷ l) ≡ true → (leads x y ≡ true) × (linked leads (y ∷ l) ≡ true)
  unfolding linked
  linked_head x y l e = and_elim (leads x y) (linked leads (y ∷ l)) e

  linked_tail : (x : ℕ) (l : List ℕ) → linked leads (x ∷ l) ≡ true → linked leads l ≡ true
  unfolding linked
  linked_tail x [] e = refl
  linked_tail x (y ∷ l) e = (linked_head x y l e).1

  -- each leads to the next
  place_next : (p u v : ℕ) (l : List ℕ) → linked leads l ≡ true → 0 < times u l → 0 < times v l → place_from p l v ≡ suc (place_from p l u)
      → leads u v ≡ true
  place_next p u v [] k hu hv = absurd (omega (arith, times_none u))
  place_next p u v (x ∷ l) k hu hv =
      two-places (λ a b. b ≡ suc a → leads u v ≡ true) p x u v l hu hv
      (λ e f o. absurd (omega (arith, ap (place_from p (x ∷ l)) (e ∙ sym f))))
      (λ e f h o. rw e (second l k h (sym (place_later p x v l f) ∙ o ∙ ap suc (ap (place_from p (x ∷ l)) e ∙ place_first p x l))))
      (λ e f h o. absurd (omega (arith, ap (place_from p (x ∷ l)) f, place_first p x l, place_later p x u l e, place_le (suc p) u l h)))
      (λ e f g h o. place_next (suc p) u v l (linked_tail x l k) g h (sym (place_later p x v l f) ∙ o ∙ ap suc (place_later p x u l e)))
    where
      second : (l : List ℕ) → linked leads (x ∷ l) ≡ true → 0 < times v l → place_from (suc p) l v ≡ suc p → leads x v ≡ true
      second [] k h o = absurd (omega (arith, times_none v))
      second (y ∷ l) k h o = go (ℕ_discrete v y)
        where
          go : Dec (v ≡ y) → leads x v ≡ true
          go (yes q) = rw q (linked_head x y l k).0
          go (no q) = absurd (omega (arith, place_later (suc p) y v l q, place_le (suc (suc p)) v l (omega (arith, times_other y v l q))))

  module _ (n : ℕ) (trans : (a b c : ℕ) → a < n → b < n → c < n → leads a b ≡ true → leads b c ≡ true → leads a c ≡ true) where
    -- the first leads to all others
    first-leads : (x v : ℕ) (l : List ℕ) → Within n (x ∷ l) → linked leads (x ∷ l) ≡ true → 0 < times v l → leads x v ≡ true
    first-leads x v [] w k h = absurd (omega (arith, times_none v))
    first-leads x v (y ∷ l) w k h = go (ℕ_discrete v y) (first-leads y v l (within_tail n x (y ∷ l) w) (linked_head x y l k).1)
      where
        go : Dec (v ≡ y) → (0 < times v l → leads y v ≡ true) → leads x v ≡ true
        go (yes q) ih = rw q (linked_head x y l k).0
        go (no q) ih =
            let tail : Within n (y ∷ l) = within_tail n x (y ∷ l) w in
            trans x y v (within_head n x (y ∷ l) w) (within_head n y l tail) (within_has n v (y ∷ l) tail h) (linked_head x y l k).0
            (ih (omega (arith, times_other y v l q)))

    -- each leads to every later one
    place_leads : (p u v : ℕ) (l : List ℕ) → Within n l → linked leads l ≡ true → 0 < times u l → 0 < times v l
        → place_from p l u < place_from p l v → leads u v ≡ true
    place_leads p u v [] w k hu hv = absurd (omega (arith, times_none u))
    place_leads p u v (x ∷ l) w k hu hv =
        two-places (λ a b. a < b → leads u v ≡ true) p x u v l hu hv
        (λ e f o. absurd (omega (arith, ap (place_from p (x ∷ l)) (e ∙ sym f))))
        (λ e f h o. rw e (first-leads x v l w k h))
        (λ e f h o. absurd (omega (arith, ap (place_from p (x ∷ l)) f, place_first p x l, place_later p x u l e, place_le (suc p) u l h)))
        (λ e f g h o. place_leads (suc p) u v l (within_tail n x l w) (linked_tail x l k) g h
        (omega (arith, place_later p x u l e, place_later p x v l f)))

-- ---- channels

pub channel-here : (c : ℕ) (l : List ℕ) (ls : List (List ℕ)) (v : ℕ) → has v l ≡ true → channel_from c (l ∷ ls) v ≡ c
unfolding channel_from
channel-here c l ls v e = rw e

pub channel_on : (c : ℕ) (l : List ℕ) (ls : List (List ℕ)) (v : ℕ) → has v l ≡ false → channel_from c (l ∷ ls) v ≡ channel_from (suc c) ls v
unfolding channel_from
channel_on c l ls v e = rw e

position_here : (l : List ℕ) (ls : List (List ℕ)) (v : ℕ) → has v l ≡ true → position_of (l ∷ ls) v ≡ place_from 0 l v
unfolding position_of
position_here l ls v e = rw e

position_on : (l : List ℕ) (ls : List (List ℕ)) (v : ℕ) → has v l ≡ false → position_of (l ∷ ls) v ≡ position_of ls v
unfolding position_of
position_on l ls v e = rw e

pub further : (v : ℕ) (l : List ℕ) (ls : List (List ℕ)) → has v l ≡ false → 0 < times v (flatten (l ∷ ls)) → 0 < times v (flatten ls)
unfolding flatten
further v l ls e h = omega (arith, times-append v l (flatten ls), has_false v l e)

pub channel_range : (c : ℕ) (ls : List (List ℕ)) (v : ℕ) → 0 < times v (flatten ls)
    → (c ≤ channel_from c ls v) × (channel_from c ls v < c + length ls)
unfolding flatten
channel_range c [] v h = absurd (omega (arith, times_none v))
channel_range c (l ∷ ls) v h = go (has v l) refl (channel_range (suc c) ls v)
  where
    go : (b : Bool) → has v l ≡ b
        → (0 < times v (flatten ls) → (suc c ≤ channel_from (suc c) ls v) × (channel_from (suc c) ls v < suc c + length ls))
        → (c ≤ channel_from c (l ∷ ls) v) × (channel_from c (l ∷ ls) v < c + suc (length ls))
    go true e ih = rw (channel-here c l ls v e) (omega arith, omega arith)
    go false e ih = let r = ih (further v l ls e h) in rw (channel_on c l ls v e) (omega (arith, r.0), omega (arith, r.1))

-- each channel is some vertex's, if none is empty and no vertex stands twice
used_from : (c : ℕ) (ls : List (List ℕ)) → every full ls ≡ true → ((v : ℕ) → times v (flatten ls) ≤ 1) → (k : ℕ) → k < length ls
    → (v : ℕ) × (0 < times v (flatten ls)) × (channel_from c ls v ≡ c + k)
unfolding flatten every
used_from c [] f o k h = absurd (not-suc-le-zero h)
used_from c ([] ∷ ls) f o k h = absurd (false≢true f)
used_from c ((x ∷ l) ∷ ls) f o zero h = (
  x,
  omega (arith, times-append x (x ∷ l) (flatten ls), times-here x l),
  channel-here c (x ∷ l) ls x
      (times-has x (x ∷ l) (omega (arith, times-here x l))) ∙ omega arith,
)
used_from c ((x ∷ l) ∷ ls) f o (suc k) h =
    let r = used_from (suc c) ls (and_elim (full (x ∷ l)) (every full ls) f).1
    (λ v. omega (arith, o v, times-append v (x ∷ l) (flatten ls))) k (omega arith) in
    let a = times-append r.0 (x ∷ l) (flatten ls) in (
      r.0,
      omega (arith, r.1),
      channel_on c (x ∷ l) ls r.0 (times_hasnt r.0 (x ∷ l) (omega (arith, o r.0, r.1))) ∙ r.2
          ∙ omega arith,
    )

-- two vertices of one channel: what their places in it say, their positions say
module _ (Q : ℕ → ℕ → Type 0) (u v : ℕ) (T : List ℕ → Type 0)
    (each : (l : List ℕ) → T l → 0 < times u l → 0 < times v l → Q (place_from 0 l u) (place_from 0 l v))
    (A : List (List ℕ) → Type 0) (apart : (l : List ℕ) (ls : List (List ℕ)) → A (l ∷ ls) → T l × A ls) where
  one-channel : (c : ℕ) (ls : List (List ℕ)) → A ls → 0 < times u (flatten ls) → 0 < times v (flatten ls)
      → channel_from c ls u ≡ channel_from c ls v → Q (position_of ls u) (position_of ls v)
  unfolding flatten
  one-channel c [] t hu hv e = absurd (omega (arith, times_none u))
  one-channel c (l ∷ ls) t hu hv e = go (has u l) refl (has v l) refl (one-channel (suc c) ls (apart l ls t).1)
    where
      go : (a : Bool) → has u l ≡ a → (b : Bool) → has v l ≡ b
          → (0 < times u (flatten ls) → 0 < times v (flatten ls) → channel_from (suc c) ls u ≡ channel_from (suc c) ls v
          → Q (position_of ls u) (position_of ls v))
          → Q (position_of (l ∷ ls) u) (position_of (l ∷ ls) v)
      go true p true q ih = rw (position_here l ls u p, position_here l ls v q) (each l (apart l ls t).0 (has_true u l p) (has_true v l q))
      go true p false q ih =
          absurd (omega (arith, channel-here c l ls u p, channel_on c l ls v q, (channel_range (suc c) ls v (further v l ls q hv)).0))
      go false p true q ih =
          absurd (omega (arith, channel-here c l ls v q, channel_on c l ls u p, (channel_range (suc c) ls u (further u l ls p hu)).0))
      go false p false q ih =
          rw (position_on l ls u p, position_on l ls v q)
          (ih (further u l ls p hu) (further v l ls q hv) (sym (channel_on c l ls u p) ∙ e ∙ channel_on c l ls v q))

module _ (leads : ℕ → ℕ → Bool) (n : ℕ) where
  -- what is known of each channel, and of those after the first
  abbrev Part : List ℕ → Type 0
  Part l = Within n l × (linked leads l ≡ true)

  abbrev Parts : List (List ℕ) → Type 0
  Parts ls = Within n (flatten ls) × (all_linked leads ls ≡ true)

  split : (l : List ℕ) (ls : List (List ℕ)) → Parts (l ∷ ls) → Part l × Parts ls
  unfolding flatten every
  split l ls t =
      let a : (linked leads l ≡ true) × (all_linked leads ls ≡ true) = and_elim (linked leads l) (all_linked leads ls) t.1 in (
        ((λ v h. omega (arith, t.0 v h, times-append v l (flatten ls))), a.0),
        ((λ v h. omega (arith, t.0 v h, times-append v l (flatten ls))), a.1),
      )

  module _ (o : Order leads n) (ls : List (List ℕ)) (c : Covers leads n ls) where
    parts : Parts ls
    parts = (c.only, c.next)

    there : (v : ℕ) → v < n → 0 < times v (flatten ls)
    there v l = omega (arith, c.once v l)

    one : (v : ℕ) → times v (flatten ls) ≤ 1
    one v = ⊎_elim (λ l. omega (arith, c.once v l)) (λ l. omega (arith, c.only v l)) (lt-or-le v n)

    later : (u v : ℕ) → u < n → v < n → channel_of ls u ≡ channel_of ls v → position_of ls u < position_of ls v → leads u v ≡ true
    unfolding channel_of
    later u v l m e = one-channel (λ a b. a < b → leads u v ≡ true) u v Part
        (λ k t hu hv. place_leads leads n o.trans 0 u v k t.0 t.1 hu hv) Parts split 0 ls parts (there u l) (there v m) e

    apart : (u v : ℕ) → u < n → v < n → channel_of ls u ≡ channel_of ls v → position_of ls u ≡ position_of ls v → u ≡ v
    unfolding channel_of
    apart u v l m e =
        one-channel (λ a b. a ≡ b → u ≡ v) u v Part (λ k t hu hv. place_apart 0 u v k hu hv) Parts split 0 ls parts (there u l) (there v m)
        e

    pub channelled : Channelled leads n (length ls) (channel_of ls) (position_of ls)
    unfolding channel_of
    channelled = record {
      division = record {
        below = λ v l. omega (arith, (channel_range 0 ls v (there v l)).1);
        related =
            λ u v l m d e. go u v l m d e (ℕ_discrete (position_of ls u) (position_of ls v)) (dec_lt (position_of ls u) (position_of ls v));
      };
      used =
          λ k h. let r = used_from 0 ls c.filled one k h in
          (r.0, within_has n r.0 (flatten ls) c.only r.1, r.2 ∙ omega arith);
      next = λ u v l m e. one-channel (λ a b. b ≡ suc a → leads u v ≡ true) u v Part
          (λ k t hu hv. place_next leads 0 u v k t.1 hu hv) Parts split 0 ls parts (there u l) (there v m) e;
      later = later;
      apart = apart;
    }
      where
        go : (u v : ℕ) → u < n → v < n → u ≢ v → channel_of ls u ≡ channel_of ls v → Dec (position_of ls u ≡ position_of ls v)
            → Dec (position_of ls u < position_of ls v)
            → (leads u v ≡ true) ⊎ (leads v u ≡ true)
        go u v l m d e (yes p) q = absurd (d (apart u v l m e p))
        go u v l m d e (no p) (yes q) = inl (later u v l m e q)
        go u v l m d e (no p) (no q) = inr (later v u m l (sym e) (omega arith))
