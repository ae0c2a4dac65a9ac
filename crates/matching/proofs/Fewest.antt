-- No division that has the given channels whole among its parts has fewer parts than there are channels, given and beside. Such a division,
-- with each held vertex but the first of its channel moved to a part of its own, is one by the masked relation, for which the rule's
-- channels are the least. Assumes nothing.
use Rattle.counting.proofs.Prelude.{◌≡◌, refl, sym, ap, ◌∙◌, ◌≢◌, ◌⊎◌, inl, inr, ⊎_elim, Bool, true, false, false≢true, not, ◌&&◌, ℕ, suc}
use Rattle.counting.proofs.Prelude.{◌+◌, ◌≤◌, ◌<◌, arith, length, get_or}
use mathlib.Core.List.{List, [], ◌∷◌, flatten}
use native.Mathlib.Decide.{ℕ_discrete, dec_lt}
use Rattle.specification.specs.Count.{indicator, sum, count, choose}
use Rattle.specification.specs.Planning.{planned_to, planned, matching}
use Rattle.specification.specs.Channels.{times, has, every}
use Rattle.specification.specs.Given.{held_in, masked, beside, with_given, Whole}
use Rattle.counting.proofs.Truth.{and_elim}
use Rattle.counting.proofs.Sums.{sum_ext}
use Rattle.counting.proofs.Classes.{sum-add, sum_longer}
use Rattle.matching.specs.Lists.{full}
use Rattle.matching.specs.Division.{Division}
use Rattle.matching.specs.Given.{Fitting}
use Rattle.matching.proofs.Lists.{times_none, times-here, times_other, times-append, has_true, has_false, times-has, length-times}
use Rattle.matching.proofs.Planned.{planned-least}
use Rattle.matching.proofs.Without.{line_in, line-channel}
use Rattle.matching.proofs.Beside.{masked_intro, given-length, besides, besides_sound, laid-count}

-- ---- the first vertex of each channel

unfoldable heads : List (List ℕ) → List ℕ
heads [] = []
heads ([] ∷ ls) = heads ls
heads ((x ∷ l) ∷ ls) = x ∷ heads ls

heads-length : (ls : List (List ℕ)) → every full ls ≡ true → length (heads ls) ≡ length ls
unfolding heads every
heads-length [] e = refl
heads-length ([] ∷ ls) e = absurd (false≢true e)
heads-length ((x ∷ l) ∷ ls) e = ap suc (heads-length ls (and_elim (full (x ∷ l)) (every full ls) e).1)

heads-times : (v : ℕ) (ls : List (List ℕ)) → times v (heads ls) ≤ times v (flatten ls)
unfolding heads flatten times
heads-times v [] = omega arith
heads-times v ([] ∷ ls) = heads-times v ls
heads-times v ((x ∷ l) ∷ ls) = omega (arith, heads-times v ls, times-append v l (flatten ls))

-- a channel that begins with v
abbrev Headed : ℕ → List (List ℕ) → Type 0
Headed v ls = (c : ℕ) × (c < length ls) × (l : List ℕ) × (get_or ls c [] ≡ v ∷ l)

heads_line : (v : ℕ) (ls : List (List ℕ)) → 0 < times v (heads ls) → Headed v ls
unfolding heads
heads_line v [] h = absurd (omega (arith, times_none v))
heads_line v ([] ∷ ls) h = let r = heads_line v ls h in (suc r.0, omega (arith, r.1), r.2, r.3)
heads_line v ((x ∷ l) ∷ ls) h = go (ℕ_discrete v x) (heads_line v ls)
  where
    go : Dec (v ≡ x) → (0 < times v (heads ls) → Headed v ls) → Headed v ((x ∷ l) ∷ ls)
    go (yes e) ih = (0, omega arith, l, ap (λ y. y ∷ l) (sym e))
    go (no e) ih = let r = ih (omega (arith, times_other x v (heads ls) e)) in (suc r.0, omega (arith, r.1), r.2, r.3)

headed_has : (v : ℕ) (ls : List (List ℕ)) (a : Headed v ls) → has v (get_or ls a.0 []) ≡ true
headed_has v ls a = ap (has v) a.3 ∙ times-has v (v ∷ a.2) (omega (arith, times-here v a.2))

-- more are counted past one that passes
count_past : (f : ℕ → Bool) (u v : ℕ) → f u ≡ true → u < v → count u f < count v f
unfolding count sum
count_past f u v e l = omega (arith, sum_longer (suc u) v (λ i. indicator (f i)) l, ap indicator e)

module _ (leads : ℕ → ℕ → Bool) (n : ℕ) (given : List (List ℕ)) (f : Fitting n given) where
  abbrev held : ℕ → Bool
  held = held_in given

  -- a held vertex that is not the first of its channel
  unfoldable rest : ℕ → Bool
  rest v = held v && not (has v (heads given))

  rest-or-first : (v : ℕ) → indicator (held v) ≡ indicator (rest v) + times v (heads given)
  unfolding rest held_in
  rest-or-first v = go (has v (flatten given)) refl (has v (heads given)) refl
    where
      less : times v (heads given) ≤ times v (flatten given)
      less = heads-times v given

      go : (a : Bool) → has v (flatten given) ≡ a → (b : Bool) → has v (heads given) ≡ b
          → indicator (has v (flatten given)) ≡ indicator (has v (flatten given) && not (has v (heads given))) + times v (heads given)
      go true p true q = rw (p, q) (omega (arith, less, f.once v, has_true v (heads given) q))
      go true p false q = rw (p, q) (omega (arith, has_false v (heads given) q))
      go false p b q = rw p (omega (arith, less, has_false v (flatten given) p))

  held-count : count n held ≡ count n rest + length given
  unfolding count
  held-count = omega (
    arith,
    sum_ext n (λ v. indicator (held v)) (λ v. indicator (rest v) + times v (heads given)) (λ v l. rest-or-first v),
    sum-add n (λ v. indicator (rest v)) (λ v. times v (heads given)),
    length-times n (heads given) (λ v l. omega (arith, heads-times v given, f.only v l)),
    heads-length given f.filled,
  )

  -- ---- a division that has the given channels whole

  module _ (m : ℕ) (part : ℕ → ℕ) (d : Division leads n m part) (w : Whole n given part) where
    -- each vertex of `rest` by itself
    unfoldable moved : ℕ → ℕ
    moved v = choose (rest v) (λ _. m + count v rest) (λ _. part v)

    moved-rest : (v : ℕ) → rest v ≡ true → moved v ≡ m + count v rest
    unfolding moved
    moved-rest v e = rw e

    moved_other : (v : ℕ) → rest v ≡ false → moved v ≡ part v
    unfolding moved
    moved_other v e = rw e

    first_of : (v : ℕ) → rest v ≡ false → held v ≡ true → Headed v given
    first_of v e h = heads_line v given (omega (arith, rest-or-first v, ap indicator e, ap indicator h))

    -- with the first vertex of a given channel no other is left in its part
    by_itself : (u v : ℕ) → v < n → rest u ≡ false → held u ≡ true → rest v ≡ false → part u ≡ part v → u ≡ v
    unfolding held_in
    by_itself u v l ru hu rv e =
        let a : Headed u given = first_of u ru hu in
        let its : has v (get_or given a.0 []) ≡ true = (w.exact a.0 u v a.1 (headed_has u given a) l).0 e in
        let b : Headed v given = first_of v rv (times-has v (flatten given) (line_in a.0 given v a.1 its)) in
        let same : a.0 ≡ b.0 = omega (
          arith,
          line-channel 0 a.0 given v (f.once v) a.1 its,
          line-channel 0 b.0 given v (f.once v) b.1 (headed_has v given b),
        ) in
        ap (λ x. get_or x 0 0) (sym a.3 ∙ ap (λ c. get_or given c []) same ∙ b.3)

    abbrev Masked : ℕ → ℕ → Type 0
    Masked u v = (masked held leads u v ≡ true) ⊎ (masked held leads v u ≡ true)

    moved-related : (u v : ℕ) → u < n → v < n → u ≢ v → moved u ≡ moved v → Masked u v
    moved-related u v l k ne e = go (rest u) refl (rest v) refl
      where
        both : rest u ≡ false → rest v ≡ false → part u ≡ part v → (a : Bool) → held u ≡ a → (b : Bool) → held v ≡ b → Masked u v
        both ru rv p true hu b hv = absurd (ne (by_itself u v k ru hu rv p))
        both ru rv p false hu true hv = absurd (ne (sym (by_itself v u l rv hv ru (sym p))))
        both ru rv p false hu false hv =
            ⊎_elim (λ t. inl (masked_intro held leads u v hu hv t)) (λ t. inr (masked_intro held leads v u hv hu t))
            (d.related u v l k ne p)

        two : rest u ≡ true → rest v ≡ true → Dec (u < v) → ⊥
        two ru rv (yes b) = omega (arith, moved-rest u ru, moved-rest v rv, count_past rest u v ru b)
        two ru rv (no b) = omega (arith, moved-rest u ru, moved-rest v rv, count_past rest v u rv (omega arith))

        go : (a : Bool) → rest u ≡ a → (b : Bool) → rest v ≡ b → Masked u v
        go true ru true rv = absurd (two ru rv (dec_lt u v))
        go true ru false rv = absurd (omega (arith, moved-rest u ru, moved_other v rv, d.below v k))
        go false ru true rv = absurd (omega (arith, moved-rest v rv, moved_other u ru, d.below u l))
        go false ru false rv = both ru rv (sym (moved_other u ru) ∙ e ∙ moved_other v rv) (held u) refl (held v) refl

    moved_below : (v : ℕ) → v < n → moved v < m + count n rest
    moved_below v l = go (rest v) refl
      where
        go : (b : Bool) → rest v ≡ b → moved v < m + count n rest
        go true e = omega (arith, moved-rest v e, count_past rest v n e l)
        go false e = omega (arith, moved_other v e, d.below v l)

    -- for any relation: no such division has fewer parts
    pub given-least : length (with_given leads n given) ≤ m
    unfolding beside planned planned_to matching
    given-least = omega (
      arith,
      given-length leads n given,
      planned-least (masked held leads) n (m + count n rest) moved (record { below = moved_below; related = moved-related }),
      laid-count held leads n (besides leads n given) (besides_sound leads n given) n,
      held-count,
    )
