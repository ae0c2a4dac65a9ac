-- Given channels and those planned beside them: together they hold every vertex once and are a division in which each given channel is a
-- whole part. Assumes nothing.
use Rattle.counting.proofs.Prelude.{◌≡◌, refl, sym, ap, ◌∙◌, Bool, true, false, true≢false, not, ◌&&◌, ℕ, zero, suc, ◌+◌, ◌≤◌, ◌<◌, arith}
use Rattle.counting.proofs.Prelude.{length, get_or, length-append, get_or-append, not-true}
use mathlib.Core.List.{List, [], ◌∷◌, ◌++◌, append-nil, flatten}
use mathlib.Core.Option.{Option, none, some}
use native.Mathlib.Nat.{not-suc-le-zero}
use Rattle.specification.specs.Count.{indicator, sum, count}
use Rattle.specification.specs.Planning.{Held, predecessor_of, matching, successor, chain, begun, planned_to, planned}
use Rattle.specification.specs.Channels.{times, has, linked, every, channel_of, position_of}
use Rattle.specification.specs.Given.{held_in, masked, unheld, without, beside, with_given, Whole}
use Rattle.counting.proofs.Truth.{and_intro, and_elim, or_left, or_right}
use Rattle.matching.specs.Lists.{full}
use Rattle.matching.specs.Division.{Order, Covers, Channelled}
use Rattle.matching.specs.Given.{Fitting, Given}
use Rattle.matching.proofs.Sound.{Sound}
use Rattle.matching.proofs.Same.{planned-same}
use Rattle.matching.proofs.Asked.{asked_matching}
use Rattle.matching.proofs.Lists.{has_true, has_false, length-bound, times-both, every-both}
use Rattle.matching.proofs.Chains.{chain_none, chain-some, successor_fact, begun_none, begun_yes, begun_no, begun_once, begun_within}
use Rattle.matching.proofs.Ordered.{channelled}
use Rattle.matching.proofs.Planned.{begun-every, channel-full, chain-linked, planned_covers}
use Rattle.matching.proofs.Without.{full-few, line-channel, channel-line, alike, without-times, without-held}
use Rattle.matching.proofs.Without.{without_other, without-every, without_all, without_snoc, without_skip}

-- the channels that begin below v by the predecessors P, but for the held vertices
abbrev pub laid : (ℕ → Bool) → ℕ → List Held → ℕ → List (List ℕ)
laid held n P v = without held (begun n P (suc n) v)

-- ---- the masked relation

module _ (held : ℕ → Bool) (leads : ℕ → ℕ → Bool) where
  masked_fact : (u v : ℕ) → masked held leads u v ≡ true → (held u ≡ false) × (held v ≡ false) × (leads u v ≡ true)
  unfolding masked
  masked_fact u v e =
      let p = and_elim (not (held u)) (not (held v) && leads u v) e in
      let q = and_elim (not (held v)) (leads u v) p.1 in
      (not-true (held u) p.0, not-true (held v) q.0, q.1)

  pub masked_intro : (u v : ℕ) → held u ≡ false → held v ≡ false → leads u v ≡ true → masked held leads u v ≡ true
  unfolding masked
  masked_intro u v a b e = rw (a, b) e

  masked-order : (n : ℕ) → Order leads n → Order (masked held leads) n
  masked-order n o = record {
    trans = λ a b c l m k e f.
        let p = masked_fact a b e in
        let q = masked_fact b c f in
        masked_intro a c p.0 q.1 (o.trans a b c l m k p.2 q.2);
    irrefl = λ a l e. o.irrefl a l (masked_fact a a e).2;
  }

  linked-masked : (l : List ℕ) → linked (masked held leads) l ≡ true → linked leads l ≡ true
  unfolding linked
  linked-masked [] e = refl
  linked-masked (x ∷ []) e = refl
  linked-masked (x ∷ y ∷ l) e =
      let p = and_elim (masked held leads x y) (linked (masked held leads) (y ∷ l)) e in
      and_intro (leads x y) (linked leads (y ∷ l)) (masked_fact x y p.0).2 (linked-masked (y ∷ l) p.1)

  -- ---- predecessors that lead by it: no channel has held vertices and others

  module _ (n : ℕ) (P : List Held) (s : Sound (masked held leads) n P) where
    abbrev channel : ℕ → List ℕ
    channel v = chain n P (suc n) (some v)

    -- a held vertex has no predecessor
    first : (v : ℕ) → held v ≡ true → predecessor_of P v ≡ none
    first v h = go (predecessor_of P v) refl
      where
        go : (m : Option ℕ) → predecessor_of P v ≡ m → m ≡ none
        go none e = refl
        go (some p) e = absurd (true≢false (sym h ∙ (masked_fact p v (s v p e).1).1))

    -- and no successor
    final : (v : ℕ) → held v ≡ true → successor n P v ≡ none
    final v h = go (successor n P v) refl
      where
        go : (m : Option ℕ) → successor n P v ≡ m → m ≡ none
        go none e = refl
        go (some w) e = absurd (true≢false (sym h ∙ (masked_fact v w (s w v (successor_fact n P v w e).1).1).0))

    -- so it is alone
    alone : (v : ℕ) → held v ≡ true → channel v ≡ v ∷ []
    alone v h = chain-some n P n v ∙ ap (λ m. v ∷ chain n P n m) (final v h) ∙ ap (λ x. v ∷ x) (chain_none n P n)

    chain-unheld : (k v : ℕ) → held v ≡ false → unheld held (chain n P k (some v)) ≡ true
    unfolding chain unheld
    chain-unheld zero v h = refl
    chain-unheld (suc k) v h = rw h (go (successor n P v) refl (chain-unheld k))
      where
        go : (m : Option ℕ) → successor n P v ≡ m → ((w : ℕ) → held w ≡ false → unheld held (chain n P k (some w)) ≡ true)
            → unheld held (chain n P k (successor n P v)) ≡ true
        go none e ih = rw (e, chain_none n P k) refl
        go (some w) e ih = rw e (ih w (masked_fact v w (s w v (successor_fact n P v w e).1).1).1)

    chain_held : (v : ℕ) → held v ≡ true → unheld held (channel v) ≡ false
    unfolding unheld
    chain_held v h = ap (unheld held) (alone v h) ∙ rw h

    chain-alike : (v : ℕ) → alike held (channel v) ≡ true
    unfolding unheld
    chain-alike v = go (held v) refl
      where
        others : held v ≡ true → unheld (λ w. not (held w)) (channel v) ≡ true
        others h = ap (unheld (λ w. not (held w))) (alone v h) ∙ rw h

        go : (b : Bool) → held v ≡ b → alike held (channel v) ≡ true
        go true h = or_right (unheld held (channel v)) (unheld (λ w. not (held w)) (channel v)) (others h)
        go false h = or_left (unheld held (channel v)) (unheld (λ w. not (held w)) (channel v)) (chain-unheld (suc n) v h)

    begun-alike : every (alike held) (begun n P (suc n) n) ≡ true
    begun-alike = begun-every leads n P (alike held) (λ v l. chain-alike v) n (omega arith)

    -- ---- how they grow

    pub laid_none : laid held n P 0 ≡ []
    unfolding without
    laid_none = ap (without held) (begun_none n P (suc n))

    -- v begins one more
    pub laid_yes : (v : ℕ) → held v ≡ false → predecessor_of P v ≡ none → laid held n P (suc v) ≡ laid held n P v ++ (channel v ∷ [])
    laid_yes v h e =
        ap (without held) (begun_yes n P (suc n) v e) ∙ without_snoc held (begun n P (suc n) v) (channel v) (chain-unheld (suc n) v h)

    -- or none, since it has a predecessor, or is held
    pub laid_no : (v p : ℕ) → predecessor_of P v ≡ some p → laid held n P (suc v) ≡ laid held n P v
    laid_no v p e = ap (without held) (begun_no n P (suc n) v p e)

    pub laid-held : (v : ℕ) → held v ≡ true → laid held n P (suc v) ≡ laid held n P v
    laid-held v h =
        ap (without held) (begun_yes n P (suc n) v (first v h)) ∙ without_skip held (begun n P (suc n) v) (channel v) (chain_held v h)

    laid-linked : every (linked leads) (laid held n P n) ≡ true
    laid-linked = without-every held (linked leads) (begun n P (suc n) n)
        (begun-every leads n P (linked leads)
        (λ v l. linked-masked (channel v) (chain-linked (masked held leads) n P s (suc n) v)) n (omega arith))

    -- each held vertex is a channel that is left out
    pub laid-count : (v : ℕ) → length (begun n P (suc n) v) ≡ length (laid held n P v) + count v held
    unfolding count sum
    laid-count zero = omega (arith, ap length laid_none, ap length (begun_none n P (suc n)))
    laid-count (suc v) = go (held v) refl (predecessor_of P v) refl (laid-count v)
      where
        go : (b : Bool) → held v ≡ b → (m : Option ℕ) → predecessor_of P v ≡ m
            → length (begun n P (suc n) v) ≡ length (laid held n P v) + count v held
            → length (begun n P (suc n) (suc v)) ≡ length (laid held n P (suc v)) + (count v held + indicator (held v))
        go true h m e ih = omega (
          arith,
          ih,
          ap length (begun_yes n P (suc n) v (first v h)),
          length-append (begun n P (suc n) v) (channel v ∷ []),
          ap length (laid-held v h),
          ap indicator h,
        )
        go false h none e ih = omega (
          arith,
          ih,
          ap length (begun_yes n P (suc n) v e),
          length-append (begun n P (suc n) v) (channel v ∷ []),
          ap length (laid_yes v h e),
          length-append (laid held n P v) (channel v ∷ []),
          ap indicator h,
        )
        go false h (some p) e ih =
            omega (arith, ih, ap length (begun_no n P (suc n) v p e), ap length (laid_no v p e), ap indicator h)

-- ---- given channels, and those beside them

-- with none given it is the rule as it stands
pub given_none : (leads : ℕ → ℕ → Bool) (n : ℕ) → with_given leads n [] ≡ planned leads n
unfolding with_given beside held_in masked unheld has every flatten
given_none leads n = without_all (λ v. false) (planned leads n) (each (planned leads n))
  where
    free : (l : List ℕ) → unheld (λ v. false) l ≡ true
    free [] = refl
    free (v ∷ l) = free l

    each : (ls : List (List ℕ)) → every (unheld (λ v. false)) ls ≡ true
    each [] = refl
    each (l ∷ ls) = and_intro (unheld (λ v. false) l) (every (unheld (λ v. false)) ls) (free l) (each ls)

pub none_given : (leads : ℕ → ℕ → Bool) (n : ℕ) → Given leads n []
unfolding flatten times every
none_given leads n = record { fits = record { once = λ v. omega arith; only = λ v l. refl; filled = refl }; next = refl }

pub none_whole : (n : ℕ) (part : ℕ → ℕ) → Whole n [] part
none_whole n part = record { exact = λ c u v l. absurd (not-suc-le-zero l) }

module _ (leads : ℕ → ℕ → Bool) (n : ℕ) (given : List (List ℕ)) where
  -- the given channels come first, in their order
  pub given-first : (c : ℕ) → c < length given → get_or (with_given leads n given) c [] ≡ get_or given c []
  unfolding with_given
  given-first c l = get_or-append given (beside leads n given) [] c l

  -- they depend on the relation only between the n vertices
  pub given-same : (leads' : ℕ → ℕ → Bool) → ((u v : ℕ) → u < n → v < n → leads u v ≡ leads' u v)
      → with_given leads n given ≡ with_given leads' n given
  unfolding with_given beside masked
  given-same leads' same = ap (λ ls. given ++ without (held_in given) ls)
      (planned-same n (masked (held_in given) leads) (masked (held_in given) leads')
      (λ u v l m. ap (λ b. not (held_in given u) && (not (held_in given v) && b)) (same u v l m)))

  pub given-length : length (with_given leads n given) ≡ length given + length (beside leads n given)
  unfolding with_given
  given-length = length-append given (beside leads n given)

  -- the predecessors of the rule
  abbrev pub besides : List Held
  besides = matching (masked (held_in given) leads) n

  pub besides_sound : Sound (masked (held_in given) leads) n besides
  besides_sound = (asked_matching (masked (held_in given) leads) n).sound

  -- all are laid
  pub beside-laid : beside leads n given ≡ laid (held_in given) n besides n
  unfolding beside planned planned_to matching
  beside-laid = refl

  -- where the given ones hold every vertex, there is no other
  pub given-all : ((v : ℕ) → v < n → held_in given v ≡ true) → with_given leads n given ≡ given
  unfolding with_given
  given-all h = ap (λ x. given ++ x) (beside-laid ∙ nothing n (omega arith)) ∙ append-nil given
    where
      nothing : (v : ℕ) → v ≤ n → laid (held_in given) n besides v ≡ []
      nothing zero l = laid_none (held_in given) leads n besides besides_sound
      nothing (suc v) l = laid-held (held_in given) leads n besides besides_sound v (h v l) ∙ nothing v (omega arith)

  -- ---- while they are laid, behind the given ones

  module _ (f : Fitting n given) where
    module _ (P : List Held) (v : ℕ) (l : v ≤ n) where
      abbrev so_far : List (List ℕ)
      so_far = given ++ laid (held_in given) n P v

      both : (w : ℕ) → times w (flatten so_far) ≡ times w (flatten given) + times w (flatten (laid (held_in given) n P v))
      both w = times-both w given (laid (held_in given) n P v)

      fewer : (w : ℕ) → times w (flatten (laid (held_in given) n P v)) ≤ times w (flatten (begun n P (suc n) v))
      fewer w = without-times (held_in given) w (begun n P (suc n) v)

      laid-once : (w : ℕ) → times w (flatten so_far) ≤ 1
      unfolding held_in
      laid-once w = go (held_in given w) refl
        where
          go : (b : Bool) → held_in given w ≡ b → times w (flatten so_far) ≤ 1
          go true h = omega (arith, both w, f.once w, without-held (held_in given) w h (begun n P (suc n) v))
          go false h = omega (arith, both w, has_false w (flatten given) h, fewer w, begun_once n P (suc n) v w l)

      -- whoever the predecessors are
      pub laid_fits : Fitting n (given ++ laid (held_in given) n P v)
      laid_fits = record {
        once = laid-once;
        only = λ w h. omega (arith, both w, f.only w h, fewer w, begun_within n P (suc n) v l w h);
        filled = every-both full given (laid (held_in given) n P v) f.filled
            (without-every (held_in given) full (begun n P (suc n) v) (begun-every leads n P full (λ w m. channel-full leads n P w) v l));
      }

      -- so there is room for them
      pub laid-room : length (flatten (given ++ laid (held_in given) n P v)) ≤ n
      laid-room = length-bound n (flatten so_far) laid_fits.only (λ w m. laid_fits.once w)

      pub laid-few : length (given ++ laid (held_in given) n P v) ≤ n
      laid-few = omega (arith, full-few so_far laid_fits.filled, laid-room)

    pub given_fits : Fitting n (with_given leads n given)
    unfolding with_given beside planned planned_to matching
    given_fits = laid_fits besides n (omega arith)

    -- a given channel has its own number
    pub given-channel : (c v : ℕ) → c < length given → has v (get_or given c []) ≡ true → channel_of (with_given leads n given) v ≡ c
    unfolding channel_of
    given-channel c v l h =
        line-channel 0 c (with_given leads n given) v (given_fits.once v) (omega (arith, given-length)) (ap (has v) (given-first c l) ∙ h)
        ∙ omega arith

  -- ---- if `leads` is a strict order, and the given channels follow it

  module _ (g : Given leads n given) (o : Order leads n) where
    once : (v : ℕ) → v < n → times v (flatten (with_given leads n given)) ≡ 1
    unfolding with_given beside held_in planned planned_to matching
    once v l = go (held_in given v) refl
      where
        both : times v (flatten (with_given leads n given)) ≡ times v (flatten given) + times v (flatten (beside leads n given))
        both = times-both v given (beside leads n given)

        go : (b : Bool) → held_in given v ≡ b → times v (flatten (with_given leads n given)) ≡ 1
        go true h = omega (arith, both, has_true v (flatten given) h, (given_fits g.fits).once v)
        go false h = omega (
          arith,
          both,
          has_false v (flatten given) h,
          without_other (held_in given) v h (begun n besides (suc n) n) (begun-alike (held_in given) leads n besides besides_sound),
          (planned_covers (masked (held_in given) leads) n (masked-order (held_in given) leads n o)).once v l,
        )

    -- every vertex stands once, none is empty, and each vertex leads to the next
    pub given_covers : Covers leads n (with_given leads n given)
    unfolding with_given beside planned planned_to matching
    given_covers = record {
      once = once;
      only = (given_fits g.fits).only;
      filled = (given_fits g.fits).filled;
      next = every-both (linked leads) given (beside leads n given) g.next (laid-linked (held_in given) leads n besides besides_sound);
    }

    -- a division into channels
    pub given-channelled :
        Channelled leads n (length (with_given leads n given)) (channel_of (with_given leads n given))
        (position_of (with_given leads n given))
    given-channelled = channelled leads n o (with_given leads n given) given_covers

    -- in which each given channel is a whole part
    pub given-whole : Whole n given (channel_of (with_given leads n given))
    unfolding channel_of
    given-whole = record {
      exact = λ c u v l h m. (
        (λ e. ap (has v) (sym (given-first c l))
            ∙ channel-line 0 c (with_given leads n given) v (omega (arith, once v m)) (omega (arith, given-channel g.fits c u l h))),
        (λ k. given-channel g.fits c u l h ∙ sym (given-channel g.fits c v l k)),
      );
    }
