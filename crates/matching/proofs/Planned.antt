-- The channels of the rule: each vertex leads to the next; if `leads` is a strict order they hold every vertex once and are a division,
-- and no division has fewer parts. Assumes nothing.
use Rattle.counting.proofs.Prelude.{◌≡◌, refl, sym, ap, ◌∙◌, subst, Bool, true, false, true≢false, List, [], ◌∷◌, flatten, ℕ, zero, suc}
use Rattle.counting.proofs.Prelude.{◌+◌, ◌≤◌, ◌<◌, arith, eqb, ltb, length, ne_eqb, lt-ltb}
use native.Mathlib.Nat.{not-suc-le-zero}
use native.Mathlib.Decide.{ℕ_discrete, dec_lt}
use mathlib.Core.Option.{Option, none, some, none-ne-some}
use Rattle.specification.specs.Count.{indicator, sum, count}
use Rattle.specification.specs.Planning.{Held, predecessor_of, is?, matching, successor_from, successor, chain, begun, planned_to, planned}
use Rattle.specification.specs.Channels.{times, linked, every}
use Rattle.counting.proofs.Truth.{indicator-le, and_intro}
use Rattle.counting.proofs.Sums.{sum_mono}
use Rattle.counting.proofs.Classes.{sum-add, sum-two, count-le, one_below, indicator_mono}
use Rattle.matching.specs.Lists.{full}
use Rattle.matching.specs.Division.{Order, Division, Covers}
use Rattle.matching.proofs.Kept.{held_by}
use Rattle.matching.proofs.Asked.{Asked, asked_matching}
use Rattle.matching.proofs.Sound.{Sound}
use Rattle.matching.proofs.Least.{least-begins}
use Rattle.matching.proofs.Lists.{times-here, times_other, times_tail, times_none, times_snoc, every-both}
use Rattle.matching.proofs.Chains.{is_true, is_same, chain_none, chain-some, begun_yes, begun_no, successor-here, successor_on}
use Rattle.matching.proofs.Chains.{successor_fact, begun_once, begun_within, begun_count}

module _ (leads : ℕ → ℕ → Bool) (n : ℕ) (held : List Held) where
  abbrev channel : ℕ → List ℕ
  channel v = chain n held (suc n) (some v)

  abbrev channels : ℕ → List (List ℕ)
  channels v = begun n held (suc n) v

  -- what holds of each channel holds of those begun
  pub begun-every : (p : List ℕ → Bool) → ((v : ℕ) → v < n → p (channel v) ≡ true) → (v : ℕ) → v ≤ n → every p (channels v) ≡ true
  unfolding begun every
  begun-every p f zero l = refl
  begun-every p f (suc v) l = go (predecessor_of held v) refl (begun-every p f v (omega arith))
    where
      go : (m : Option ℕ) → predecessor_of held v ≡ m → every p (channels v) ≡ true → every p (channels (suc v)) ≡ true
      go none e ih = rw (begun_yes n held (suc n) v e)
          (every-both p (channels v) (channel v ∷ []) ih (and_intro (p (channel v)) true (f v (omega arith)) refl))
      go (some x) e ih = rw (begun_no n held (suc n) v x e) ih

  -- a channel has at least the vertex that it begins with
  pub channel-full : (v : ℕ) → full (channel v) ≡ true
  channel-full v = lt-ltb 0 (length (channel v)) (omega (arith, ap length (chain-some n held n v)))

  -- ---- each leads to the next

  module _ (s : Sound leads n held) where
    pub chain-linked : (k x : ℕ) → linked leads (chain n held k (some x)) ≡ true
    unfolding linked chain
    chain-linked zero x = refl
    chain-linked (suc k) x = go k (successor n held x) refl (λ w. chain-linked k w)
      where
        go : (k : ℕ) (m : Option ℕ) → successor n held x ≡ m → ((w : ℕ) → linked leads (chain n held k (some w)) ≡ true)
            → linked leads (x ∷ chain n held k (successor n held x)) ≡ true
        go k none e ih = rw (e, chain_none n held k) refl
        go zero (some w) e ih = refl
        go (suc k) (some w) e ih =
            rw e (and_intro (leads x w) (linked leads (chain n held (suc k) (some w))) (s w x (successor_fact n held x w e).1).1 (ih w))

  -- ---- every vertex is in a channel, if `leads` is a strict order

  -- a vertex of a chain, and the next one
  chain_next : (k : ℕ) (m : Option ℕ) (u w : ℕ) → 0 < times u (chain n held k m) → successor n held u ≡ some w
      → 0 < times w (chain n held (suc k) m)
  unfolding chain
  chain_next zero m u w h e = absurd (omega (arith, times_none u))
  chain_next (suc k) none u w h e = absurd (omega (arith, times_none u))
  chain_next (suc k) (some a) u w h e = go (ℕ_discrete u a) (λ p. chain_next k (successor n held a) u w p e)
    where
      go : Dec (u ≡ a) → (0 < times u (chain n held k (successor n held a)) → 0 < times w (chain n held (suc k) (successor n held a)))
          → 0 < times w (a ∷ chain n held (suc k) (successor n held a))
      go (yes f) ih =
          let g : successor n held a ≡ some w = ap (successor n held) (sym f) ∙ e in
          rw (g, chain-some n held k w)
          (omega (arith, times-here w (chain n held k (successor n held w)), times_tail w a (w ∷ chain n held k (successor n held w))))
      go (no f) ih = omega (
        arith,
        times_tail w a (chain n held (suc k) (successor n held a)),
        ih (omega (arith, times_other a u (chain n held k (successor n held a)) f)),
      )

  -- a channel that begins below v is among them
  begun-has : (v a w : ℕ) → a < v → predecessor_of held a ≡ none → times w (channel a) ≤ times w (flatten (channels v))
  begun-has zero a w l e = absurd (not-suc-le-zero l)
  begun-has (suc v) a w l e = go (ℕ_discrete a v) (predecessor_of held v) refl (λ m. begun-has v a w m e)
    where
      whole : predecessor_of held v ≡ none → times w (flatten (channels (suc v))) ≡ times w (flatten (channels v)) + times w (channel v)
      whole f = ap (λ x. times w (flatten x)) (begun_yes n held (suc n) v f) ∙ times_snoc w (channels v) (channel v)

      go : Dec (a ≡ v) → (m : Option ℕ) → predecessor_of held v ≡ m → (a < v → times w (channel a) ≤ times w (flatten (channels v)))
          → times w (channel a) ≤ times w (flatten (channels (suc v)))
      go (yes q) none f ih = omega (arith, whole f, ap (λ y. times w (channel y)) q)
      go (yes q) (some p) f ih = absurd (none-ne-some p (sym e ∙ ap (predecessor_of held) q ∙ f))
      go (no q) none f ih = omega (arith, whole f, ih (omega arith))
      go (no q) (some p) f ih = omega (arith, ih (omega arith), ap (λ x. times w (flatten x)) (begun_no n held (suc n) v p f))

  module _ (q : Asked leads n n held) (o : Order leads n) where
    -- no two vertices have one predecessor
    one_each : (u v a : ℕ) → u < n → v < n → predecessor_of held u ≡ some a → predecessor_of held v ≡ some a → u ≡ v
    unfolding held_by count
    one_each u v a l m e f = go (ℕ_discrete u v) (dec_lt u v)
      where
        g : ℕ → ℕ
        g w = indicator (is? a (predecessor_of held w))

        most_one : sum n g ≤ 1
        most_one = omega (arith, q.each a (q.sound u a e).0, indicator-le (ltb a n))

        at : (w : ℕ) → predecessor_of held w ≡ some a → g w ≡ 1
        at w i = ap indicator (ap (is? a) i ∙ is_same a)

        go : Dec (u ≡ v) → Dec (u < v) → u ≡ v
        go (yes d) b = d
        go (no d) (yes b) = absurd (omega (arith, most_one, sum-two n g u v b m, at u e, at v f))
        go (no d) (no b) = absurd (omega (arith, most_one, sum-two n g v u (omega arith) l, at u e, at v f))

    successor-at : (v p j w : ℕ) → v < n → predecessor_of held v ≡ some p → w + j ≡ n → w ≤ v → successor_from n held p j w ≡ some v
    successor-at v p zero w l f e m = absurd (omega arith)
    successor-at v p (suc j) w l f e m =
        go (is? p (predecessor_of held w)) refl (ℕ_discrete w v) (successor-at v p j (suc w) l f (omega arith))
      where
        go : (b : Bool) → is? p (predecessor_of held w) ≡ b → Dec (w ≡ v) → (suc w ≤ v → successor_from n held p j (suc w) ≡ some v)
            → successor_from n held p (suc j) w ≡ some v
        go true i d ih =
            successor-here n held p j w i ∙ ap {B = Option ℕ} some (one_each w v p (omega arith) l (is_true p (predecessor_of held w) i) f)
        go false i (yes d) ih =
            absurd (true≢false (sym (is_same p) ∙ ap (is? p) (sym f) ∙ ap (λ y. is? p (predecessor_of held y)) (sym d) ∙ i))
        go false i (no d) ih = successor_on n held p j w i ∙ ih (omega arith)

    successor_is : (v p : ℕ) → v < n → predecessor_of held v ≡ some p → successor n held p ≡ some v
    unfolding successor
    successor_is v p l f = successor-at v p n 0 l f (omega arith) (omega arith)

    -- how many vertices lead to w
    abbrev before : ℕ → ℕ
    before w = count n (λ u. leads u w)

    -- fewer vertices lead to a than to b, where a leads to b
    fewer : (a b : ℕ) → a < n → b < n → leads a b ≡ true → before a < before b
    unfolding count
    fewer a b l k e =
        omega (
          arith,
          sum_mono n (λ u. indicator (leads u a) + indicator (eqb a u)) (λ u. indicator (leads u b)) (λ u m. each u m (ℕ_discrete a u)),
          sum-add n (λ u. indicator (leads u a)) (λ u. indicator (eqb a u)),
          one_below n a l,
        )
      where
        off : (b : Bool) → leads a a ≡ b → indicator (leads a a) ≡ 0
        off true p = absurd (o.irrefl a l p)
        off false p = ap indicator p

        each : (u : ℕ) → u < n → Dec (a ≡ u) → indicator (leads u a) + indicator (eqb a u) ≤ indicator (leads u b)
        each u m (yes p) =
            subst (λ x. indicator (leads x a) + indicator (eqb a x) ≤ indicator (leads x b)) p
            (omega (arith, off (leads a a) refl, ap indicator e, indicator-le (eqb a a)))
        each u m (no p) = omega (arith, ap indicator (ne_eqb a u p), indicator_mono (leads u a) (leads u b) (λ t. o.trans u a b m l k t e))

    -- back from w, each time to a vertex that fewer lead to, until one has no predecessor
    reached : (k w : ℕ) → w < n → before w < k → (a : ℕ) × (a < n) × (predecessor_of held a ≡ none)
        × (0 < times w (chain n held k (some a)))
    reached zero w l b = absurd (not-suc-le-zero b)
    reached (suc k) w l b = go (predecessor_of held w) refl (λ p m. reached k p m)
      where
        go : (m : Option ℕ) → predecessor_of held w ≡ m
            → ((p : ℕ) → p < n → before p < k → (a : ℕ) × (a < n) × (predecessor_of held a ≡ none)
            × (0 < times p (chain n held k (some a))))
            → (a : ℕ) × (a < n) × (predecessor_of held a ≡ none) × (0 < times w (chain n held (suc k) (some a)))
        go none e ih = (w, l, e, omega (arith, ap (times w) (chain-some n held k w), times-here w (chain n held k (successor n held w))))
        go (some p) e ih =
            let s : (p < n) × (leads p w ≡ true) = q.sound w p e in
            let r = ih p s.0 (omega (arith, fewer p w s.0 l s.1)) in
            (r.0, r.1, r.2, chain_next k (some r.0) p w r.3 (successor_is w p l e))

    pub begun_covers : Covers leads n (channels n)
    begun_covers = record {
      once = λ v l.
          let r = reached (suc n) v l (omega (arith, count-le n (λ u. leads u v))) in
          omega (arith, r.3, begun-has n r.0 v r.1 r.2, begun_once n held (suc n) n v (omega arith));
      only = begun_within n held (suc n) n (omega arith);
      filled = begun-every full (λ v l. channel-full v) n (omega arith);
      next = begun-every (linked leads) (λ v l. chain-linked q.sound (suc n) v) n (omega arith);
    }

module _ (leads : ℕ → ℕ → Bool) (n : ℕ) where
  -- for any relation: no division has fewer parts
  pub planned-least : (m : ℕ) (part : ℕ → ℕ) → Division leads n m part → length (planned leads n) ≤ m
  unfolding planned planned_to matching
  planned-least m part d =
      omega (arith, begun_count n (matching leads n) (suc n) n, least-begins leads n (matching leads n) (asked_matching leads n) m part d)

  -- for a strict order: every vertex once
  pub planned_covers : Order leads n → Covers leads n (planned leads n)
  unfolding planned planned_to matching
  planned_covers o = begun_covers leads n (matching leads n) (asked_matching leads n) o
