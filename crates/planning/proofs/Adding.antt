-- Channels laid behind others in a list of places. Assumes nothing.
use Rattle.counting.proofs.Prelude.{◌≡◌, refl, sym, ap, ◌∙◌, subst, List, [], ◌∷◌, ◌++◌, append-nil, ℕ, suc, ◌+◌, ◌*◌, ◌≤◌, ◌<◌}
use Rattle.counting.proofs.Prelude.{arith, length, set, length-append, length-set}
use mathlib.Core.List.{flatten}
use native.Mathlib.Decide.{ℕ_discrete}
use Rattle.counting.specs.Quads.{quad}
use Rattle.specification.specs.Channels.{times, channel_from, channel_of, position_of}
use Rattle.matching.proofs.Lists.{times_none, times-here, times_other, times-append, times_hasnt, times-both, channel-kept, position-kept}
use Rattle.matching.proofs.Lists.{channel-new, position-new}
use Rattle.planning.specs.Arranged.{Arranged, Kept, Added}
use Rattle.planning.specs.Steps.{placed}
use Rattle.planning.proofs.Laying.{placed_other, placed-channel, placed-position, placed_at}

-- ---- a vertex's channel and position, in channels one behind the other

module _ (v : ℕ) where
  channel_absent : (c : ℕ) (ls : List (List ℕ)) → times v (flatten ls) ≡ 0 → channel_from c ls v ≡ 0
  unfolding channel_from flatten
  channel_absent c [] h = refl
  channel_absent c (l ∷ ls) h =
      let e = times-append v l (flatten ls) in rw (times_hasnt v l (omega arith)) (channel_absent (suc c) ls (omega arith))

  position_absent : (ls : List (List ℕ)) → times v (flatten ls) ≡ 0 → position_of ls v ≡ 0
  unfolding position_of flatten
  position_absent [] h = refl
  position_absent (l ∷ ls) h =
      let e = times-append v l (flatten ls) in rw (times_hasnt v l (omega arith)) (position_absent ls (omega arith))

  -- it stands in none of those behind
  channel-front : (c : ℕ) (a b : List (List ℕ)) → times v (flatten b) ≡ 0 → channel_from c (a ++ b) v ≡ channel_from c a v
  unfolding channel_from
  channel-front c [] b h = channel_absent c b h
  channel-front c (l ∷ a) b h = rw (channel-front (suc c) a b h)

  position-front : (a b : List (List ℕ)) → times v (flatten b) ≡ 0 → position_of (a ++ b) v ≡ position_of a v
  unfolding position_of
  position-front [] b h = position_absent b h
  position-front (l ∷ a) b h = rw (position-front a b h)

  -- or in none of those before
  channel_behind : (c : ℕ) (a b : List (List ℕ)) → times v (flatten a) ≡ 0 → channel_from c (a ++ b) v ≡ channel_from (c + length a) b v
  unfolding channel_from flatten
  channel_behind c [] b h = ap (λ k. channel_from k b v) (let e : c ≡ c + 0 = omega arith in e)
  channel_behind c (l ∷ a) b h =
      let e = times-append v l (flatten a) in
      rw (times_hasnt v l (omega arith)) (channel_behind (suc c) a b (omega arith)
      ∙ ap (λ k. channel_from k b v) (let q : suc c + length a ≡ c + suc (length a) = omega arith in q))

  position_behind : (a b : List (List ℕ)) → times v (flatten a) ≡ 0 → position_of (a ++ b) v ≡ position_of b v
  unfolding position_of flatten
  position_behind [] b h = refl
  position_behind (l ∷ a) b h =
      let e = times-append v l (flatten a) in rw (times_hasnt v l (omega arith)) (position_behind a b (omega arith))

  -- one channel alone
  alone : (l : List ℕ) → times v (flatten (l ∷ [])) ≡ times v l
  unfolding flatten
  alone l = ap (times v) (append-nil l)

-- ---- channels laid

pub added_same : (first : ℕ) (ls : List (List ℕ)) (p : List ℕ) → ((v : ℕ) → times v (flatten ls) ≡ 0) → Added first ls p p
added_same first ls p h = record {
  channel = λ v l. absurd (omega (arith, h v));
  position = λ v l. absurd (omega (arith, h v));
  others = λ k v l m. refl;
  kept = λ k v l m. refl;
  long = refl;
}

pub added_opened : (c : ℕ) (p : List ℕ) → Added c ([] ∷ []) p p
added_opened c p = added_same c ([] ∷ []) p (λ v. alone v [] ∙ times_none v)

pub added_kept : (n first : ℕ) (ls : List (List ℕ)) (p p' : List ℕ) → ((v : ℕ) → n ≤ v → times v (flatten ls) ≡ 0) → Added first ls p p'
    → Kept n p p'
added_kept n first ls p p' h g = record { kept = g.kept; past = λ k v l m. g.others k v l (h v m); long = g.long }

-- v comes next in channel c: it is new
module _ (c : ℕ) (l : List ℕ) (v : ℕ) (p s : List ℕ) (g : Added c (l ∷ []) p s) (h : 4 * v + 1 < length s) (new : times v l ≡ 0) where
  abbrev more : List (List ℕ)
  more = (l ++ (v ∷ [])) ∷ []

  longer : (u : ℕ) → times u (flatten more) ≡ times u l + times u (v ∷ [])
  longer u = alone u (l ++ (v ∷ [])) ∙ times-append u l (v ∷ [])

  pub added_placed : Added c ((l ++ (v ∷ [])) ∷ []) p (placed v c (length l) s)
  unfolding flatten
  added_placed = record {
    channel = λ u m. placed_at v c (length l) s 0 u (channel_from c more u) (omega arith)
        (λ e. placed-channel v c (length l) s h
        ∙ (let q : c ≡ c + 0 = omega arith in q) ∙ sym (channel-new l v c [] (times_none v)) ∙ ap (channel_from c more) (sym e))
        (λ d. g.channel u (omega (arith, m, longer u, alone u l, times_other v u [] d, times_none u)) ∙ sym (channel-kept l v c [] u d));
    position = λ u m. placed_at v c (length l) s 1 u (position_of more u) (omega arith)
        (λ e. placed-position v c (length l) s h ∙ sym (position-new l v [] (times_none v) new) ∙ ap (position_of more) (sym e))
        (λ d. g.position u (omega (arith, m, longer u, alone u l, times_other v u [] d, times_none u)) ∙ sym (position-kept l v [] u d));
    others = λ k u b z.
        placed_other v c (length l) s k u b
        (λ e. absurd (let q : times u (u ∷ []) ≡ 0 = subst (λ x. times u (x ∷ []) ≡ 0) (sym e) (omega (arith, z, longer u)) in
        omega (arith, times-here u [])))
        ∙ g.others k u b (omega (arith, z, longer u, alone u l));
    kept = λ k u a b. placed_other v c (length l) s k u b (λ _. a) ∙ g.kept k u a b;
    long = length-set (set s (4 * v) c) (4 * v + 1) (length l) ∙ length-set s (4 * v) c ∙ g.long;
  }

-- the channels b behind the channels a, whose vertices are others
module _ (first : ℕ) (a b : List (List ℕ)) (q r : List ℕ) (h : Added first b q r) (once : (v : ℕ) → times v (flatten (a ++ b)) ≤ 1) where
  at : (k v x : ℕ) → k < 4 → (times v (flatten b) ≡ 0 → quad k q v ≡ x)
      → (0 < times v (flatten b) → times v (flatten a) ≡ 0 → quad k r v ≡ x) → quad k r v ≡ x
  at k v x l f e = go (ℕ_discrete (times v (flatten b)) 0)
    where
      go : Dec (times v (flatten b) ≡ 0) → quad k r v ≡ x
      go (yes z) = h.others k v l z ∙ f z
      go (no d) = e (omega arith) (omega (arith, times-both v a b, once v))

  pub added_both : (c : ℕ) (p : List ℕ) → first ≡ c + length a → Added c a p q → Added c (a ++ b) p r
  added_both c p ec g = record {
    channel = λ v m. at 0 v (channel_from c (a ++ b) v) (omega arith)
        (λ z. g.channel v (omega (arith, times-both v a b)) ∙ sym (channel-front v c a b z))
        (λ l z. h.channel v l ∙ ap (λ k. channel_from k b v) ec ∙ sym (channel_behind v c a b z));
    position = λ v m. at 1 v (position_of (a ++ b) v) (omega arith)
        (λ z. g.position v (omega (arith, times-both v a b)) ∙ sym (position-front v a b z))
        (λ l z. h.position v l ∙ sym (position_behind v a b z));
    others = λ k v l z. h.others k v l (omega (arith, times-both v a b)) ∙ g.others k v l (omega (arith, times-both v a b));
    kept = λ k v l m. h.kept k v l m ∙ g.kept k v l m;
    long = h.long ∙ g.long;
  }

  pub arranged_both : (n count : ℕ) → count ≡ first + length b → Arranged n a first q → Arranged n (a ++ b) count r
  unfolding channel_of
  arranged_both n count ec g = record {
    counted = omega (arith, ec, g.counted, length-append a b);
    channel = λ v m. at 0 v (channel_of (a ++ b) v) (omega arith)
        (λ z. g.channel v m ∙ sym (channel-front v 0 a b z))
        (λ l z. h.channel v l ∙ ap (λ k. channel_from k b v) (g.counted ∙ (let e : length a ≡ 0 + length a = omega arith in e))
        ∙ sym (channel_behind v 0 a b z));
    position = λ v m. at 1 v (position_of (a ++ b) v) (omega arith)
        (λ z. g.position v m ∙ sym (position-front v a b z))
        (λ l z. h.position v l ∙ sym (position_behind v a b z));
  }
