-- The checks of given channels: what each says, and what each step of its loop keeps. Assumes nothing.
use Rattle.counting.proofs.Prelude.{◌≡◌, refl, sym, ap, ◌∙◌, subst, ◌≢◌, Bool, true, false, not, ◌&&◌, ◌||◌, List, [], ◌∷◌, ℕ}
use Rattle.counting.proofs.Prelude.{suc, ◌+◌, ◌-◌, ◌≤◌, ◌<◌, arith, leb, length, get_or, drop, replicate, lt-ltb}
use Rattle.counting.proofs.Prelude.{le-leb}
use Rattle.counting.proofs.Prelude.{lt-leb, leb-false, not-false}
use native.Mathlib.Decide.{ℕ_discrete}
use Rattle.std.specs.Prelude.{Option, Some, None}
use Rattle.specification.specs.Count.{indicator}
use Rattle.specification.specs.Sets.{member?, inserted}
use Rattle.specification.specs.Channels.{times, has, linked, every, all_linked, front, lines, filled, lines_of, vertices_of, unknown?}
use Rattle.specification.specs.Channels.{repeats?, broken?}
use Rattle.specification.specs.Given.{held_in}
use Rattle.counting.proofs.Truth.{indicator-le, or_neither}
use Rattle.masks.proofs.Members.{length_inserted, inserted-here, inserted_other, member_zeros}
use Rattle.matching.specs.Lists.{full}
use Rattle.matching.specs.Given.{Fitting, Given}
use Rattle.specification.specs.Connection.{leading?}
use Rattle.specification.specs.declared.Connection.{Connection}
use Rattle.channels.specs.Steps.Walked.{may_follow}
use Rattle.channels.proofs.Agreeing.{all-linked-same}
use Rattle.matching.proofs.Lists.{Within, times-here, times_other, times_tail, times_none, has_false, times-has, times_hasnt}
use Rattle.matching.proofs.Lists.{length-times}
use Rattle.counting.proofs.Sums.{sum_smaller}
use Rattle.counting.proofs.Classes.{sum_one}
use Rattle.channels.proofs.Fields.{left, left-all, left-length, left_vertex, left_end, lines-length, lines_vertex, lines_end}

-- ---- what the checks say

pub unknown-within : (n : ℕ) (l : List ℕ) → unknown? n l ≡ false → Within n l
unfolding unknown?
unknown-within n [] e v h = times_none v
unknown-within n (x ∷ l) e v h =
    let p = or_neither (leb n x) (unknown? n l) e in
    let q : v ≢ x = λ (o : v ≡ x). omega (arith, leb-false n x p.0) in
    times_other x v l q ∙ unknown-within n l p.1 v h

pub unknown_wider : (n m : ℕ) (l : List ℕ) → n ≤ m → unknown? n l ≡ false → unknown? m l ≡ false
unfolding unknown?
unknown_wider n m [] h e = refl
unknown_wider n m (x ∷ l) h e =
    let p = or_neither (leb n x) (unknown? n l) e in
    rw (lt-leb m x (omega (arith, leb-false n x p.0))) (unknown_wider n m l h p.1)

pub repeats_once : (l : List ℕ) → repeats? l ≡ false → (v : ℕ) → times v l ≤ 1
unfolding repeats?
repeats_once [] e v = omega (arith, times_none v)
repeats_once (x ∷ l) e v = go (ℕ_discrete v x) (repeats_once l (or_neither (has x l) (repeats? l) e).1 v)
  where
    go : Dec (v ≡ x) → times v l ≤ 1 → times v (x ∷ l) ≤ 1
    go (yes q) ih = omega (arith, ap (λ y. times y (x ∷ l)) q, times-here x l, has_false x l (or_neither (has x l) (repeats? l) e).0)
    go (no q) ih = omega (arith, times_other x v l q, ih)

pub once_repeats : (l : List ℕ) → ((v : ℕ) → times v l ≤ 1) → repeats? l ≡ false
unfolding repeats?
once_repeats [] h = refl
once_repeats (x ∷ l) h =
    rw (times_hasnt x l (omega (arith, h x, times-here x l))) (once_repeats l (λ v. omega (arith, h v, times_tail v x l)))

pub twice_repeats : (l : List ℕ) (v : ℕ) → 2 ≤ times v l → repeats? l ≡ true
twice_repeats l v h = go (repeats? l) refl
  where
    go : (b : Bool) → repeats? l ≡ b → b ≡ true
    go true e = refl
    go false e = absurd (omega (arith, repeats_once l e v))

pub broken_linked : (ask : ℕ → ℕ → Connection) (ls : List (List ℕ)) → broken? ask ls ≡ false
    → all_linked (λ u v. leading? (ask u v)) ls ≡ true
unfolding broken?
broken_linked ask ls e = not-false (all_linked (λ u v. leading? (ask u v)) ls) e

filled-full : (ls : List (List ℕ)) → every full (filled ls) ≡ true
unfolding filled every
filled-full [] = refl
filled-full ([] ∷ ls) = filled-full ls
filled-full ((v ∷ l) ∷ ls) = rw (lt-ltb 0 (suc (length l)) (omega arith)) (filled-full ls)

module _ (n : ℕ) (field : List ℕ) (u : unknown? n (vertices_of field) ≡ false) (p : repeats? (vertices_of field) ≡ false) where
  -- channels whose vertices pass the checks fit
  pub passed_fits : Fitting n (lines_of field)
  unfolding lines_of
  passed_fits = record {
    once = repeats_once (vertices_of field) p;
    only = unknown-within n (vertices_of field) u;
    filled = filled-full (lines 0 field);
  }

  -- and where none of them answers 'not at all' they may be given, by any relation that says the same
  pub passed-given : (ask : ℕ → ℕ → Connection) (leads : ℕ → ℕ → Bool)
      → ((u v : ℕ) → u < n → v < n → leading? (ask u v) ≡ leads u v) → broken? ask (lines_of field) ≡ false → Given leads n (lines_of field)
  passed-given ask leads same b = record {
    fits = passed_fits;
    next =
        sym (all-linked-same n (λ u v. leading? (ask u v)) leads same (lines_of field) u) ∙ broken_linked ask (lines_of field) b;
  }

-- all n vertices stand there where there are as many
pub all_there : (n : ℕ) (l : List ℕ) → Within n l → ((v : ℕ) → times v l ≤ 1) → length l ≡ n → (v : ℕ) → v < n → has v l ≡ true
all_there n l w once e v h = go (has v l) refl
  where
    go : (b : Bool) → has v l ≡ b → b ≡ true
    go true p = refl
    go false p =
        let less = sum_smaller n (λ v. times v l) (λ _. 1) v h (omega (arith, has_false v l p)) (λ j _. once j) in
        absurd (omega (arith, length-times n l w, less, sum_one n))

-- ---- a vertex of n or more

module _ (n : ℕ) (field : List ℕ) where
  -- what is still to be looked at decides
  pub record Known (i k : ℕ) : Type 0 where
    pub same : unknown? n (vertices_of field) ≡ unknown? n (left field i k)

  pub known_none : Known 0 0
  known_none = record { same = ap (unknown? n) (left-all field) }

  module _ (i : ℕ) (h : i < length field) (k : ℕ) (o : Known i k) (x : ℕ) (ex : x ≡ get_or field i 0) where
    pub known_length : k ≡ 0 → Known (i + 1) x
    known_length e = record { same = o.same ∙ ap (unknown? n) (left-length field i h k e ∙ ap (left field (i + 1)) (sym ex)) }

    at : k ≢ 0 → unknown? n (vertices_of field) ≡ (leb n x || unknown? n (left field (i + 1) (k - 1)))
    unfolding unknown?
    at d = o.same ∙ ap (unknown? n) (left_vertex field i h k d ∙ ap (λ y. y ∷ left field (i + 1) (k - 1)) (sym ex))

    pub known_found : k ≢ 0 → n ≤ x → unknown? n (vertices_of field) ≡ true
    known_found d l = at d ∙ rw (le-leb n x l)

    pub known_more : k ≢ 0 → x < n → Known (i + 1) (k - 1)
    known_more d l = record { same = at d ∙ rw (lt-leb n x l) }

  pub known_all : (i k : ℕ) → Known i k → length field ≤ i → unknown? n (vertices_of field) ≡ false
  unfolding unknown?
  known_all i k o h = o.same ∙ ap (unknown? n) (left_end field i k h)

-- ---- a vertex twice

module _ (field : List ℕ) where
  -- the vertices before byte i are the set's, each of them once
  pub record Once (i k : ℕ) (seen : List ℕ) : Type 0 where
    pub masks : length seen ≡ 4
    pub often : (v : ℕ) → times v (vertices_of field) ≡ indicator (member? seen 0 v) + times v (left field i k)

  pub once_none : Once 0 0 (replicate 4 0)
  once_none = record {
    masks = refl;
    often = λ v. omega (arith, ap (times v) (left-all field), ap indicator (member_zeros 4 v));
  }

  module _ (i : ℕ) (h : i < length field) (k : ℕ) (seen : List ℕ) (o : Once i k seen) where
    pub once_length : k ≡ 0 → (x : ℕ) → x ≡ get_or field i 0 → Once (i + 1) x seen
    once_length e x ex =
        record {
          masks = o.masks;
          often = λ v. o.often v
              ∙ ap (λ l. indicator (member? seen 0 v) + times v l) (left-length field i h k e ∙ ap (left field (i + 1)) (sym ex));
        }

    module _ (d : k ≢ 0) (x : ℕ) (ex : x ≡ get_or field i 0) where
      abbrev rest : List ℕ
      rest = left field (i + 1) (k - 1)

      left_is : left field i k ≡ x ∷ rest
      left_is = left_vertex field i h k d ∙ ap (λ y. y ∷ rest) (sym ex)

      pub once_again : member? seen 0 x ≡ true → repeats? (vertices_of field) ≡ true
      once_again e = twice_repeats (vertices_of field) x (omega (arith, o.often x, ap indicator e, ap (times x) left_is, times-here x rest))

      pub once_more : x < 256 → member? seen 0 x ≡ false → (seen' : List ℕ) → seen' ≡ inserted seen 0 x → Once (i + 1) (k - 1) seen'
      once_more b e seen' es = rw es (record {
        masks = length_inserted seen 0 x ∙ o.masks;
        often = λ v. go v (ℕ_discrete v x);
      })
        where
          go : (v : ℕ) → Dec (v ≡ x) → times v (vertices_of field) ≡ indicator (member? (inserted seen 0 x) 0 v) + times v rest
          go v (yes q) = subst (λ y. times y (vertices_of field) ≡ indicator (member? (inserted seen 0 x) 0 y) + times y rest) (sym q)
              (omega (
                arith,
                o.often x,
                ap indicator e,
                ap indicator (inserted-here seen 0 x (omega (arith, o.masks))),
                ap (times x)
                    left_is,
                times-here x rest,
              ))
          go v (no q) = omega (arith, o.often v, ap indicator (inserted_other seen 0 x v q), ap (times v) left_is, times_other x v rest q)

  module _ (i k : ℕ) (seen : List ℕ) (o : Once i k seen) (h : length field ≤ i) where
    at_end : (v : ℕ) → times v (vertices_of field) ≡ indicator (member? seen 0 v)
    at_end v = omega (arith, o.often v, ap (times v) (left_end field i k h), times_none v)

    pub once_all : repeats? (vertices_of field) ≡ false
    once_all = once_repeats (vertices_of field) λ v. omega (arith, at_end v, indicator-le (member? seen 0 v))

    -- the set has the vertices of the lines
    pub once_held : (v : ℕ) → member? seen 0 v ≡ held_in (lines_of field) v
    unfolding held_in
    once_held v = go (member? seen 0 v) refl
      where
        go : (b : Bool) → member? seen 0 v ≡ b → b ≡ has v (vertices_of field)
        go true e = sym (times-has v (vertices_of field) (omega (arith, at_end v, ap indicator e)))
        go false e = sym (times_hasnt v (vertices_of field) (omega (arith, at_end v, ap indicator e)))

-- ---- a vertex that is not led to

and_shift : (a b c : Bool) → ((a && b) && c) ≡ (a && (b && c))
and_shift true b c = refl
and_shift false b c = refl

linked-filled : (leads : ℕ → ℕ → Bool) (ls : List (List ℕ)) → all_linked leads (filled ls) ≡ all_linked leads ls
unfolding filled every linked
linked-filled leads [] = refl
linked-filled leads ([] ∷ ls) = linked-filled leads ls
linked-filled leads ((v ∷ l) ∷ ls) = ap (λ b. linked leads (v ∷ l) && b) (linked-filled leads ls)

-- the lists with the vertex before, if there is one, in front of the first
unfoldable pub after : Option ℕ → List (List ℕ) → List (List ℕ)
after None ls = ls
after (Some u) ls = front u ls

module _ (ask : ℕ → ℕ → Connection) where
  abbrev leads : ℕ → ℕ → Bool
  leads u v = leading? (ask u v)

  -- a line has ended
  linked_ended : (last : Option ℕ) (ls : List (List ℕ)) → all_linked leads (after last ([] ∷ ls)) ≡ all_linked leads ls
  unfolding after every linked front
  linked_ended None ls = refl
  linked_ended (Some u) ls = refl

  linked-two : (u v : ℕ) (ls : List (List ℕ)) → all_linked leads (front u (front v ls)) ≡ (leads u v && all_linked leads (front v ls))
  unfolding front every linked
  linked-two u v [] = and_shift (leads u v) true true
  linked-two u v (l ∷ ls) = and_shift (leads u v) (linked leads (v ∷ l)) (all_linked leads ls)

  linked-next : (last : Option ℕ) (v : ℕ) (ls : List (List ℕ))
      → all_linked leads (after last (front v ls)) ≡ (may_follow ask last v && all_linked leads (front v ls))
  unfolding after
  linked-next None v ls = refl
  linked-next (Some u) v ls = linked-two u v ls

  module _ (field : List ℕ) where
    -- what is still to be looked at decides
    pub record Linking (i k : ℕ) (last : Option ℕ) : Type 0 where
      pub same : all_linked leads (lines_of field) ≡ all_linked leads (after last (lines k (drop i field)))

    pub linking_none : Linking 0 0 None
    unfolding lines_of after
    linking_none = record { same = linked-filled leads (lines 0 field) }

    module _ (i : ℕ) (h : i < length field) (k : ℕ) (last : Option ℕ) (o : Linking i k last) where
      pub linking_length : k ≡ 0 → (x : ℕ) → x ≡ get_or field i 0 → Linking (i + 1) x None
      unfolding after
      linking_length e x ex = rw ex (record {
        same =
            o.same ∙ ap (λ ls. all_linked leads (after last ls)) (lines-length field i h k e)
            ∙ linked_ended last (lines (get_or field i 0) (drop (i + 1) field));
      })

      module _ (d : k ≢ 0) (x : ℕ) (ex : x ≡ get_or field i 0) where
        step : all_linked leads (lines_of field)
            ≡ (may_follow ask last x && all_linked leads (front x (lines (k - 1) (drop (i + 1) field))))
        step =
            o.same ∙ ap (λ ls. all_linked leads (after last ls))
            (lines_vertex field i h k d ∙ ap (λ y. front y (lines (k - 1) (drop (i + 1) field))) (sym ex))
            ∙ linked-next last x (lines (k - 1) (drop (i + 1) field))

        pub linking_broken : may_follow ask last x ≡ false → broken? ask (lines_of field) ≡ true
        unfolding broken?
        linking_broken e = ap not (step ∙ ap (λ b. b && all_linked leads (front x (lines (k - 1) (drop (i + 1) field)))) e)

        pub linking_more : may_follow ask last x ≡ true → Linking (i + 1) (k - 1) (Some x)
        unfolding after
        linking_more e =
            record { same = step ∙ ap (λ c. c && all_linked leads (front x (lines (k - 1) (drop (i + 1) field)))) e }

    pub linking_all : (i k : ℕ) (last : Option ℕ) → Linking i k last → length field ≤ i → broken? ask (lines_of field) ≡ false
    unfolding broken? every
    linking_all i k last o h = ap not (o.same ∙ ap (λ ls. all_linked leads (after last ls)) (lines_end field i k h) ∙ linked_ended last [])
