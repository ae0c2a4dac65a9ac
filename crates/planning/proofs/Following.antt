-- The loops over vertices: whose successor it is, and which channels have begun. Assumes nothing.
use Rattle.counting.proofs.Prelude.{◌≡◌, refl, sym, ap, ◌∙◌, subst, ◌≢◌, Bool, true, false, List, [], ◌∷◌, ◌++◌, append-nil, append_assoc}
use Rattle.counting.proofs.Prelude.{ℕ, zero, suc, ◌+◌, ◌-◌, ◌*◌, ◌≤◌, ◌<◌, arith, eqb, length, get_or, set, replicate, length-append}
use Rattle.counting.proofs.Prelude.{length-set, length-replicate, get_or-replicate, eq-eqb, ne_eqb, lt-ltb, le-ltb}
use mathlib.Core.List.{flatten}
use native.Mathlib.Decide.{ℕ_discrete}
use mathlib.Core.Option.{Option, none, some, some-injective}
use native.Mathlib.Numerals.{add-one}
use lib.Seq.{get_or-set_same, get_or-set_other}
use Rattle.specification.specs.Planning.{predecessor_of, is?, successor_from, successor, chain}
use Rattle.specification.specs.Channels.{times}
use Rattle.matching.specs.Lists.{full}
use Rattle.matching.proofs.Lists.{times_none, times-append, times-here, times_snoc, length-bound}
use Rattle.matching.proofs.Chains.{begun_yes, successor-here, successor_on, successor_end, successor_fact, begun_once, begun_within}
use Rattle.matching.proofs.Chains.{begun_room}
use Rattle.matching.proofs.Planned.{begun-every, channel-full}
use Rattle.matching.proofs.Without.{full-few, without-times}
use Rattle.matching.proofs.Beside.{laid, laid_none, laid_yes, laid_no, laid-held, laid-count}
use Rattle.search.specs.Tabled.{byte_of}
use Rattle.planning.specs.Arranged.{Added}
use Rattle.planning.specs.Steps.{held_in, channels_in, free_in, placed, Successors, followed, Ready, Apart}
use Rattle.planning.proofs.Held.{held_none, held-some, held_is}
use Rattle.planning.proofs.Adding.{added_same, added_opened, added_placed, added_both}

-- ---- each vertex's successor, from the last vertex down

module _ (n : ℕ) (P : List ℕ) where
  -- the first of the vertices from v on that has h as its predecessor
  abbrev first : ℕ → ℕ → ℕ
  first h v = byte_of (successor_from n (held_in n P) h (n - v) v)

  -- of the vertices from v on, r has the first that has h as its predecessor
  pub record Seeking (v : ℕ) (r : List ℕ) : Type 0 where
    pub upto : v ≤ n
    pub size : length r ≡ 128
    pub each : (h : ℕ) → h < 128 → get_or r h 0 ≡ first h v

  pub seek_none : Seeking n (replicate 128 255)
  unfolding byte_of
  seek_none = record {
    upto = omega arith;
    size = length-replicate {A = ℕ} 128 255;
    each = λ h l. get_or-replicate 128 h 255 0 l
        ∙ sym (ap (λ j. byte_of (successor_from n (held_in n P) h j n)) (let e : n - n ≡ 0 = omega arith in e)
        ∙ ap byte_of (successor_end n (held_in n P) h n));
  }

  module _ (v w p : ℕ) (r : List ℕ) (g : Seeking v r) (ev : v ≡ suc w) (ep : p ≡ get_or P w 0) where
    at : (h : ℕ) → first h w ≡ byte_of (successor_from n (held_in n P) h (suc (n - v)) w)
    at h = ap (λ j. byte_of (successor_from n (held_in n P) h j w)) (let e : n - w ≡ suc (n - v) = omega (arith, g.upto) in e)

    test : (h : ℕ) → h < 128 → is? h (predecessor_of (held_in n P) w) ≡ eqb p h
    test h l = held_is P n w h (omega (arith, g.upto)) l ∙ ap (λ x. eqb x h) (sym ep)

    seek_other : (h : ℕ) → h < 128 → p ≢ h → get_or r h 0 ≡ first h w
    seek_other h l d = g.each h l ∙ ap (λ x. byte_of (successor_from n (held_in n P) h (n - v) x)) ev
        ∙ sym (at h ∙ ap byte_of (successor_on n (held_in n P) h (n - v) w (test h l ∙ ne_eqb p h d)))

    pub seek_here : p < 128 → Seeking w (set r p w)
    unfolding byte_of
    seek_here l = record {
      upto = omega (arith, g.upto);
      size = length-set r p w ∙ g.size;
      each = λ h m. go h m (ℕ_discrete p h);
    }
      where
        go : (h : ℕ) → h < 128 → Dec (p ≡ h) → get_or (set r p w) h 0 ≡ first h w
        go h m (yes e) = ap (λ x. get_or (set r p w) x 0) (sym e)
            ∙ get_or-set_same r p w 0 (omega (arith, g.size))
            ∙ sym (at h ∙ ap byte_of (successor-here n (held_in n P) h (n - v) w (test h m ∙ eq-eqb p h e)))
        go h m (no d) = get_or-set_other r p h w 0 (λ e. d (sym e)) ∙ seek_other h m d

    -- w has no predecessor
    pub seek_on : 128 ≤ p → Seeking w r
    seek_on l = record { upto = omega (arith, g.upto); size = g.size; each = λ h m. seek_other h m (λ e. omega arith) }

  pub seek_all : (v : ℕ) (r : List ℕ) → Seeking v r → v ≤ 0 → Successors n P r
  unfolding successor
  seek_all v r g z = record {
    size = g.size;
    each = λ h l. g.each h l ∙ ap (λ x. byte_of (successor_from n (held_in n P) h (n - v) x)) (let e : v ≡ 0 = omega arith in e)
        ∙ ap (λ j. byte_of (successor_from n (held_in n P) h j 0)) (let e : n - v ≡ n = omega arith in e);
  }

-- ---- the vertices that follow, by a table of successors

module _ (n : ℕ) (F : List ℕ) where
  followed-more : (k v : ℕ) → v < n → followed n F (suc k) v ≡ v ∷ followed n F k (get_or F v 0)
  unfolding followed
  followed-more k v l = rw (lt-ltb v n l)

  followed_end : (k v : ℕ) → n ≤ v → followed n F k v ≡ []
  unfolding followed
  followed_end zero v l = refl
  followed_end (suc k) v l = rw (le-ltb v n l)

  module _ (P : List ℕ) (small : n ≤ 128) (g : Successors n P F) where
    followed-chain : (k : ℕ) (m : Option ℕ) → ((v : ℕ) → m ≡ some v → v < n) → followed n F k (byte_of m) ≡ chain n (held_in n P) k m
    unfolding followed chain byte_of
    followed-chain zero m b = refl
    followed-chain (suc k) none b = followed_end (suc k) 255 (omega arith)
    followed-chain (suc k) (some v) b =
        let l : v < n = b v refl in
        followed-more k v l
        ∙ ap (λ x. v ∷ followed n F k x) (g.each v (omega arith))
        ∙ ap (λ x. v ∷ x) (followed-chain k (successor n (held_in n P) v) (λ w e. (successor_fact n (held_in n P) v w e).0))

-- ---- the channel that begins with a, as channel c of the places r

module _ (n : ℕ) (F : List ℕ) (a : ℕ) where
  abbrev mine : List ℕ
  mine = followed n F (suc n) a

  -- its first p vertices are laid, and w comes next
  pub record Following (c : ℕ) (r s : List ℕ) (w p : ℕ) : Type 0 where
    pub l : List ℕ
    pub size : p ≡ length l
    pub rest : mine ≡ l ++ followed n F (suc n - p) w
    pub added : Added c (l ∷ []) r s

  pub following_none : (c : ℕ) (r : List ℕ) → Following c r r a 0
  following_none c r = record {
    l = [];
    size = refl;
    rest = ap (λ k. followed n F k a) (let e : suc n ≡ suc n - 0 = omega arith in e);
    added = added_opened c r;
  }

  module _ (c : ℕ) (r : List ℕ) (t : Ready n mine c r) (s : List ℕ) (w p : ℕ) (f : Following c r s w p) where
    lengths : length f.l + length (followed n F (suc n - p) w) ≤ n
    lengths = omega (
      arith,
      length-bound n mine t.only (λ v l. t.once v),
      ap length f.rest,
      length-append f.l (followed n F (suc n - p) w),
    )

    pub within : p ≤ n
    within = omega (arith, lengths, f.size)

    module _ (d : w < n) where
      here : followed n F (suc n - p) w ≡ w ∷ followed n F (suc n - (p + 1)) (get_or F w 0)
      here =
          ap (λ k. followed n F k w) (let q : suc n - p ≡ suc (n - p) = omega (arith, within) in q) ∙ followed-more n F (n - p) w d
          ∙ ap (λ k. w ∷ followed n F k (get_or F w 0)) (let q : n - p ≡ suc n - (p + 1) = omega (arith, within) in q)

      new : times w f.l ≡ 0
      new = omega (
        arith,
        t.once w,
        ap (times w) f.rest,
        times-append w f.l (followed n F (suc n - p) w),
        ap (times w) here,
        times-here w (followed n F (suc n - (p + 1)) (get_or F w 0)),
      )

      -- so its position is a byte
      pub following_byte : n ≤ 128 → p < 128
      following_byte small = omega (arith, f.size, lengths, ap length here)

      pub following_more : (w' : ℕ) → w' ≡ get_or F w 0 → Following c r (placed w c p s) w' (p + 1)
      following_more w' ew = record {
        l = f.l ++ (w ∷ []);
        size = omega (arith, f.size, length-append f.l (w ∷ []));
        rest = f.rest ∙ ap (λ x. f.l ++ x) here ∙ sym (append_assoc f.l (w ∷ []) (followed n F (suc n - (p + 1)) (get_or F w 0)))
            ∙ ap (λ x. (f.l ++ (w ∷ [])) ++ followed n F (suc n - (p + 1)) x) (sym ew);
        added = subst (λ x. Added c ((f.l ++ (w ∷ [])) ∷ []) r (placed w c x s)) (sym f.size)
            (added_placed c f.l w r s f.added (omega (arith, t.room, f.added.long)) new);
      }

    pub following_all : n ≤ w → Added c (mine ∷ []) r s
    following_all q =
        let z : mine ≡ f.l = f.rest ∙ ap (λ x. f.l ++ x) (followed_end n F (suc n - p) w q) ∙ append-nil f.l in
        subst (λ x. Added c (x ∷ []) r s) (sym z) f.added

-- ---- the channels, vertex by vertex, but for the held ones

module _ (held : ℕ → Bool) (n first : ℕ) (P was : List ℕ) where
  abbrev up_to : ℕ → List (List ℕ)
  up_to v = laid held n (held_in n P) v

  -- those that begin below v are laid
  pub record Begun (v count : ℕ) (r : List ℕ) : Type 0 where
    pub upto : v ≤ n
    pub counted : count ≡ first + length (up_to v)
    pub added : Added first (up_to v) was r

  up_to_times : (v u : ℕ) → times u (flatten (up_to v)) ≤ times u (flatten (channels_in n P v))
  up_to_times v u = without-times held u (channels_in n P v)

  module _ (o : Apart held n P) where
    pub lay_none : Begun 0 first was
    unfolding flatten
    lay_none =
        let e : up_to 0 ≡ [] = laid_none held o.leads n (held_in n P) o.sound in record {
          upto = omega arith;
          counted = omega (arith, ap length e);
          added = added_same first (up_to 0) was (λ v. ap (λ x. times v (flatten x)) e ∙ times_none v);
        }

    module _ (v count : ℕ) (r : List ℕ) (g : Begun v count r) where
      -- few enough for a byte
      pub lay_few : count ≤ first + n
      lay_few = omega (
        arith,
        g.counted,
        laid-count held o.leads n (held_in n P) o.sound v,
        full-few (channels_in n P v)
            (begun-every o.leads n (held_in n P) full (λ w m. channel-full o.leads n (held_in n P) w) v g.upto),
        begun_room n (held_in n P) (suc n) v g.upto,
      )

      module _ (l : v < n) where
        -- v begins none
        same : up_to (suc v) ≡ up_to v → Begun (v + 1) count r
        same e =
            let z : up_to v ≡ up_to (v + 1) = sym e ∙ ap up_to (sym (add-one v)) in record {
              upto = omega arith;
              counted = g.counted ∙ ap (λ x. first + length x) z;
              added = subst (λ x. Added first x was r) z g.added;
            }

        pub lay_pass : get_or P v 0 ≢ 255 → Begun (v + 1) count r
        lay_pass d = same (laid_no held o.leads n (held_in n P) o.sound v (get_or P v 0) (held-some P n v l d))

        pub lay_held : held v ≡ true → Begun (v + 1) count r
        lay_held h = same (laid-held held o.leads n (held_in n P) o.sound v h)

        -- v begins a channel
        module _ (small : n ≤ 128) (F : List ℕ) (q : Successors n P F) (e : get_or P v 0 ≡ 255) where
          abbrev next : List ℕ
          next = followed n F (suc n) v

          its : chain n (held_in n P) (suc n) (some v) ≡ next
          unfolding byte_of
          its = sym (followed-chain n F P small q (suc n) (some v) (λ w x. subst (λ y. y < n) (some-injective v w x) l))

          once : (u : ℕ) → times u (flatten (channels_in n P v)) + times u next ≤ 1
          once u = omega (
            arith,
            begun_once n (held_in n P) (suc n) (suc v) u l,
            ap (λ x. times u (flatten x)) (begun_yes n (held_in n P) (suc n) v (held_none P n v e)),
            times_snoc u (channels_in n P v) (chain n (held_in n P) (suc n) (some v)),
            ap (times u) its,
          )

          pub lay_ready : first < 128 → 4 * n ≤ length r → Ready n (followed n F (suc n) v) count r
          lay_ready low room = record {
            room = room;
            byte = omega (arith, lay_few);
            once = λ u. omega (arith, once u);
            only = λ u h. omega (
              arith,
              begun_within n (held_in n P) (suc n) (suc v) l u h,
              ap (λ x. times u (flatten x)) (begun_yes n (held_in n P) (suc n) v (held_none P n v e)),
              times_snoc u (channels_in n P v) (chain n (held_in n P) (suc n) (some v)),
              ap (times u) its,
            );
          }

          -- and is laid
          pub lay_chain : held v ≡ false → (s : List ℕ) → Added count (followed n F (suc n) v ∷ []) r s → Begun (v + 1) (count + 1) s
          lay_chain h s b =
              let z : up_to v ++ (next ∷ []) ≡ up_to (v + 1) =
              ap (λ x. up_to v ++ (x ∷ [])) (sym its) ∙ sym (laid_yes held o.leads n (held_in n P) o.sound v h (held_none P n v e))
              ∙ ap up_to (sym (add-one v)) in record {
                upto = omega arith;
                counted = omega (arith, g.counted, length-append (up_to v) (next ∷ []), ap length z);
                added = subst (λ x. Added first x was s) z (added_both count (up_to v) (next ∷ []) r s b
                    (λ u. omega (arith, times_snoc u (up_to v) next, up_to_times v u, once u)) first was g.counted g.added);
              }

    -- all are laid
    pub lay_all : (v count : ℕ) (r : List ℕ) → Begun v count r → n ≤ v
        → (count ≡ first + length (free_in held n P)) × Added first (free_in held n P) was r
    lay_all v count r g l =
        let e : v ≡ n = omega (arith, g.upto) in
        (g.counted ∙ ap (λ x. first + length (up_to x)) e, subst (λ x. Added first (up_to x) was r) e g.added)
