-- The sound records are accepted, and no others. Assumes nothing.
use Rattle.counting.proofs.Prelude.{◌≡◌, refl, sym, ap, ◌∙◌, subst, ◌↔◌, ⊎_elim, ◌≢◌, Bool, true, false, true≢false, not, ◌&&◌}
use Rattle.counting.proofs.Prelude.{List, [], ◌∷◌, ℕ, zero, suc, ◌≤◌, ◌<◌, arith, eqb, leb, ltb, length, get_or, eq-eqb, eqb-true, le-ltb}
use Rattle.counting.proofs.Prelude.{lt-leb, leb-false, ltb-false, not-false, get_or-eq_default}
use Rattle.specification.specs.Count.{choose, some}
use Rattle.specification.specs.Channels.{times, linked, every, all_linked, lines_of, vertices_of, unknown?, broken?}
use Rattle.specification.specs.Graph.{Edge, outsized?, strange?, verdict, refusal, reachable?, alike?, duplicate?}
use Rattle.specification.specs.Checks.{Content, edges_of, connection_in, size?, unfloored?, floor?, Floored, stranger?, double?, ring?}
use Rattle.specification.specs.Checks.{repeated?, unled?, loose_checks}
use Rattle.specification.specs.Checks.{later_checks, first_of, refusal_of, content_of, refusal_in, record_refusal, given_line, Sized}
use Rattle.specification.specs.Checks.{EndsKnown, GivenKnown, Distinct, Acyclic, Leads, Once, Led, Sound, SoundRecord}
use Rattle.specification.specs.Connection.{connection_number, leading?, Means}
use Rattle.specification.specs.Layout.{Layout}
use Rattle.specification.specs.Layout.{Good, Bad}
use Rattle.specification.specs.Layout.{layout_of}
use Rattle.counting.proofs.Falsity.{not-true, neither}
use Rattle.counting.proofs.Truth.{lt-or-le, and_intro, and_elim, or_neither}
use Rattle.counting.proofs.Somes.{some_found, some_none}
use Rattle.matching.proofs.Lists.{within_head, within_tail}
use Rattle.reach.proofs.Decide.{reachable_decided}
use Rattle.reach.proofs.Routes.{begins_below}
use Rattle.reach.proofs.Connecting.{graph_means, means_leading}
use Rattle.channels.proofs.Checks.{unknown-within, repeats_once, once_repeats, broken_linked}
use Rattle.record.specs.Reading.{Reading, Reads}
use Rattle.counting.proofs.Sizes.{sized, outsized_back}

-- ---- none of a list of tests fails

-- what a test guards passes where the test does not hold
guarded : (t : Bool) (k rest : ℕ) → k ≢ 0 → choose t (λ _. k) (λ _. rest) ≡ 0 → (t ≡ false) × (rest ≡ 0)
guarded true k rest ne e = absurd (ne e)
guarded false k rest ne e = (refl, e)

none_found : (n : ℕ) (f : ℕ → Bool) → some n f ≡ false → (i : ℕ) → i < n → f i ≡ false
none_found n f e i l = not-true (f i) (λ t. true≢false (sym (some_found n f i l t) ∙ e))

pub given-passes : (g t : Bool) → (g && t) ≡ false → g ≡ true → t ≡ false
given-passes true t e p = e
given-passes false t e p = absurd (true≢false (sym p))

passes-given : (g t : Bool) → (g ≡ true → t ≡ false) → (g && t) ≡ false
passes-given true t h = h refl
passes-given false t h = refl

-- every test of the list of checks
pub record Passes (c : Content) : Type 0 where
  pub size : size? c ≡ false
  pub floor : floor? c ≡ false
  pub stranger : stranger? c ≡ false
  pub double : double? c ≡ false
  pub ring : ring? c ≡ false
  pub repeated : repeated? c ≡ false
  pub unled : unled? c ≡ false

pub accepted-passes : (c : Content) → refusal_of c ≡ 0 → Passes c
unfolding refusal_of first_of loose_checks later_checks
accepted-passes c e =
    let a = guarded (size? c) 2 _ (λ z. omega arith) e in
    let f = guarded (floor? c) 12 _ (λ z. omega arith) a.1 in
    let b = guarded (stranger? c) 3 _ (λ z. omega arith) f.1 in
    let d = guarded (double? c) 4 _ (λ z. omega arith) b.1 in
    let r = guarded (ring? c) 5 _ (λ z. omega arith) d.1 in
    let p = guarded (repeated? c) 6 _ (λ z. omega arith) r.1 in
    let u = guarded (unled? c) 7 _ (λ z. omega arith) p.1 in
    record { size = a.0; floor = f.0; stranger = b.0; double = d.0; ring = r.0; repeated = p.0; unled = u.0 }

passes-accepted : (c : Content) → Passes c → refusal_of c ≡ 0
unfolding refusal_of first_of loose_checks later_checks
passes-accepted c p = rw (p.size, p.floor, p.stranger, p.double, p.ring, p.repeated, p.unled) refl

-- ---- what each test says

module _ (n m : ℕ) where
  of_size : (0 < n) × (n ≤ 128) × (m ≤ 4096) → outsized? n m ≡ false
  unfolding outsized?
  of_size h = neither _ _ (sized n (λ z. let l = h.0 in omega arith) h.1) (le-ltb 4096 m h.2)

within-unknown : (n : ℕ) (l : List ℕ) → ((v : ℕ) → n ≤ v → times v l ≡ 0) → unknown? n l ≡ false
unfolding unknown?
within-unknown n [] h = refl
within-unknown n (x ∷ l) h = neither _ _ (lt-leb n x (within_head n x l h)) (within-unknown n l (within_tail n x l h))

module _ (n m : ℕ) (tails heads : List ℕ) where
  ends_known : some m (strange? n tails heads) ≡ false → (i : ℕ) → i < m → (get_or tails i 0 < n) × (get_or heads i 0 < n)
  unfolding strange?
  ends_known e i l =
      let p = or_neither (leb n (get_or tails i 0)) (leb n (get_or heads i 0)) (none_found m (strange? n tails heads) e i l) in
      (leb-false n _ p.0, leb-false n _ p.1)

  known_ends : ((i : ℕ) → i < m → (get_or tails i 0 < n) × (get_or heads i 0 < n)) → some m (strange? n tails heads) ≡ false
  unfolding strange?
  known_ends h = some_none m (strange? n tails heads) (λ i l. neither _ _ (lt-leb n _ (h i l).0) (lt-leb n _ (h i l).1))

module _ (c : Content) where
  none_before : double? c ≡ false → (i j : ℕ) → i < edges_of c → j < i → get_or c.tails j 0 ≡ get_or c.tails i 0
      → get_or c.heads j 0 ≡ get_or c.heads i 0 → ⊥
  unfolding double? duplicate? alike?
  none_before e i j l k p q =
      true≢false (sym (and_intro _ _ (eq-eqb _ _ p) (eq-eqb _ _ q))
      ∙ none_found i (alike? c.tails c.heads i) (none_found (edges_of c) (λ i. some i (alike? c.tails c.heads i)) e i l) j k)

  no_double : double? c ≡ false → Distinct c
  no_double e i j l k p q =
      ⊎_elim
      (λ h. absurd (none_before e j i k h p q))
      (λ h. ⊎_elim (λ o. absurd (none_before e i j l o (sym p) (sym q))) (λ o. omega arith) (lt-or-le j i))
      (lt-or-le i j)

  distinct_no_double : Distinct c → double? c ≡ false
  unfolding double? duplicate? alike?
  distinct_no_double d =
      some_none (edges_of c) (λ i. some i (alike? c.tails c.heads i))
      (λ i l. some_none i (alike? c.tails c.heads i) (λ j k. not-true (alike? c.tails c.heads i j) (λ t.
      let p = and_elim (eqb (get_or c.tails j 0) (get_or c.tails i 0)) (eqb (get_or c.heads j 0) (get_or c.heads i 0)) t in
      let z = d j i (omega arith) l (eqb-true _ _ p.0) (eqb-true _ _ p.1) in
      omega arith)))

-- ---- each vertex of a line is reached from the one before

module _ (f : ℕ → ℕ → Bool) where
  linked_led : (l : List ℕ) → linked f l ≡ true → (j : ℕ) → suc j < length l → f (get_or l j 0) (get_or l (suc j) 0) ≡ true
  unfolding linked
  linked_led [] e j h = absurd (omega arith)
  linked_led (x ∷ []) e j h = absurd (omega arith)
  linked_led (x ∷ y ∷ l) e zero h = (and_elim (f x y) (linked f (y ∷ l)) e).0
  linked_led (x ∷ y ∷ l) e (suc j) h = linked_led (y ∷ l) (and_elim (f x y) (linked f (y ∷ l)) e).1 j (omega arith)

  -- or else some vertex is not
  linked-lacks : (l : List ℕ) → linked f l ≡ false
      → (j : ℕ) × (suc j < length l) × (f (get_or l j 0) (get_or l (suc j) 0) ≡ false)
  unfolding linked
  linked-lacks [] e = absurd (true≢false e)
  linked-lacks (x ∷ []) e = absurd (true≢false e)
  linked-lacks (x ∷ y ∷ l) e = go (f x y) refl (linked-lacks (y ∷ l))
    where
      go : (b : Bool) → f x y ≡ b
          → (linked f (y ∷ l) ≡ false → (j : ℕ) × (suc j < length (y ∷ l)) × (f (get_or (y ∷ l) j 0) (get_or (y ∷ l) (suc j) 0) ≡ false))
          → (j : ℕ) × (suc j < length (x ∷ y ∷ l)) × (f (get_or (x ∷ y ∷ l) j 0) (get_or (x ∷ y ∷ l) (suc j) 0) ≡ false)
      go true p again =
          let r = again (ap (λ (b : Bool). b && linked f (y ∷ l)) (sym p) ∙ e) in
          (suc r.0, (let h = r.1 in omega arith), r.2)
      go false p again = (0, omega arith, p)

  led_linked : (l : List ℕ) → ((j : ℕ) → suc j < length l → f (get_or l j 0) (get_or l (suc j) 0) ≡ true) → linked f l ≡ true
  unfolding linked
  led_linked [] h = refl
  led_linked (x ∷ []) h = refl
  led_linked (x ∷ y ∷ l) h = and_intro (f x y) (linked f (y ∷ l)) (h 0 (omega arith)) (led_linked (y ∷ l) (λ j k. h (suc j) (omega arith)))

  all_led : (ls : List (List ℕ)) → all_linked f ls ≡ true → (k j : ℕ) → suc j < length (get_or ls k [])
      → f (get_or (get_or ls k []) j 0) (get_or (get_or ls k []) (suc j) 0) ≡ true
  unfolding every
  all_led [] e k j h = absurd (omega arith)
  all_led (l ∷ ls) e zero j h = linked_led l (and_elim (linked f l) (every (linked f) ls) e).0 j h
  all_led (l ∷ ls) e (suc k) j h = all_led ls (and_elim (linked f l) (every (linked f) ls) e).1 k j h

  all-lacks : (ls : List (List ℕ)) → all_linked f ls ≡ false
      → (k j : ℕ) × (suc j < length (get_or ls k [])) × (f (get_or (get_or ls k []) j 0) (get_or (get_or ls k []) (suc j) 0) ≡ false)
  unfolding every
  all-lacks [] e = absurd (true≢false e)
  all-lacks (l ∷ ls) e = go (linked f l) refl (all-lacks ls)
    where
      go : (b : Bool) → linked f l ≡ b
          → (all_linked f ls ≡ false
          → (k j : ℕ) × (suc j < length (get_or ls k [])) × (f (get_or (get_or ls k []) j 0) (get_or (get_or ls k []) (suc j) 0) ≡ false))
          → (k j : ℕ) × (suc j < length (get_or (l ∷ ls) k []))
          × (f (get_or (get_or (l ∷ ls) k []) j 0) (get_or (get_or (l ∷ ls) k []) (suc j) 0) ≡ false)
      go true p again = let r = again (ap (λ (b : Bool). b && every (linked f) ls) (sym p) ∙ e) in (suc r.0, r.1, r.2, r.3)
      go false p again = let r = linked-lacks l p in (0, r.0, r.1, r.2)

  led_all : (ls : List (List ℕ))
      → ((k j : ℕ) → suc j < length (get_or ls k []) → f (get_or (get_or ls k []) j 0) (get_or (get_or ls k []) (suc j) 0) ≡ true)
      → all_linked f ls ≡ true
  unfolding every
  led_all [] h = refl
  led_all (l ∷ ls) h = and_intro (linked f l) (every (linked f) ls) (led_linked l (h 0)) (led_all ls (λ k. h (suc k)))

-- ---- what each check of a graph says, both ways

module _ (c : Content) where
  abbrev n : ℕ
  n = c.vertices

  abbrev m : ℕ
  m = edges_of c

  abbrev reach : ℕ → ℕ → Bool
  reach = reachable? n c.tails c.heads

  -- the given channels, and their vertices
  abbrev ls : List (List ℕ)
  ls = lines_of c.field

  abbrev vs : List ℕ
  vs = vertices_of c.field

  pub size_says : (size? c ≡ false) ↔ Sized c
  unfolding size?
  size_says = (outsized_back n m, of_size n m)

  pub floor_says : (floor? c ≡ false) ↔ Floored c
  unfolding floor? unfloored?
  floor_says = (
    (λ e g.
        let p = or_neither _ _ (given-passes c.floored _ e g) in
        let long : length c.floors ≡ n = eqb-true _ _ (not-false _ p.0) in (
          long,
          λ v. ⊎_elim
              (λ l. ltb-false _ _ (none_found (length c.floors) over p.1 v l))
              (λ l. omega (arith, get_or-eq_default c.floors 0 l))
              (lt-or-le v (length c.floors)),
        )),
    λ h. passes-given c.floored _
        (λ g. neither _ _ (ap not (eq-eqb _ _ (h g).0)) (some_none (length c.floors) over (λ v l. le-ltb 127 _ ((h g).1 v)))),
  )
    where
      over : ℕ → Bool
      over v = ltb 127 (get_or c.floors v 0)

  pub stranger_says : (stranger? c ≡ false) ↔ (EndsKnown c × GivenKnown c)
  unfolding stranger?
  stranger_says = (
    (λ e.
        let p = or_neither (some m (strange? n c.tails c.heads)) (c.given && unknown? n vs) e in (
          ends_known n m c.tails c.heads p.0,
          λ g. unknown-within n vs (given-passes c.given _ p.1 g),
        )),
    λ k. neither _ _ (known_ends n m c.tails c.heads k.0) (passes-given c.given _ (λ g. within-unknown n vs (k.1 g))),
  )

  pub double_says : (double? c ≡ false) ↔ Distinct c
  double_says = (no_double c, distinct_no_double c)

  pub cover_says : (repeated? c ≡ false) ↔ Once c
  unfolding repeated?
  cover_says = ((λ e g. repeats_once vs (given-passes c.given _ e g)), λ o. passes-given c.given _ (λ g. once_repeats vs (o g)))

  -- size and known ends are all that the reachability layer asks
  graph_accepted : outsized? n m ≡ false → some m (strange? n c.tails c.heads) ≡ false → refusal n c.tails c.heads ≡ 0
  unfolding refusal verdict
  graph_accepted o s = rw (o, s) refl

  module _ (z : Sized c) (k : EndsKnown c × GivenKnown c) where
    taken : refusal n c.tails c.heads ≡ 0
    taken = graph_accepted (of_size n m z) (known_ends n m c.tails c.heads k.0)

    tails_known : (u v : ℕ) → Edge c.tails c.heads u v → u < n
    unfolding Edge
    tails_known u v e = subst (λ x. x < n) e.2 (k.0 e.0 e.1).0

    pub ring_says : (ring? c ≡ false) ↔ Acyclic c
    unfolding ring?
    ring_says = (
      (λ e u r.
          let small : n ≤ 128 = z.1 in
          let below : u < n = begins_below tails_known r in
          true≢false
          (sym ((reachable_decided n c.tails c.heads u u).0 (taken, r)) ∙ none_found 128 (λ u. reach u u) e u (omega arith))),
      λ a. some_none 128 (λ u. reach u u) (λ u l. not-true _ (λ e. a u ((reachable_decided n c.tails c.heads u u).1 e).1)),
    )

    -- what the graph's answers mean
    pub content_means : (u v : ℕ) → Means (Edge c.tails c.heads) u v (connection_number (connection_in c u v))
    unfolding connection_in
    content_means = graph_means n c.tails c.heads taken

    -- there is a way where the answer is not 'not at all'
    way : (u v : ℕ) → Leads c u v ↔ (leading? (connection_in c u v) ≡ true)
    way u v = means_leading (connection_in c u v) (content_means u v)

    pub led_says : (unled? c ≡ false) ↔ Led c
    unfolding unled? broken?
    led_says = (
      (λ e g i j h.
          let all = broken_linked (connection_in c) ls (given-passes c.given _ e g) in
          (way _ _).1 (all_led (λ u v. leading? (connection_in c u v)) ls all i j h)),
      λ a.
          passes-given c.given _
          (λ g. ap not (led_all (λ u v. leading? (connection_in c u v)) ls (λ i j h. (way _ _).0 (a g i j h)))),
    )

  -- where it fails, some vertex of a given channel answers 'not at all' to the next
  pub unled_lacks : unled? c ≡ true → (c.given ≡ true)
      × ((i j : ℕ) × (suc j < length (given_line c i))
      × (leading? (connection_in c (get_or (given_line c i) j 0) (get_or (given_line c i) (suc j) 0)) ≡ false))
  unfolding unled? broken?
  unled_lacks e =
      let p = and_elim c.given (not (all_linked (λ u v. leading? (connection_in c u v)) ls)) e in
      (p.0, all-lacks (λ u v. leading? (connection_in c u v)) ls (unmade (all_linked (λ u v. leading? (connection_in c u v)) ls) p.1))
    where
      unmade : (b : Bool) → not b ≡ true → b ≡ false
      unmade true t = sym t
      unmade false t = refl

  -- ---- the two together

  -- a sound graph is taken by the reachability layer
  pub sound_edges : Sound c → refusal n c.tails c.heads ≡ 0
  sound_edges s = taken s.size (s.ends, s.named)

  -- and its answers mean what they say
  pub sound_means : Sound c → (u v : ℕ) → Means (Edge c.tails c.heads) u v (connection_number (connection_in c u v))
  sound_means s = content_means s.size (s.ends, s.named)

  pub accepted_sound : refusal_of c ≡ 0 → Sound c
  accepted_sound e =
      let p = accepted-passes c e in
      let z = size_says.0 p.size in
      let k = stranger_says.0 p.stranger in record {
        size = z;
        floors = floor_says.0 p.floor;
        ends = k.0;
        named = k.1;
        distinct = double_says.0 p.double;
        acyclic = (ring_says z k).0 p.ring;
        once = cover_says.0 p.repeated;
        led = (led_says z k).0 p.unled;
      }

  pub sound_accepted : Sound c → refusal_of c ≡ 0
  sound_accepted s =
      let k : EndsKnown c × GivenKnown c = (s.ends, s.named) in
      passes-accepted c (record {
        size = size_says.1 s.size;
        floor = floor_says.1 s.floors;
        stranger = stranger_says.1 k;
        double = double_says.1 s.distinct;
        ring = (ring_says s.size k).1 s.acyclic;
        repeated = cover_says.1 s.once;
        unled = (led_says s.size k).1 s.led;
      })

-- ---- of records

module _ (b : List ℕ) where
  in_layout : (l : Layout) → layout_of b ≡ l → refusal_in refusal_of b l ≡ 0 → SoundRecord b
  in_layout Bad p e = absurd (let z : ◌≡◌ {A = ℕ} 1 0 = e in omega arith)
  in_layout (Good f) p e = (f, p, accepted_sound (content_of b f) e)

  -- the number that a record gets is 0 exactly when the record is sound
  pub record_sound : (record_refusal b ≡ 0) ↔ SoundRecord b
  unfolding record_refusal
  record_sound = (in_layout (layout_of b) refl, λ s. ap (refusal_in refusal_of b) s.1 ∙ sound_accepted (content_of b s.0) s.2)

  -- READ: the sound records are accepted, and no others
  pub read_sound : (r : Reading) → Reads b r → (r.refusal ≡ 0) ↔ SoundRecord b
  read_sound r a = ((λ e. record_sound.0 (sym a.answer ∙ e)), λ s. a.answer ∙ record_sound.1 s)
