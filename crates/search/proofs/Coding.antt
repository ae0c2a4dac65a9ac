-- The steps over the tables are the rule's: the same searches leave the same predecessors. Assumes nothing.
use Rattle.counting.proofs.Prelude.{◌≡◌, refl, sym, ap, ◌∙◌, subst, Bool, true, false, not, ◌&&◌, List, [], ℕ, zero, suc, ◌+◌, ◌≤◌, ◌<◌}
use Rattle.counting.proofs.Prelude.{arith, eqb, length, get_or, set, replicate, length-set, length-replicate, get_or-replicate, eq-eqb}
use Rattle.counting.proofs.Prelude.{ne_eqb}
use native.Mathlib.Decide.{ℕ_discrete}
use lib.Seq.{get_or-set_same, get_or-set_other}
use mathlib.Core.Option.{none, some, some-injective, none-ne-some}
use Rattle.specification.specs.Channels.{has}
use Rattle.specification.specs.Planning.{Held, State, predecessor_of, candidate, marked, taken, answered, fresh, scan, augment, asks}
use Rattle.specification.specs.Planning.{matching_to, matching}
use Rattle.masks.proofs.Members.{length_inserted, member_zeros}
use Rattle.matching.specs.Visited as visit
use Rattle.matching.proofs.Scan.{put, put-here, put_other, scan_ind}
use Rattle.matching.proofs.Kept.{marked-seen, marked_other}
use Rattle.search.specs.Tabled.{byte_of, Tabled}
use Rattle.search.specs.Steps.Coded as coded
use Rattle.search.proofs.Steps as steps

module _ (n : ℕ) (small : n ≤ 128) where
  -- every predecessor is a vertex
  abbrev pub Low : List Held → Type 0
  Low held = (v p : ℕ) → predecessor_of held v ≡ some p → p < n

  -- c has in tables what s has in lists
  pub record Codes (c : coded.State) (s : State) : Type 0 where
    pub tabled : Tabled s.held c.predecessor
    pub low : Low s.held
    pub size : length c.visited ≡ 2
    pub seen : (v : ℕ) → v < 128 → coded.seen v c ≡ visit.seen v s
    pub found : c.found ≡ s.found

  tabled_taken : (held : List Held) (P : List ℕ) (v h : ℕ) → v < 128 → Tabled held P → Tabled (put v h held) (set P v h)
  unfolding byte_of
  tabled_taken held P v h b t = record { size = length-set P v h ∙ t.size; each = λ u l. go u l (ℕ_discrete u v) }
    where
      go : (u : ℕ) → u < 128 → Dec (u ≡ v) → get_or (set P v h) u 0 ≡ byte_of (predecessor_of (put v h held) u)
      go u l (yes q) = subst (λ w. get_or (set P v h) w 0 ≡ byte_of (predecessor_of (put v h held) w)) (sym q)
          (get_or-set_same P v h 0 (omega (arith, t.size)) ∙ sym (ap byte_of (put-here held v h)))
      go u l (no q) = get_or-set_other P v u h 0 q ∙ t.each u l ∙ sym (ap byte_of (put_other held v h u q))

  low_taken : (held : List Held) (v h : ℕ) → h < n → Low held → Low (put v h held)
  low_taken held v h b g u p e = go (ℕ_discrete u v)
    where
      go : Dec (u ≡ v) → p < n
      go (yes q) =
          let r : h ≡ p = some-injective h p (sym (put-here held v h) ∙ ap (predecessor_of (put v h held)) (sym q) ∙ e) in
          omega arith
      go (no q) = g u p (sym (put_other held v h u q) ∙ e)

  codes_taken : (v h : ℕ) {c : coded.State} {s : State} → v < 128 → h < n → Codes c s → Codes (coded.taken h v c) (taken h v s)
  unfolding coded.taken taken coded.seen
  codes_taken v h {c} {s} b l g = record {
    tabled = tabled_taken s.held c.predecessor v h b g.tabled;
    low = low_taken s.held v h l g.low;
    size = g.size;
    seen = g.seen;
    found = refl;
  }

  codes_marked : (v : ℕ) {c : coded.State} {s : State} → v < 128 → Codes c s → Codes (coded.marked v c) (marked v s)
  unfolding coded.marked marked
  codes_marked v {c} {s} b g = record {
    tabled = g.tabled;
    low = g.low;
    size = length_inserted c.visited 0 v ∙ g.size;
    seen = λ u l. go u l (ℕ_discrete u v);
    found = g.found;
  }
    where
      go : (u : ℕ) → u < 128 → Dec (u ≡ v) → coded.seen u (coded.marked v c) ≡ visit.seen u (marked v s)
      go u l (yes q) =
          subst (λ w. coded.seen w (coded.marked v c) ≡ visit.seen w (marked v s)) (sym q)
          (steps.marked-seen v c g.size b ∙ sym (marked-seen v s))
      go u l (no q) = steps.marked_other v c u q ∙ g.seen u l ∙ sym (marked_other v s u q)

  codes_missed : {c : coded.State} {s : State} → Codes c s → Codes (coded.missed c) (answered false s)
  unfolding coded.missed answered coded.seen
  codes_missed g = record { tabled = g.tabled; low = g.low; size = g.size; seen = g.seen; found = refl }

  codes_fresh : (held : List Held) (P : List ℕ) → Tabled held P → Low held → Codes (coded.fresh P) (fresh held)
  unfolding coded.seen has
  codes_fresh held P t g = record { tabled = t; low = g; size = length-replicate {A = ℕ} 2 0; seen = λ v _. member_zeros 2 v; found = refl }

  module _ (leads : ℕ → ℕ → Bool) where
    candidate_coded : (h v : ℕ) {c : coded.State} {s : State} → v < 128 → Codes c s → coded.candidate leads h v c ≡ candidate leads h v s
    unfolding coded.candidate candidate
    candidate_coded h v b g = ap (λ x. leads h v && not x) (g.seen v b)

    -- a step of the one is a step of the other
    abbrev Follows : (ℕ → coded.State → coded.State) → (ℕ → State → State) → Type 0
    Follows code again = (h : ℕ) (c : coded.State) (s : State) → h < n → Codes c s → Codes (code h c) (again h s)

    module _ (code : ℕ → coded.State → coded.State) (again : ℕ → State → State) (follows : Follows code again) (h : ℕ) (b : h < n) where
      abbrev Q : ℕ → ℕ → State → State → Type 0
      Q j v s x = (c : coded.State) → v + j ≤ n → Codes c s → Codes (coded.scan leads n code h j v c) x

      codes_free : (j v : ℕ) (s : State) → candidate leads h v s ≡ true → predecessor_of s.held v ≡ none
          → Q (suc j) v s (taken h v (marked v s))
      unfolding coded.predecessor_of byte_of
      codes_free j v s e f c l g =
          let w : v < 128 = omega arith in
          let x : coded.predecessor_of v c ≡ 255 = g.tabled.each v w ∙ ap byte_of f in
          rw (steps.scan_free leads n code h j v c (candidate_coded h v w g ∙ e) (eq-eqb _ _ x)) (codes_taken v h w b (codes_marked v w g))

      -- v has the predecessor p, which asks
      module _ (j v : ℕ) (s : State) (p : ℕ) (e : candidate leads h v s ≡ true) (f : predecessor_of s.held v ≡ some p) where
        module _ (c : coded.State) (l : v + suc j ≤ n) (g : Codes c s) where
          at : coded.predecessor_of v c ≡ p
          unfolding coded.predecessor_of byte_of
          at = g.tabled.each v (omega arith) ∙ ap byte_of f

          other : eqb (coded.predecessor_of v c) coded.nobody ≡ false
          other = ne_eqb (coded.predecessor_of v c) coded.nobody (λ (y : coded.predecessor_of v c ≡ 255). omega (arith, at, g.low v p f))

          asked : Codes (code (coded.predecessor_of v c) (coded.marked v c)) (again p (marked v s))
          asked = rw at (follows p (coded.marked v c) (marked v s) (g.low v p f) (codes_marked v (omega arith) g))

          may : coded.candidate leads h v c ≡ true
          may = candidate_coded h v (omega arith) g ∙ e

        codes_moved : (again p (marked v s)).found ≡ true → Q (suc j) v s (taken h v (again p (marked v s)))
        codes_moved y c l g =
            rw (steps.scan-moved leads n code h j v c (may c l g) (other c l g) ((asked c l g).found ∙ y))
            (codes_taken v h (omega arith) b (asked c l g))

        codes_stuck : (again p (marked v s)).found ≡ false → (x : State) → Q j (suc v) (again p (marked v s)) x → Q (suc j) v s x
        codes_stuck y x ih c l g =
            rw (steps.scan_stuck leads n code h j v c (may c l g) (other c l g) ((asked c l g).found ∙ y))
            (ih _ (omega arith) (asked c l g))

      scan_codes : (j v : ℕ) (s : State) → Q j v s (scan leads n again h j v s)
      scan_codes = scan_ind leads n again h Q (record {
        at_end = λ v s c l g. rw (steps.scan_end leads n code h zero v c) (codes_missed g);
        pass = λ j v s e ih c l g.
            rw (steps.scan_pass leads n code h j v c (candidate_coded h v (omega arith) g ∙ e)) (ih c (omega arith) g);
        free = codes_free;
        moved = codes_moved;
        stuck = λ j v s p e f y ih. codes_stuck j v s p e f y _ ih;
      })

    augment_codes : (k : ℕ) → Follows (coded.augment leads n k) (augment leads n k)
    unfolding coded.augment augment
    augment_codes zero h c s b g = codes_missed g
    augment_codes (suc k) h c s b g = scan_codes (coded.augment leads n k) (augment leads n k) (augment_codes k) h b n 0 s c (omega arith) g

    asks_codes : (j h : ℕ) (P : List ℕ) (held : List Held) → h + j ≤ n → Tabled held P → Low held
        → Tabled (asks leads n (suc n) j h held) (coded.asks leads n j h P) × Low (asks leads n (suc n) j h held)
    unfolding coded.asks asks
    asks_codes zero h P held l t g = (t, g)
    asks_codes (suc j) h P held l t g =
        let r : Codes (coded.augment leads n (suc n) h (coded.fresh P)) (augment leads n (suc n) h (fresh held)) =
        augment_codes (suc n) h (coded.fresh P) (fresh held) (omega arith) (codes_fresh held P t g) in
        asks_codes j (suc h) _ _ (omega arith) r.tabled r.low

    matching_codes : Tabled (matching leads n) (coded.matching leads n) × Low (matching leads n)
    unfolding coded.matching matching matching_to predecessor_of byte_of
    matching_codes = asks_codes n 0 (replicate 128 255) [] (omega arith)
        (record { size = length-replicate {A = ℕ} 128 255; each = λ v l. get_or-replicate 128 v 255 0 l })
        (λ v p e. absurd (none-ne-some p e))

    -- the table that the steps leave has the rule's predecessors
    pub matching_tabled : Tabled (matching leads n) (coded.matching leads n)
    matching_tabled = matching_codes.0
