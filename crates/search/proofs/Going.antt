-- What holds in the middle of the code's search, and what each of its steps makes of it. Assumes nothing.
use Rattle.counting.proofs.Prelude.{◌≡◌, refl, sym, ap, ◌∙◌, ◌≢◌, ⊎_elim, Bool, true, false, not, ◌&&◌, true≢false, List, ℕ, zero, suc, ◌+◌}
use Rattle.counting.proofs.Prelude.{◌-◌, ◌≤◌, ◌<◌, arith, length, get_or, set, eq-eqb, ne_eqb}
use native.Mathlib.Nat.{not-suc-le-zero, add-suc, add-zero}
use native.Mathlib.Decide.{dec_lt, ℕ_discrete}
use Rattle.counting.proofs.Truth.{lt-or-le}
use Rattle.specification.specs.Sets.{member?, inserted, has?}
use Rattle.search.specs.Steps.Coded.{State, nobody, seen, unvisited, scan, augment, candidate, predecessor_of, marked, taken, missed}
use Rattle.search.specs.Steps.Search.{state, open?, NextOpen, Augments}
use Rattle.search.proofs.Steps.{scan_end, scan_pass, scan_free, scan-moved, scan_stuck, candidate_fact, marked-seen, marked_mono}
use Rattle.search.proofs.Steps.{marked_fewer}

-- vertices that are no candidates are passed over
module _ (leads : ℕ → ℕ → Bool) (n : ℕ) (again : ℕ → State → State) (h : ℕ) (s : State) where
  scan_skip : (a d : ℕ) → ((v : ℕ) → a ≤ v → v < a + d → candidate leads h v s ≡ false)
      → scan leads n again h (n - a) a s ≡ scan leads n again h (n - (a + d)) (a + d) s
  scan_skip a zero f = ap (λ x. scan leads n again h (n - x) x s) (sym (add-zero a))
  scan_skip a (suc d) f = scan_skip a d (λ v l m. f v l (omega arith)) ∙ go (dec_lt (a + d) n)
    where
      go : Dec (a + d < n) → scan leads n again h (n - (a + d)) (a + d) s ≡ scan leads n again h (n - (a + suc d)) (a + suc d) s
      go (yes l) =
          ap (λ j. scan leads n again h j (a + d) s) (let e : n - (a + d) ≡ suc (n - (a + suc d)) = omega arith in e)
          ∙ scan_pass leads n again h (n - (a + suc d)) (a + d) s (f (a + d) (omega arith) (omega arith))
          ∙ ap (λ x. scan leads n again h (n - (a + suc d)) x s) (sym (add-suc a d))
      go (no l) =
          ap (λ j. scan leads n again h j (a + d) s) (let e : n - (a + d) ≡ 0 = omega arith in e)
          ∙ scan_end leads n again h 0 (a + d) s
          ∙ sym (scan_end leads n again h 0 (a + suc d) s)
          ∙ ap (λ j. scan leads n again h j (a + suc d) s) (let e : 0 ≡ n - (a + suc d) = omega arith in e)

  pub scan_to : (a b : ℕ) → a ≤ b → ((v : ℕ) → a ≤ v → v < b → candidate leads h v s ≡ false)
      → scan leads n again h (n - a) a s ≡ scan leads n again h (n - b) b s
  scan_to a b l f =
      scan_skip a (b - a) (λ v m k. f v m (omega arith))
      ∙ ap (λ x. scan leads n again h (n - x) x s) (let e : a + (b - a) ≡ b = omega arith in e)

-- a vertex that is visited is not open, and one that is not open stays so while what is visited stays visited
visited_shut : (a b : Bool) → b ≡ true → (a && not b) ≡ false
visited_shut true b e = ap not e
visited_shut false b e = refl

stays_shut : (a b d : Bool) → (b ≡ true → d ≡ true) → (a && not b) ≡ false → (a && not d) ≡ false
stays_shut false b d f e = refl
stays_shut true true d f e = ap not (f refl)
stays_shut true false d f e = absurd (true≢false e)

-- the search of h has come from P₀ and T₀ to P and T, and nothing below `from` is left to try
pub record Going (table : List ℕ) (n h : ℕ) (P₀ T₀ P T : List ℕ) : Type 0 where
  pub few : n ≤ 128
  pub long_v : length T ≡ 2
  pub fewer : unvisited n (state P T false) ≤ unvisited n (state P₀ T₀ false)
  pub mono : (u : ℕ) → member? T₀ 0 u ≡ true → member? T 0 u ≡ true
  pub from : ℕ
  pub within : from ≤ 128
  pub passed : (u : ℕ) → u < from → open? table h T u ≡ false
  pub on : (k : ℕ) → unvisited n (state P₀ T₀ false) < suc k
      → augment (has? 2 table) n (suc k) h (state P₀ T₀ false)
      ≡ scan (has? 2 table) n (augment (has? 2 table) n k) h (n - from) from (state P T false)

-- a depth above a number is one more than some depth
deep : (Q : ℕ → Type 0) (m : ℕ) → ((k : ℕ) → m < suc k → Q (suc k)) → (k : ℕ) → m < k → Q k
deep Q m f zero l = absurd (not-suc-le-zero l)
deep Q m f (suc k) l = f k l

module _ (table : List ℕ) (n h : ℕ) where
  abbrev leads : ℕ → ℕ → Bool
  leads = has? 2 table

  abbrev go : ℕ → ℕ → State → State
  go k = augment leads n k

  pub going_start : (P T : List ℕ) → n ≤ 128 → length T ≡ 2 → Going table n h P T P T
  unfolding augment
  going_start P T few lv = record {
    few = few;
    long_v = lv;
    fewer = omega arith;
    mono = λ u e. e;
    from = 0;
    within = omega arith;
    passed = λ u l. absurd (not-suc-le-zero l);
    on = λ k u. ap (λ j. scan leads n (go k) h j 0 (state P T false)) (let e : n ≡ n - 0 = omega arith in e);
  }

  -- h leads to no vertex that is not visited: its search fails, and changes nothing
  pub shut : (P T : List ℕ) (r : ℕ) → NextOpen table h T 0 r → n ≤ r → Augments leads n h (state P T false) (state P T false)
  unfolding augment missed open? candidate seen
  shut P T r p l =
      let s : State = state P T false in
      record {
        same = deep (λ k. s ≡ go k h s) (unvisited n s) λ k u.
            sym (ap (λ j. scan leads n (go k) h j 0 s) (let e : n ≡ n - 0 = omega arith in e)
            ∙ scan_to leads n (go k) h s 0 n (omega arith) (λ v a b. p.skipped v a (omega arith))
            ∙ ap (λ j. scan leads n (go k) h j n s) (let e : n - n ≡ 0 = omega arith in e)
            ∙ scan_end leads n (go k) h 0 n s);
        fewer = omega arith;
        mono = λ u e. e;
      }

  -- v is the next vertex to try, as the code found it
  module _ {P₀ T₀ P T : List ℕ} {v : ℕ} (g : Going table n h P₀ T₀ P T) (o : NextOpen table h T 0 v) where
    abbrev s₀ : State
    s₀ = state P₀ T₀ false

    abbrev s : State
    s = state P T false

    upto : Dec (v < 128) → g.from ≤ v
    upto (yes l) = ⊎_elim (λ c. absurd (true≢false (sym (o.found l).1 ∙ g.passed v c))) (λ c. c) (lt-or-le v g.from)
    upto (no l) = omega (arith, g.within)

    -- the scan is at v
    next_to : (k : ℕ) → unvisited n s₀ < suc k → go (suc k) h s₀ ≡ scan leads n (go k) h (n - v) v s
    unfolding open? candidate seen
    next_to k u = g.on k u ∙ scan_to leads n (go k) h s g.from v (upto (dec_lt v 128)) (λ w m b. o.skipped w (omega arith) b)

    pub gives_missed : n ≤ v → Augments leads n h s₀ s
    unfolding missed seen
    gives_missed l = record {
      same = deep (λ k. s ≡ go k h s₀) (unvisited n s₀) λ k u.
          sym (next_to k u ∙ ap (λ j. scan leads n (go k) h j v s) (let e : n - v ≡ 0 = omega arith in e)
          ∙ scan_end leads n (go k) h 0 v s);
      fewer = g.fewer;
      mono = g.mono;
    }

    module _ (l : v < n) (T₁ : List ℕ) (m : T₁ ≡ inserted T 0 v) where
      at : (k : ℕ) → unvisited n s₀ < suc k → go (suc k) h s₀ ≡ scan leads n (go k) h (suc (n - (v + 1))) v s
      at k u = next_to k u ∙ ap (λ j. scan leads n (go k) h j v s) (let e : n - v ≡ suc (n - (v + 1)) = omega arith in e)

      e : candidate leads h v s ≡ true
      unfolding open? candidate seen
      e = (o.found (omega (arith, g.few))).1

      one_fewer : unvisited n (state P T₁ false) + 1 ≡ unvisited n s
      unfolding marked
      one_fewer =
          ap (λ x. unvisited n (state P x false) + 1) m
          ∙ marked_fewer v s g.long_v (omega (arith, g.few)) n l (candidate_fact leads h v s e).1

      -- what was visited stays visited, and v is
      grown : (u : ℕ) → member? T 0 u ≡ true → member? T₁ 0 u ≡ true
      unfolding marked seen
      grown u q = ap (λ x. member? x 0 u) m ∙ marked_mono v s g.long_v (omega (arith, g.few)) u q

      own : member? T₁ 0 v ≡ true
      unfolding marked seen
      own = ap (λ x. member? x 0 v) m ∙ marked-seen v s g.long_v (omega (arith, g.few))

      -- the measure falls
      pub falls : unvisited n (state P T₁ false) < unvisited n s₀
      falls = omega (arith, one_fewer, g.fewer)

      pub gives_free : get_or P v 0 ≡ nobody → Augments leads n h s₀ (state (set P v h) T₁ true)
      unfolding taken marked predecessor_of unvisited seen
      gives_free f = record {
        same = deep (λ k. state (set P v h) T₁ true ≡ go k h s₀) (unvisited n s₀) λ k u.
            ap (λ x. state (set P v h) x true) m ∙ sym (at k u ∙ scan_free leads n (go k) h (n - (v + 1)) v s e (eq-eqb _ _ f));
        fewer = omega (arith, falls);
        mono = λ u q. grown u (g.mono u q);
      }

      module _ (P' T' : List ℕ) (b : Bool) (f : get_or P v 0 ≢ nobody)
          (q : Augments leads n (get_or P v 0) (state P T₁ false) (state P' T' b)) where
        -- the call's result is the definition's, one level less deep
        again : (k : ℕ) → unvisited n s₀ < suc k → state P' T' b ≡ go k (get_or P v 0) (state P (inserted T 0 v) false)
        again k u = q.same k (omega (arith, falls)) ∙ ap (λ x. go k (get_or P v 0) (state P x false)) m

        pub gives_moved : b ≡ true → Augments leads n h s₀ (state (set P' v h) T' true)
        unfolding taken marked predecessor_of unvisited seen
        gives_moved y = record {
          same = deep (λ k. state (set P' v h) T' true ≡ go k h s₀) (unvisited n s₀) λ k u.
              ap (taken h v) (again k u)
              ∙ sym (at k u ∙ scan-moved leads n (go k) h (n - (v + 1)) v s e (ne_eqb _ _ f) (ap (λ x. x.found) (sym (again k u)) ∙ y));
          fewer = omega (arith, falls, q.fewer);
          mono = λ u i. q.mono u (grown u (g.mono u i));
        }

        -- what was visited before v stays visited, and v too
        still : (u : ℕ) → member? T₁ 0 u ≡ true → member? T' 0 u ≡ true
        unfolding seen
        still u i = q.mono u i

        shut_below : (u : ℕ) → u < v + 1 → open? table h T' u ≡ false
        unfolding open?
        shut_below u a = at-v (ℕ_discrete u v)
          where
            at-v : Dec (u ≡ v) → open? table h T' u ≡ false
            at-v (yes d) = visited_shut (has? 2 table h u) (member? T' 0 u) (still u (ap (λ x. member? T₁ 0 x) d ∙ own))
            at-v (no d) =
                stays_shut (has? 2 table h u) (member? T 0 u) (member? T' 0 u) (λ e. still u (grown u e))
                (o.skipped u (omega arith) (omega arith))

        -- the measure of the loop falls
        pub nearer : unvisited n (state P' T' false) < unvisited n s
        unfolding unvisited seen
        nearer = omega (arith, one_fewer, q.fewer)

        pub going_stuck : b ≡ false → length T' ≡ 2 → Going table n h P₀ T₀ P' T'
        unfolding marked predecessor_of unvisited seen
        going_stuck y lv = record {
          few = g.few;
          long_v = lv;
          fewer = omega (arith, falls, q.fewer);
          mono = λ u i. still u (grown u (g.mono u i));
          from = v + 1;
          within = omega (arith, g.few);
          passed = shut_below;
          on = λ k u. at k u
              ∙ scan_stuck leads n (go k) h (n - (v + 1)) v s e (ne_eqb _ _ f) (ap (λ x. x.found) (sym (again k u)) ∙ y)
              ∙ ap (scan leads n (go k) h (n - (v + 1)) (suc v)) (sym (again k u) ∙ ap (state P' T') y)
              ∙ ap (λ j. scan leads n (go k) h (n - (v + 1)) j (state P' T' false)) (let e : suc v ≡ v + 1 = omega arith in e);
        }
