-- The checks one after the other: by the refusal of the edges and the floors, and then by the given channels. Assumes nothing.
use Rattle.counting.proofs.Prelude.{◌≡◌, refl, sym, ap, ◌∙◌, ◌≢◌, Bool, true, false, true≢false, ◌&&◌, ◌||◌, List, ℕ, ◌<◌, arith}
use Rattle.counting.proofs.Prelude.{eqb, leb, le-leb, lt-leb, ne_eqb}
use native.Mathlib.Decide.{ℕ_discrete}
use Rattle.specification.specs.Count.{choose, some}
use Rattle.specification.specs.Graph.{edge_count, outsized?, strange?, verdict, edge?, reachable?, duplicate?, unsized?}
use Rattle.specification.specs.Connection.{connects}
use Rattle.specification.specs.declared.Connection.{Connection}
use Rattle.specification.specs.Channels.{lines_of, vertices_of, unknown?, repeats?, broken?}
use Rattle.specification.specs.Checks.{Content, content, connection_in, size?, unfloored?, floor?, stranger?, double?, ring?, repeated?}
use Rattle.specification.specs.Checks.{unled?, loose_checks, later_checks, first_of, refusal_of}
use Rattle.specification.specs.Graph as edges
use Rattle.descent.specs.Promise.{edges_refusal}
use Rattle.floors.specs.Promise.{after_size, raised_refusal}
use Rattle.channels.specs.Promise.{given_refusal}
use Rattle.channels.proofs.Agreeing.{given-same}

-- ---- the list of checks, by what each finds

-- size, floors, strangers among the edges and in the given channels, duplicates, cycles, and the rest
whole : (o f s g d y : Bool) → ℕ → ℕ
whole o f s g d y rest =
    choose o (λ _. 2) (λ _. choose f (λ _. 12)
    (λ _. choose (s || g) (λ _. 3) (λ _. choose d (λ _. 4) (λ _. choose y (λ _. 5) (λ _. rest)))))

-- the same of the edges alone
alone : (o s d y : Bool) → ℕ
alone o s d y = choose (eqb (verdict o s) 0) (λ _. choose d (λ _. 4) (λ _. choose y (λ _. 5) (λ _. 0))) (λ _. verdict o s)

-- the given channels, where some are given: repeated, broken
lines : (g r b : Bool) → ℕ
lines g r b = choose (g && r) (λ _. 6) (λ _. choose (g && b) (λ _. 7) (λ _. 0))

-- the edges or the floors are refused with k: an unknown vertex in the given channels goes before duplicates and cycles
edges-refused : (o f s g d y : Bool) (rest k : ℕ) → k ≡ after_size (alone o s d y) f → k ≢ 0
    → whole o f s g d y rest ≡ choose ((leb 4 k && leb k 5) && g) (λ _. 3) (λ _. k)
unfolding whole alone verdict
edges-refused true f s g d y rest k e h = sym (rw e refl)
edges-refused false true true g d y rest k e h = sym (rw e refl)
edges-refused false true false g true y rest k e h = sym (rw e refl)
edges-refused false true false g false true rest k e h = sym (rw e refl)
edges-refused false true false g false false rest k e h = sym (rw e refl)
edges-refused false false true g d y rest k e h = sym (rw e refl)
edges-refused false false false true true y rest k e h = sym (rw e refl)
edges-refused false false false false true y rest k e h = sym (rw e refl)
edges-refused false false false true false true rest k e h = sym (rw e refl)
edges-refused false false false false false true rest k e h = sym (rw e refl)
edges-refused false false false g false false rest k e h = absurd (h e)

-- they are not: strangers in the given channels, and then the rest
edges-passed : (o f s g d y : Bool) (rest : ℕ) → alone o s d y ≡ 0 → f ≡ false → whole o f s g d y rest ≡ choose g (λ _. 3) (λ _. rest)
unfolding whole alone verdict
edges-passed true f s g d y rest e p = absurd (let z : ◌≡◌ {A = ℕ} 2 0 = e in omega arith)
edges-passed false true s g d y rest e p = absurd (true≢false p)
edges-passed false false true g d y rest e p = absurd (let z : ◌≡◌ {A = ℕ} 3 0 = e in omega arith)
edges-passed false false false g true y rest e p = absurd (let z : ◌≡◌ {A = ℕ} 4 0 = e in omega arith)
edges-passed false false false g false true rest e p = absurd (let z : ◌≡◌ {A = ℕ} 5 0 = e in omega arith)
edges-passed false false false g false false rest e p = refl

edges_sound : (o s d y : Bool) → alone o s d y ≡ 0 → verdict o s ≡ 0
unfolding alone verdict
edges_sound true s d y e = absurd (let z : ◌≡◌ {A = ℕ} 2 0 = e in omega arith)
edges_sound false true d y e = absurd (let z : ◌≡◌ {A = ℕ} 3 0 = e in omega arith)
edges_sound false false d y e = refl

-- nothing is refused exactly where neither is
after_none : (k : ℕ) (f : Bool) → after_size k f ≡ 0 → (k ≡ 0) × (f ≡ false)
after_none k f e = go (ℕ_discrete k 2) f e
  where
    go : Dec (k ≡ 2) → (f : Bool) → after_size k f ≡ 0 → (k ≡ 0) × (f ≡ false)
    go (yes q) f e = absurd (let z : ◌≡◌ {A = ℕ} 2 0 = rw q at e in omega arith)
    go (no ne) true e = absurd (let z : ◌≡◌ {A = ℕ} 12 0 = rw (ne_eqb k 2 ne) at e in omega arith)
    go (no ne) false e = (rw (ne_eqb k 2 ne) at e, refl)

pub none_after : (k : ℕ) (f : Bool) → k ≡ 0 → f ≡ false → after_size k f ≡ 0
none_after k f z e = rw (z, e) refl

module _ (n : ℕ) (tails heads : List ℕ) (given : Bool) (field : List ℕ) (floored : Bool) (floors : List ℕ) where
  abbrev c : Content
  c = content n tails heads given field floored floors

  abbrev o : Bool
  o = outsized? n (edge_count tails heads)

  abbrev f : Bool
  f = unfloored? n floored floors

  abbrev s : Bool
  s = some (edge_count tails heads) (strange? n tails heads)

  abbrev d : Bool
  d = duplicate? (edge_count tails heads) tails heads

  abbrev y : Bool
  y = some 128 (λ u. reachable? n tails heads u u)

  abbrev rest : ℕ
  rest = lines given (repeats? (vertices_of field)) (broken? (connects (edge? tails heads) n) (lines_of field))

  as_whole : refusal_of c ≡ whole o f s (given && unknown? n (vertices_of field)) d y rest
  unfolding refusal_of first_of loose_checks later_checks size? floor? stranger? double? ring? repeated? unled? connection_in whole lines
  as_whole = refl

  as_alone : edges_refusal n tails heads ≡ alone o s d y
  unfolding edges_refusal edges.refusal alone
  as_alone = refl

  pub refused-edges : (k : ℕ) → k ≡ raised_refusal n tails heads floored floors → k ≢ 0
      → refusal_of c ≡ choose ((leb 4 k && leb k 5) && (given && unknown? n (vertices_of field))) (λ _. 3) (λ _. k)
  unfolding raised_refusal
  refused-edges k e h =
      as_whole ∙ edges-refused o f s (given && unknown? n (vertices_of field)) d y rest k (e ∙ ap (λ (x : ℕ). after_size x f) as_alone) h

  -- neither the edges nor the floors are refused
  pub raised-passes : raised_refusal n tails heads floored floors ≡ 0 → (edges_refusal n tails heads ≡ 0) × (f ≡ false)
  unfolding raised_refusal
  raised-passes = after_none (edges_refusal n tails heads) f

  pub passes-raised : edges_refusal n tails heads ≡ 0 → f ≡ false → raised_refusal n tails heads floored floors ≡ 0
  unfolding raised_refusal
  passes-raised = none_after (edges_refusal n tails heads) f

  passed-edges : edges_refusal n tails heads ≡ 0 → f ≡ false → refusal_of c ≡ choose (given && unknown? n (vertices_of field)) (λ _. 3)
      (λ _. rest)
  passed-edges e p = as_whole ∙ edges-passed o f s (given && unknown? n (vertices_of field)) d y rest (sym as_alone ∙ e) p

  pub edges-accepted : edges_refusal n tails heads ≡ 0 → edges.refusal n tails heads ≡ 0
  unfolding edges.refusal
  edges-accepted e = edges_sound o s d y (sym as_alone ∙ e)

-- ---- then the given channels

module _ (n : ℕ) (tails heads : List ℕ) (field : List ℕ) (floored : Bool) (floors : List ℕ) (passes : edges_refusal n tails heads ≡ 0)
    (floors-pass : unfloored? n floored floors ≡ false) where
  -- no channels are given
  pub bare-refusal : refusal_of (content n tails heads false field floored floors) ≡ 0
  unfolding lines
  bare-refusal = passed-edges n tails heads false field floored floors passes floors-pass

  -- channels are given, and checked by answers that are the graph's
  pub given-refusal : (ask : ℕ → ℕ → Connection) → ((u v : ℕ) → u < n → v < n → ask u v ≡ connects (edge? tails heads) n u v)
      → unsized? n ≡ false → given_refusal ask n field ≡ refusal_of (content n tails heads true field floored floors)
  unfolding given_refusal lines
  given-refusal ask same small =
      given-same n ask (connects (edge? tails heads) n) same field
      ∙ ap
      (λ (t : Bool). choose {A = ℕ} t (λ _. 2)
      (λ _. choose (unknown? n (vertices_of field)) (λ _. 3)
      (λ _. choose (repeats? (vertices_of field)) (λ _. 6)
      (λ _. choose (broken? (connects (edge? tails heads) n) (lines_of field)) (λ _. 7) (λ _. 0))))) small
      ∙ sym (passed-edges n tails heads true field floored floors passes floors-pass)

-- ---- the same, where k is neither 4 nor 5

pub first-high : (k : ℕ) (given unknown : Bool) → 5 < k → k ≡ choose ((leb 4 k && leb k 5) && (given && unknown)) (λ _. 3) (λ _. k)
first-high k given unknown h = sym (rw (le-leb 4 k (omega arith), lt-leb k 5 h) refl)
