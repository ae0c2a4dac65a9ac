-- The answer, by the tests of its checks. Assumes nothing.
use Rattle.counting.proofs.Prelude.{◌≡◌, refl, sym, ◌∙◌, ◌≢◌, Bool, true, false, true≢false, List, ℕ, ◌<◌, arith, eqb}
use Rattle.specification.specs.Count.{choose, some}
use Rattle.specification.specs.Graph.{edge_count, outsized?, strange?, verdict, refusal, duplicate?, reachable?}
use Rattle.scanning.specs.Scanned.{ends_refusal}
use Rattle.descent.specs.Promise.{edges_refusal}

-- the first that holds of the tests of size, strangers, duplicates and cycles
abbrev first_of : Bool → Bool → Bool → Bool → ℕ
first_of o s d c = choose o (λ _. 2) (λ _. choose s (λ _. 3) (λ _. choose d (λ _. 4) (λ _. choose c (λ _. 5) (λ _. 0))))

-- of strangers and duplicates
abbrev of_ends : Bool → Bool → ℕ
of_ends s d = choose s (λ _. 3) (λ _. choose d (λ _. 4) (λ _. 0))

by_tests : (o s d c : Bool)
    → choose {A = ℕ} (eqb (verdict o s) 0) (λ _. choose d (λ _. 4) (λ _. choose c (λ _. 5) (λ _. 0))) (λ _. verdict o s) ≡ first_of o s d c
unfolding verdict
by_tests true s d c = refl
by_tests false true d c = refl
by_tests false false d c = refl

ends-first : (o s d c : Bool) → o ≡ false → of_ends s d ≢ 0 → first_of o s d c ≡ of_ends s d
ends-first true s d c p ne = absurd (true≢false p)
ends-first false true d c p ne = refl
ends-first false false true c p ne = refl
ends-first false false false c p ne = absurd (ne refl)

cycle-first : (o s d c : Bool) → o ≡ false → of_ends s d ≡ 0 → (first_of o s d c ≡ choose c (λ _. 5) (λ _. 0)) × (verdict o s ≡ 0)
unfolding verdict
cycle-first true s d c p e = absurd (true≢false p)
cycle-first false true d c p e = absurd (let z : ◌≡◌ {A = ℕ} 3 0 = e in omega arith)
cycle-first false false true c p e = absurd (let z : ◌≡◌ {A = ℕ} 4 0 = e in omega arith)
cycle-first false false false c p e = (refl, refl)

none_holds : (o s d c : Bool) → first_of o s d c ≡ 0 → (verdict o s ≡ 0) × (c ≡ false)
unfolding verdict
none_holds true s d c e = absurd (let z : ◌≡◌ {A = ℕ} 2 0 = e in omega arith)
none_holds false true d c e = absurd (let z : ◌≡◌ {A = ℕ} 3 0 = e in omega arith)
none_holds false false true c e = absurd (let z : ◌≡◌ {A = ℕ} 4 0 = e in omega arith)
none_holds false false false true e = absurd (let z : ◌≡◌ {A = ℕ} 5 0 = e in omega arith)
none_holds false false false false e = (refl, refl)

few-answers : (o s d c : Bool) → first_of o s d c < 6
few-answers true s d c = omega arith
few-answers false true d c = omega arith
few-answers false false true c = omega arith
few-answers false false false true = omega arith
few-answers false false false false = omega arith

ends-among : (s d : Bool) → (of_ends s d ≢ 2) × (of_ends s d < 5)
ends-among true d = omega arith
ends-among false true = omega arith
ends-among false false = omega arith

module _ (n : ℕ) (tails heads : List ℕ) where
  abbrev size : Bool
  size = outsized? n (edge_count tails heads)

  abbrev strange : Bool
  strange = some (edge_count tails heads) (strange? n tails heads)

  abbrev double : Bool
  double = duplicate? (edge_count tails heads) tails heads

  abbrev cycle : Bool
  cycle = some 128 (λ u. reachable? n tails heads u u)

  -- 0, 3 or 4
  pub ends-answers : (ends_refusal n tails heads ≢ 2) × (ends_refusal n tails heads < 5)
  unfolding ends_refusal
  ends-answers = ends-among strange double

  -- the four tests in turn
  pub edges_in_turn : edges_refusal n tails heads
      ≡ choose size (λ _. 2) (λ _. choose strange (λ _. 3) (λ _. choose double (λ _. 4) (λ _. choose cycle (λ _. 5) (λ _. 0))))
  unfolding edges_refusal refusal
  edges_in_turn = by_tests size strange double cycle

  -- nothing is refused: the ends are vertices, and there is no cycle
  pub edges-accepted : edges_refusal n tails heads ≡ 0 → (refusal n tails heads ≡ 0) × (cycle ≡ false)
  unfolding refusal
  edges-accepted e = none_holds size strange double cycle (sym edges_in_turn ∙ e)

  pub edges-answers : edges_refusal n tails heads < 6
  edges-answers = omega (arith, edges_in_turn, few-answers size strange double cycle)

  module _ (sized : size ≡ false) where
    pub answer-ends : ends_refusal n tails heads ≢ 0 → edges_refusal n tails heads ≡ ends_refusal n tails heads
    unfolding ends_refusal
    answer-ends ne = edges_in_turn ∙ ends-first size strange double cycle sized ne

    pub answer-cycle : ends_refusal n tails heads ≡ 0
        → (edges_refusal n tails heads ≡ choose cycle (λ _. 5) (λ _. 0)) × (refusal n tails heads ≡ 0)
    unfolding ends_refusal refusal
    answer-cycle e = let p = cycle-first size strange double cycle sized e in (edges_in_turn ∙ p.0, p.1)
