-- Worked examples of reachability, by computation. Assumes nothing.
use Rattle.std.specs.Prelude.{◌≡◌, refl, true, false, List, [], ◌∷◌, ℕ}
use Rattle.specification.specs.Count.{sum, count, some}
use Rattle.specification.specs.Graph.{edge?, reaches?, outsized?, strange?, verdict, refusal, reachable?, unsized?}

-- P1 (SPECIFICATION.md, 16.1): 0→1, 0→2, 1→3, 2→3, 3→4, 0→3
unfoldable pub tails : List ℕ
tails = 0 ∷ 0 ∷ 1 ∷ 2 ∷ 3 ∷ 0 ∷ []

unfoldable pub heads : List ℕ
heads = 1 ∷ 2 ∷ 3 ∷ 3 ∷ 4 ∷ 3 ∷ []

pub record Worked : Type 0 where
  -- 0 reaches the four others, and nothing else
  pub p1 : (reachable? 5 tails heads 0 1 ≡ true) × (reachable? 5 tails heads 0 2 ≡ true) × (reachable? 5 tails heads 0 3 ≡ true)
      × (reachable? 5 tails heads 0 4 ≡ true)
  pub four : count 128 (reachable? 5 tails heads 0) ≡ 4
  pub back : reachable? 5 tails heads 4 0 ≡ false
  pub acyclic : some 128 (λ u. reachable? 5 tails heads u u) ≡ false
  -- P9: 0→0 is a cycle
  pub p9 : some 128 (λ u. reachable? 1 (0 ∷ []) (0 ∷ []) u u) ≡ true
  -- over three edges
  pub chain : reachable? 4 (0 ∷ 1 ∷ 2 ∷ []) (1 ∷ 2 ∷ 3 ∷ []) 0 3 ≡ true
  -- a cycle of two: each reaches itself
  pub ring : reachable? 2 (0 ∷ 1 ∷ []) (1 ∷ 0 ∷ []) 1 1 ≡ true
  -- refusals, and then nothing is reached
  pub none : refusal 0 [] [] ≡ 2
  pub large : refusal 129 [] [] ≡ 2
  pub stranger : refusal 1 (0 ∷ []) (1 ∷ []) ≡ 3
  pub silent : reachable? 1 (0 ∷ 0 ∷ []) (0 ∷ 1 ∷ []) 0 0 ≡ false
  -- of lists of different lengths the shorter counts
  pub shorter : refusal 1 (0 ∷ 7 ∷ []) (0 ∷ []) ≡ 0

pub worked : Worked
unfolding reachable? refusal verdict outsized? unsized? strange? edge? reaches? count sum some tails heads
worked = record {
  p1 = (refl, refl, refl, refl);
  four = refl;
  chain = refl;
  back = refl;
  acyclic = refl;
  p9 = refl;
  ring = refl;
  none = refl;
  large = refl;
  stranger = refl;
  silent = refl;
  shorter = refl;
}
