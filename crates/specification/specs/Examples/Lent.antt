-- A list of which two entries are written, by computation. Assumes nothing.
use Rattle.std.specs.Prelude.{◌≡◌, refl, [], ◌∷◌, ℕ, zero, suc, ◌+◌, ◌≤◌, ◌<◌, get_or}
use Rattle.std.proofs.Common.{arith}
use Rattle.specification.specs.Lent.{Filled}

pub worked : Filled (7 ∷ 8 ∷ 9 ∷ []) (λ k. k + 1) 2 (1 ∷ 2 ∷ 9 ∷ [])
worked = record { as_long = refl; made = made; kept = λ k d l. kept k d (omega arith) }
  where
    made : (k d : ℕ) → k < 2 → get_or (1 ∷ 2 ∷ 9 ∷ []) k d ≡ k + 1
    made zero d l = refl
    made (suc zero) d l = refl
    made (suc (suc k)) d l = absurd (omega arith)

    kept : (k d : ℕ) → 2 ≤ k → get_or (1 ∷ 2 ∷ 9 ∷ []) k d ≡ get_or (7 ∷ 8 ∷ 9 ∷ []) k d
    kept zero d l = absurd (omega arith)
    kept (suc zero) d l = absurd (omega arith)
    kept (suc (suc k)) d l = refl
