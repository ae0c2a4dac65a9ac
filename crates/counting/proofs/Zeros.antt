-- A list of zeros is 0 everywhere, past its end too. Assumes nothing.
use Rattle.counting.proofs.Prelude.{◌≡◌, refl, ℕ, zero, suc, get_or, replicate}

pub zeros : (n i : ℕ) → ◌≡◌ {A = ℕ} (get_or (replicate n 0) i 0) 0
zeros zero i = refl
zeros (suc n) zero = refl
zeros (suc n) (suc i) = zeros n i
