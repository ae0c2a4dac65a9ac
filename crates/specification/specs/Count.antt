-- Choices, sums and counts, in which the rest is written. Assumes nothing.
use Rattle.std.specs.Prelude.{ℕ, zero, suc, ◌+◌, max, Bool, true, false, ◌||◌}

-- 1 for true, 0 for false
abbrev pub indicator : Bool → ℕ
indicator true = 1
indicator false = 0

-- the first where the test holds, else the second; each waits for the test
abbrev pub choose {ℓ} : {A : Type ℓ} → Bool → (Unit {0} → A) → (Unit {0} → A) → A
choose true f g = f tt
choose false f g = g tt

-- f 0 + f 1 + .. + f (n - 1)
unfoldable pub sum : ℕ → (ℕ → ℕ) → ℕ
sum zero f = 0
sum (suc n) f = sum n f + f n

-- how many of the first n pass the test
unfoldable pub count : ℕ → (ℕ → Bool) → ℕ
count n f = sum n (λ i. indicator (f i))

-- whether one of the first n passes the test
unfoldable pub some : ℕ → (ℕ → Bool) → Bool
some zero f = false
some (suc n) f = some n f || f n

-- 1 + the highest value of f among the first n that pass the test, or 0 where none does
unfoldable pub above : ℕ → (ℕ → Bool) → (ℕ → ℕ) → ℕ
above zero test f = 0
above (suc n) test f = max (above n test f) (choose (test n) (λ _. suc (f n)) (λ _. 0))
