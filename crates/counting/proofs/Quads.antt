-- Numbers stored into a list of entries of four. Assumes nothing.
use Rattle.counting.proofs.Prelude.{◌≡◌, refl, List, ℕ, zero, suc, ◌+◌, ◌*◌, ◌<◌, arith, length, get_or, set}
use lib.Seq.{get_or-set_same, get_or-set_other}
use Rattle.counting.specs.Quads.{spot, quad}

pub spot-sum : (k b : ℕ) → spot k b ≡ 4 * b + k
spot-sum zero b = omega arith
spot-sum (suc k) b = refl

pub quad-same : (l : List ℕ) (b k v : ℕ) → spot k b < length l → quad k (set l (spot k b) v) b ≡ v
quad-same l b k v h = get_or-set_same l (spot k b) v 0 h

-- every other number stays
pub quad_other : (l : List ℕ) (b k c j v : ℕ) → k < 4 → j < 4 → (b ≡ c → k ≡ j → ⊥) → quad k (set l (spot j c) v) b ≡ quad k l b
quad_other l b k c j v small low apart =
    get_or-set_other l (spot j c) (spot k b) v 0
    (λ e. apart (omega (arith, spot-sum k b, spot-sum j c)) (omega (arith, spot-sum k b, spot-sum j c)))

-- a list without a number but 0 has none in its entries
pub quad_zero : (l : List ℕ) → ((i : ℕ) → get_or l i 0 ≡ 0) → (k b : ℕ) → quad k l b ≡ 0
quad_zero l z k b = z (spot k b)
