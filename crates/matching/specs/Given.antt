-- What is asked of given channels. Assumes nothing.
use Rattle.std.specs.Prelude.{◌≡◌, Bool, true, ℕ, ◌≤◌}
use mathlib.Core.List.{List, flatten}
use Rattle.specification.specs.Channels.{times, every, all_linked}
use Rattle.matching.specs.Lists.{full}

-- channels of some of n vertices: no vertex stands in them twice, each is one of the n, and none is empty
pub record Fitting (n : ℕ) (ls : List (List ℕ)) : Type 0 where
  pub once : (v : ℕ) → times v (flatten ls) ≤ 1
  pub only : (v : ℕ) → n ≤ v → times v (flatten ls) ≡ 0
  pub filled : every full ls ≡ true

-- channels may be given: they fit, and each vertex leads to the next
pub record Given (leads : ℕ → ℕ → Bool) (n : ℕ) (given : List (List ℕ)) : Type 0 where
  pub fits : Fitting n given
  pub next : all_linked leads given ≡ true
