-- Bundles that share a row, and bundles that do not (10.1). Assumes nothing.
use Rattle.std.specs.Prelude.{false, ℕ, eqb}
use Rattle.std.proofs.Common.{arith}
use Rattle.specification.specs.Count.{choose}
use Rattle.specification.specs.Lawful.{Chart, ShareRow}

-- two bundles of one line, of which the first covers the rows 2 and 3, and the second the rows from `low` to `high`
abbrev pub two : ℕ → ℕ → Chart
two low high = record {
  row = λ v. 0;
  parts = 1;
  part = λ v. 0;
  link = λ u v. false;
  bundles = 2;
  line = λ b. 0;
  first = λ b. choose (eqb b 0) (λ _. 2) (λ _. low);
  last = λ b. choose (eqb b 0) (λ _. 3) (λ _. high);
  side = λ b. b;
}

pub record Worked : Type 0 where
  pub below : ShareRow (two 0 1) 0 1 → ⊥
  pub above : ShareRow (two 4 5) 0 1 → ⊥
  pub touching : ShareRow (two 0 2) 0 1

pub worked : Worked
worked = record {
  below = λ s. omega (arith, s.1, s.4);
  above = λ s. omega (arith, s.2, s.3);
  touching = (2, omega arith, omega arith, omega arith, omega arith);
}
