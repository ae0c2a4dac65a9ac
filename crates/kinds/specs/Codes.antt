-- The kind that a number and its values stand for. Assumes nothing.
use Rattle.std.specs.Prelude.{ℕ, eqb}
use Rattle.specification.specs.Count.{choose}
use Rattle.specification.specs.declared.Kind.{Kind}
use Rattle.specification.specs.declared.Kind.TheVariants.{Path, PathTransitive, Straight, Bent}

unfoldable pub kind_of : ℕ → ℕ → ℕ → Kind
kind_of code value row =
    choose (eqb code 0) (λ _. Path) (λ _.
    choose (eqb code 1) (λ _. PathTransitive value) (λ _.
    choose (eqb code 2) (λ _. Straight) (λ _. Bent (record { column = value; row = row }))))
