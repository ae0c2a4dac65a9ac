-- Laws of `choose`. Assumes nothing.
use Rattle.counting.proofs.Prelude.{◌≡◌, Bool, true, false}
use Rattle.specification.specs.Count.{choose}

module _ {A : Type 0} (b : Bool) (f g : Unit {0} → A) where
  pub choose_yes : b ≡ true → choose b f g ≡ f tt
  choose_yes e = rw e

  pub choose_no : b ≡ false → choose b f g ≡ g tt
  choose_no e = rw e
