-- The points tell the case: no two polylines have the same answer.
use Rattle.std.specs.Prelude.{◌≡◌, refl, List, [], ◌∷◌}
use Rattle.std.proofs.Common.{sym, ap, ◌∙◌}
use Rattle.specification.specs.declared.Point.{Point}
use Rattle.specification.specs.declared.Polyline.{Polyline}
use Rattle.specification.specs.declared.Polyline.TheVariants.{Straight, Bent, Side, OffPage}
use Rattle.specification.specs.Page.{Answer, answer_of}

-- the polyline through some points
abbrev pub through : List Point → Polyline
through [] = OffPage
through (p ∷ []) = OffPage
through (p ∷ q ∷ []) = Straight p q
through (p ∷ q ∷ r ∷ []) = Bent p q r
through (p ∷ q ∷ r ∷ s ∷ []) = Side p q r s
through (p ∷ q ∷ r ∷ s ∷ t ∷ ps) = OffPage

told : (r : Polyline) → through (answer_of r).points ≡ r
told (Straight p q) = refl
told (Bent p q r) = refl
told (Side p q r s) = refl
told OffPage = refl

pub same : (r s : Polyline) → answer_of r ≡ answer_of s → r ≡ s
same r s e = sym (told r) ∙ ap (λ (a : Answer). through a.points) e ∙ told s
