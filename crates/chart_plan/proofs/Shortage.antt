-- When a lent list is short, and what is drawn then. Assumes nothing.
use Rattle.counting.proofs.Prelude.{◌≡◌, refl, ◌⊎◌, ⊎_elim, inl, inr, true, false, ◌||◌, ℕ, ◌<◌, ◌≤◌, ltb, length, ltb-true, le-ltb}
use Rattle.counting.proofs.Truth.{or_elim}
use Rattle.counting.proofs.Falsity.{neither}
use Rattle.specification.specs.Checks.{edges_of}
use Rattle.specification.specs.Chart.{plan_of}
use Rattle.specification.specs.Drawn.{Drawn, short?, lent, refused_by}

module _ (v e b : ℕ) (x : Drawn) where
  abbrev vertices : ℕ
  vertices = x.graph.vertices

  abbrev edges : ℕ
  edges = edges_of x.graph

  abbrev bundles : ℕ
  bundles = length (plan_of x.graph).bundles

  pub enough : vertices ≤ v → edges ≤ e → bundles ≤ b → short? v e b x ≡ false
  unfolding short?
  enough h k l = neither (ltb v vertices) (ltb e edges || ltb b bundles) (le-ltb v vertices h)
      (neither (ltb e edges) (ltb b bundles) (le-ltb e edges k) (le-ltb b bundles l))

  pub lacking : short? v e b x ≡ true → (v < vertices) ⊎ ((e < edges) ⊎ (b < bundles))
  unfolding short?
  lacking h = ⊎_elim (λ t. inl (ltb-true v vertices t))
      (λ t. inr (⊎_elim (λ u. inl (ltb-true e edges u)) (λ u. inr (ltb-true b bundles u)) (or_elim (ltb e edges) (ltb b bundles) t)))
      (or_elim (ltb v vertices) (ltb e edges || ltb b bundles) h)

  pub lent-short : short? v e b x ≡ true → lent v e b x ≡ refused_by 8
  unfolding lent
  lent-short h = rw h refl

  pub lent-whole : short? v e b x ≡ false → lent v e b x ≡ x
  unfolding lent
  lent-whole h = rw h refl
