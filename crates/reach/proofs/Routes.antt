-- Laws of routes: joined routes, routes of two edges or more, and where they begin and end. Assumes nothing.
use Rattle.counting.proofs.Prelude.{◌↔◌, ℕ, ◌<◌}
use Rattle.specification.specs.Graph.{Reaches, Longer}
use Rattle.specification.specs.Graph.Reaches.{one, more}

-- one route after another
pub reaches_trans : {E : ℕ → ℕ → Type 0} {u v w : ℕ} → Reaches E u v → Reaches E v w → Reaches E u w
reaches_trans (one e) q = more e q
reaches_trans (more e p) q = more e (reaches_trans p q)

-- two edges or more: some vertex lies between
pub longer_between : {E : ℕ → ℕ → Type 0} {u v : ℕ} → Longer E u v ↔ ((w : ℕ) × Reaches E u w × Reaches E w v)
longer_between = ((λ l. (l.0, one l.1, l.2)), λ b. split b.1 b.2)
  where
    split : {E : ℕ → ℕ → Type 0} {u v w : ℕ} → Reaches E u w → Reaches E w v → Longer E u v
    split (one e) q = (_, e, q)
    split (more e p) q = (_, e, reaches_trans p q)

-- where every edge begins below n, so does every route
pub begins_below : {E : ℕ → ℕ → Type 0} {n u v : ℕ} → ((u v : ℕ) → E u v → u < n) → Reaches E u v → u < n
begins_below b (one e) = b _ _ e
begins_below b (more e p) = b _ _ e

-- and where every edge ends below n, so does every route
pub ends_below : {E : ℕ → ℕ → Type 0} {n u v : ℕ} → ((u v : ℕ) → E u v → v < n) → Reaches E u v → v < n
ends_below b (one e) = b _ _ e
ends_below b (more e p) = ends_below b p
