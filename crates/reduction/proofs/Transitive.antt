-- Transitive edges are those with a route of two edges or more, and without them every vertex reaches what it reached. Assumes nothing.
use Rattle.counting.proofs.Prelude.{◌≡◌, refl, ap, subst, ◌↔◌, Bool, true, false, ◌&&◌, List, ℕ, zero, suc, ◌<◌}
use Rattle.counting.proofs.Prelude.{arith}
use native.Mathlib.Nat.{not-suc-le-zero}
use Rattle.specification.specs.Count.{indicator, count}
use Rattle.counting.proofs.Truth.{and_intro, and_elim}
use Rattle.counting.proofs.Falsity.{not-true}
use Rattle.counting.proofs.Sums.{sum_smaller}
use Rattle.counting.proofs.Classes.{indicator_mono}
use Rattle.specification.specs.Graph.{Reaches, Longer, Edge}
use Rattle.specification.specs.Graph.Reaches.{one, more}
use Rattle.reach.proofs.Routes.{reaches_trans, longer_between, begins_below, ends_below}
use Rattle.reach.proofs.Connecting.{means_leading, means_both}
use Rattle.specification.specs.Connection.{leading?}
use Rattle.specification.specs.declared.Connection.{Connection}
use Rattle.specification.specs.Marks.{transitive?}
use Rattle.reduction.specs.Reduction.{Reduced, Dag}

-- what is reached by the edges of E is reached by those of F, if F has all of E
pub reaches_map : {E F : ℕ → ℕ → Type 0} {u v : ℕ} → ((u v : ℕ) → E u v → F u v) → Reaches E u v → Reaches F u v
reaches_map f (one e) = one (f _ _ e)
reaches_map f (more e p) = more (f _ _ e) (reaches_map f p)

module _ (ask : ℕ → ℕ → Connection) (n : ℕ) (tails heads : List ℕ) (d : Dag ask n tails heads) where
  abbrev leads : ℕ → ℕ → Bool
  leads u v = leading? (ask u v)

  abbrev Route : ℕ → ℕ → Type 0
  Route = Reaches (Edge tails heads)

  tail_below : (u v : ℕ) → Edge tails heads u v → u < n
  unfolding Edge
  tail_below u v a = subst (λ (x : ℕ). x < n) a.2 (d.ends a.0 a.1).0

  head_below : (u v : ℕ) → Edge tails heads u v → v < n
  unfolding Edge
  head_below u v a = subst (λ (x : ℕ). x < n) a.3 (d.ends a.0 a.1).1

  -- every route begins and ends at a vertex
  pub route_begins : {u v : ℕ} → Route u v → u < n
  route_begins p = begins_below tail_below p

  pub route_ends : {u v : ℕ} → Route u v → v < n
  route_ends p = ends_below head_below p

  -- w lies between u and v
  between : (u v w : ℕ) → ((leads u w && leads w v) ≡ true) ↔ (Route u w × Route w v)
  between u v w =
      let to = means_leading (ask u w) (d.told u w) in
      let from = means_leading (ask w v) (d.told w v) in (
        (λ e. let b = and_elim (leads u w) (leads w v) e in (to.1 b.0, from.1 b.1)),
        λ p. and_intro (leads u w) (leads w v) (to.0 p.0) (from.0 p.1),
      )

  -- THE IMPLIED ARROWS: an edge is transitive exactly when a route of two edges or more joins its ends
  pub transitive_longer : (u v : ℕ) → Edge tails heads u v → Longer (Edge tails heads) u v ↔ (transitive? ask u v ≡ true)
  unfolding transitive?
  transitive_longer u v e = means_both (ask u v) (d.told u v) e

  -- the number of vertices between u and v
  abbrev between_count : ℕ → ℕ → ℕ
  between_count u v = count n (λ w. leads u w && leads w v)

  -- where all that lies between a and b lies between u and v too, and w only between u and v, fewer lie between a and b
  fewer : (a b u v w : ℕ) → Route u w → Route w v → (Route a w × Route w b → ⊥)
      → ((x : ℕ) → Route a x × Route x b → Route u x × Route x v) → between_count a b < between_count u v
  unfolding count
  fewer a b u v w p q none f =
      sum_smaller n (λ x. indicator (leads a x && leads x b)) (λ x. indicator (leads u x && leads x v)) w (route_ends p)
      (omega (
        arith,
        ap indicator ((between u v w).1 (p, q)),
        ap indicator
            (not-true (leads a w && leads w b) (λ e. none ((between a b w).0 e))),
      ))
      (λ x hx. indicator_mono (leads a x && leads x b) (leads u x && leads x v) (λ e. (between u v x).1 (f x ((between a b x).0 e))))

  -- by the number of vertices between: a longer route splits at one of them, and so does a transitive edge
  reduce : (k u v : ℕ) → between_count u v < k → Route u v → Reaches (Reduced ask tails heads) u v
  reduce zero u v l p = absurd (not-suc-le-zero l)
  reduce (suc k) u v l p = go p (reduce k)
    where
      split : Longer (Edge tails heads) u v → ((a b : ℕ) → between_count a b < k → Route a b → Reaches (Reduced ask tails heads) a b)
          → Reaches (Reduced ask tails heads) u v
      split longer again =
          let b = longer_between.0 longer in
          let left = fewer u b.0 u v b.0 b.1 b.2 (λ c. d.acyclic b.0 c.1)
          (λ x c. (c.0, reaches_trans c.1 b.2)) in
          let right = fewer b.0 v u v b.0 b.1 b.2 (λ c. d.acyclic b.0 c.0)
          (λ x c. (reaches_trans b.1 c.0, c.1)) in
          reaches_trans (again u b.0 (omega arith) b.1) (again b.0 v (omega arith) b.2)

      edge : (b : Bool) → transitive? ask u v ≡ b → Edge tails heads u v
          → ((a b : ℕ) → between_count a b < k → Route a b → Reaches (Reduced ask tails heads) a b)
          → Reaches (Reduced ask tails heads) u v
      edge false e a again = one (a, e)
      edge true e a again = split ((transitive_longer u v a).1 e) again

      go : Route u v → ((a b : ℕ) → between_count a b < k → Route a b → Reaches (Reduced ask tails heads) a b)
          → Reaches (Reduced ask tails heads) u v
      go (one a) again = edge (transitive? ask u v) refl a again
      go (more a q) again = split (_, a, q) again

  -- THE FIRM ARROWS have the graph's descent
  pub reduced_reaches : (u v : ℕ) → Reaches (Reduced ask tails heads) u v ↔ Reaches (Edge tails heads) u v
  reduced_reaches u v = (reaches_map (λ u v e. e.0), reduce (suc (between_count u v)) u v (omega arith))
