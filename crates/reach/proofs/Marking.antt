-- The table that has the edges' own bits, and no other. Assumes nothing.
use Rattle.counting.proofs.Prelude.{◌≡◌, sym, ap₂, ◌∙◌, subst, ◌≢◌, List, ℕ, ◌+◌, ◌*◌, ◌<◌, arith, get_or}
use native.Mathlib.Decide.{ℕ_discrete}
use borrow.Author.Count.{below_more}
use Rattle.specification.specs.Sets.{at}
use Rattle.masks.proofs.Tables.{Put}
use Rattle.specification.specs.Graph.{edge_count, Edge}
use Rattle.reach.specs.Steps.{Marked, Within}

module _ (w : ℕ) (tails heads : List ℕ) where
  pub marked_more : (i : ℕ) (t s : List ℕ) → ((j : ℕ) → j < i + 1 → get_or heads j 0 < w * 64)
      → Put w t (get_or tails i 0) (get_or heads i 0) s
      → Marked w tails heads i t → Marked w tails heads (i + 1) s
  marked_more i t s fit p m = record {
    only = λ u v h e. old u v h e (ℕ_discrete (get_or tails i 0) u) (ℕ_discrete (get_or heads i 0) v);
    all =
        below_more (λ (j : ℕ). at w s (get_or tails j 0) (get_or heads j 0) ≡ 1) i
        (λ j l. kept j l (ℕ_discrete (get_or tails j 0) (get_or tails i 0)) (ℕ_discrete (get_or heads j 0) (get_or heads i 0))) p.here;
  }
    where
      other : (u v : ℕ) → v < w * 64 → at w s u v ≡ 1 → (u ≡ get_or tails i 0 → v ≢ get_or heads i 0)
          → (j : ℕ) × (j < i + 1) × (get_or tails j 0 ≡ u) × (get_or heads j 0 ≡ v)
      other u v h e ne = let o = m.only u v h (sym (p.other u v h ne) ∙ e) in (o.0, (let l = o.1 in omega arith), o.2, o.3)

      old : (u v : ℕ) → v < w * 64 → at w s u v ≡ 1 → Dec (get_or tails i 0 ≡ u) → Dec (get_or heads i 0 ≡ v)
          → (j : ℕ) × (j < i + 1) × (get_or tails j 0 ≡ u) × (get_or heads j 0 ≡ v)
      old u v h e (yes a) (yes b) = (i, omega arith, a, b)
      old u v h e (yes a) (no b) = other u v h e (λ x y. b (sym y))
      old u v h e (no a) d = other u v h e (λ x y. a (sym x))

      kept : (j : ℕ) → j < i → Dec (get_or tails j 0 ≡ get_or tails i 0) → Dec (get_or heads j 0 ≡ get_or heads i 0)
          → at w s (get_or tails j 0) (get_or heads j 0) ≡ 1
      kept j l (yes a) (yes b) = ap₂ (at w s) a b ∙ p.here
      kept j l (yes a) (no b) = p.other (get_or tails j 0) (get_or heads j 0) (fit j (omega arith)) (λ x y. b y) ∙ m.all j l
      kept j l (no a) d = p.other (get_or tails j 0) (get_or heads j 0) (fit j (omega arith)) (λ x y. a x) ∙ m.all j l

  module _ (n : ℕ) (inside : Within n (edge_count tails heads) tails heads) where
    pub tail_below : (u v : ℕ) → Edge tails heads u v → u < n
    unfolding Edge
    tail_below u v a = subst (λ (x : ℕ). x < n) a.2 (inside.tail a.0 a.1)

    pub head_below : (u v : ℕ) → Edge tails heads u v → v < n
    unfolding Edge
    head_below u v a = subst (λ (x : ℕ). x < n) a.3 (inside.head a.0 a.1)
