-- One edge more: what is reached then, and that no cycle is made where the head does not reach the tail. Assumes nothing.
use Rattle.counting.proofs.Prelude.{◌≡◌, sym, ◌∙◌, subst, ◌⊎◌, inl, inr, ⊎_elim, ◌↔◌, ℕ}
use Rattle.specification.specs.Graph.{Reaches}
use Rattle.specification.specs.Graph.Reaches.{one, more}
use Rattle.reach.proofs.Routes.{reaches_trans}

-- more edges reach more
pub reaches_mono : {E F : ℕ → ℕ → Type 0} → ((u v : ℕ) → E u v → F u v) → {u v : ℕ} → Reaches E u v → Reaches F u v
reaches_mono h (one e) = one (h _ _ e)
reaches_mono h (more e p) = more (h _ _ e) (reaches_mono h p)

module _ (E F : ℕ → ℕ → Type 0) (tail head : ℕ) where
  -- F is E and the edge from tail to head
  pub record Extends : Type 0 where
    pub old : (u v : ℕ) → E u v → F u v
    pub new : F tail head
    pub only : (u v : ℕ) → F u v → E u v ⊎ ((u ≡ tail) × (v ≡ head))

  -- u is the tail or reaches it, and v is the head or is reached from it
  abbrev pub Across : ℕ → ℕ → Type 0
  Across u v = ((u ≡ tail) ⊎ Reaches E u tail) × ((v ≡ head) ⊎ Reaches E head v)

  module _ (x : Extends) where
    to_tail : {u v : ℕ} → E u v → (v ≡ tail) ⊎ Reaches E v tail → Reaches E u tail
    to_tail {u} e (inl q) = subst (Reaches E u) q (one e)
    to_tail e (inr q) = more e q

    onward : {u v : ℕ} → E u v ⊎ ((u ≡ tail) × (v ≡ head)) → {w : ℕ} → Reaches E v w ⊎ Across v w → Reaches E u w ⊎ Across u w
    onward (inl e) (inl r) = inl (more e r)
    onward (inl e) (inr a) = inr (inr (to_tail e a.0), a.1)
    onward (inr n) {w = w} (inl r) = inr (inl n.0, inr (subst (λ (y : ℕ). Reaches E y w) n.1 r))
    onward (inr n) (inr a) = inr (inl n.0, a.1)

    apart : {u v : ℕ} → Reaches F u v → Reaches E u v ⊎ Across u v
    apart (one f) = ⊎_elim (λ e. inl (one e)) (λ n. inr (inl n.0, inl n.1)) (x.only _ _ f)
    apart (more f p) = onward (x.only _ _ f) (apart p)

    up : {u v : ℕ} → Reaches E u v → Reaches F u v
    up = reaches_mono x.old

    onto : {u : ℕ} → (u ≡ tail) ⊎ Reaches E u tail → Reaches F u head
    onto (inl e) = rw e (one x.new)
    onto (inr p) = reaches_trans (up p) (one x.new)

    off : {u v : ℕ} → Reaches F u head → (v ≡ head) ⊎ Reaches E head v → Reaches F u v
    off p (inl e) = rw e p
    off p (inr q) = reaches_trans p (up q)

    -- ONE EDGE MORE: the new routes are those across the edge
    pub extended : (u v : ℕ) → Reaches F u v ↔ Reaches E u v ⊎ Across u v
    extended u v = (apart, ⊎_elim up (λ a. off (onto a.0) a.1))

    -- no cycle is made where the head is not the tail and does not reach it
    pub stays_acyclic : (head ≡ tail → ⊥) → (Reaches E head tail → ⊥) → ((u : ℕ) → Reaches E u u → ⊥) → (u : ℕ) → Reaches F u u → ⊥
    stays_acyclic ne none old u p = ⊎_elim (old u) (λ a. round a.0 a.1) (apart p)
      where
        round : {u : ℕ} → (u ≡ tail) ⊎ Reaches E u tail → (u ≡ head) ⊎ Reaches E head u → ⊥
        round (inl a) (inl b) = ne (sym b ∙ a)
        round (inl a) (inr b) = none (subst (Reaches E head) a b)
        round (inr a) (inl b) = none (subst (λ (y : ℕ). Reaches E y tail) b a)
        round (inr a) (inr b) = none (reaches_trans b a)
