-- Warshall's closure over relations: a step through each vertex in turn closes the edges. Assumes nothing.
use Rattle.counting.proofs.Prelude.{◌⊎◌, ⊎_elim, ℕ, ◌+◌, ◌<◌}
use borrow.Author.Count.{below_more}
use Rattle.specification.specs.Graph.{Reaches}
use Rattle.specification.specs.Graph.Reaches.{one, more}
use Rattle.reach.proofs.Routes.{reaches_trans, begins_below}

-- R is closed through j
abbrev pub Closed : (ℕ → ℕ → Type 0) → ℕ → Type 0
Closed R j = (u v : ℕ) → R u j → R j v → R u v

-- S is R with a step through k
pub record Step (R : ℕ → ℕ → Type 0) (k : ℕ) (S : ℕ → ℕ → Type 0) : Type 0 where
  pub out : (u v : ℕ) → S u v → R u v ⊎ (R u k × R k v)
  pub kept : (u v : ℕ) → R u v → S u v
  pub made : (u v : ℕ) → R u k → R k v → S u v

module _ (R S : ℕ → ℕ → Type 0) (k : ℕ) (st : Step R k S) where
  to_k : (u : ℕ) → S u k → R u k
  to_k u s = ⊎_elim (λ r. r) (λ p. p.0) (st.out u k s)

  of_k : (v : ℕ) → S k v → R k v
  of_k v s = ⊎_elim (λ r. r) (λ p. p.1) (st.out k v s)

  -- a step through k closes through k
  closes : Closed S k
  closes u v s t = st.made u v (to_k u s) (of_k v t)

  -- and keeps what is closed
  keeps : (j : ℕ) → Closed R j → Closed S j
  keeps j c u v s t =
      ⊎_elim
      (λ r. ⊎_elim (λ q. st.kept u v (c u v r q)) (λ q. st.made u v (c u k r q.0) q.1) (st.out j v t))
      (λ p. ⊎_elim (λ q. st.made u v p.0 (c k v p.1 q)) (λ q. st.made u v p.0 q.1) (st.out j v t))
      (st.out u j s)

-- the state after the steps through 0 .. k - 1: no more than what is reached, all the edges, and closed through each
pub record Stage (E : ℕ → ℕ → Type 0) (k : ℕ) (R : ℕ → ℕ → Type 0) : Type 0 where
  pub sound : (u v : ℕ) → R u v → Reaches E u v
  pub edges : (u v : ℕ) → E u v → R u v
  pub closed : (j : ℕ) → j < k → Closed R j

pub stage_step : {E R S : ℕ → ℕ → Type 0} {k : ℕ} → Stage E k R → Step R k S → Stage E (k + 1) S
stage_step {E} {R} {S} {k} g st = record {
  sound = λ u v s. ⊎_elim (g.sound u v) (λ p. reaches_trans (g.sound u k p.0) (g.sound k v p.1)) (st.out u v s);
  edges = λ u v e. st.kept u v (g.edges u v e);
  closed = below_more (Closed S) k (λ j l. keeps R S k st j (g.closed j l)) (closes R S k st);
}

-- where every edge begins below n, the stage n is the closure
pub complete : {E R : ℕ → ℕ → Type 0} {n : ℕ} → ((u v : ℕ) → E u v → u < n) → Stage E n R → {u v : ℕ} → Reaches E u v → R u v
complete b g (one e) = g.edges _ _ e
complete b g (more e p) = g.closed _ (begins_below b p) _ _ (g.edges _ _ e) (complete b g p)
