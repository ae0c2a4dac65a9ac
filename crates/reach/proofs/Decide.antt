-- The computed forms decide their relations: `edge?` decides `Edge`, `reaches?` decides `Reaches`, `reachable?` decides `Reachable`.
-- Assumes nothing.
use Rattle.counting.proofs.Prelude.{◌≡◌, subst, inl, inr, ⊎_elim, ◌↔◌, Bool, true, false≢true, ◌&&◌, List, [], ◌∷◌, ℕ, zero, suc, ◌<◌}
use Rattle.counting.proofs.Prelude.{arith, eqb, get_or, eq-eqb, eqb-true}
use native.Mathlib.Nat.{not-suc-le-zero}
use native.Mathlib.Numerals.{add-one}
use Rattle.counting.proofs.Truth.{and_intro, and_elim, or_left, or_right, or_elim}
use Rattle.specification.specs.Graph.{Reaches, edge_count, Edge, edge?, reaches?, refusal, Reachable, reachable?}
use Rattle.specification.specs.Graph.Reaches.{one}
use Rattle.reach.proofs.Warshall.{Stage, stage_step, complete}
use Rattle.reach.proofs.Marking.{tail_below}
use Rattle.reach.proofs.Refusing.{accepted-within}

module _ (E : ℕ → ℕ → Type 0) (E? : ℕ → ℕ → Bool) (right : (u v : ℕ) → E u v ↔ (E? u v ≡ true)) where
  stages : (k : ℕ) → Stage E k (λ u v. reaches? E? k u v ≡ true)
  unfolding reaches?
  stages zero =
      record { sound = λ u v e. one ((right u v).1 e); edges = λ u v a. (right u v).0 a; closed = λ j l. absurd (not-suc-le-zero l) }
  stages (suc k) =
      subst (λ (m : ℕ). Stage E m (λ u v. reaches? E? (suc k) u v ≡ true)) (add-one k)
      (stage_step (stages k) (record {
        out =
            λ u v e. ⊎_elim inl (λ b. inr (and_elim (reaches? E? k u k) (reaches? E? k k v) b))
            (or_elim (reaches? E? k u v) (reaches? E? k u k && reaches? E? k k v) e);
        kept = λ u v e. or_left (reaches? E? k u v) (reaches? E? k u k && reaches? E? k k v) e;
        made =
            λ u v p q. or_right (reaches? E? k u v) (reaches? E? k u k && reaches? E? k k v)
            (and_intro (reaches? E? k u k) (reaches? E? k k v) p q);
      }))

  -- `reaches?` by way of all n vertices decides what is reached
  pub reaches_decided : (n : ℕ) → ((u v : ℕ) → E u v → u < n) → (u v : ℕ) → Reaches E u v ↔ (reaches? E? n u v ≡ true)
  reaches_decided n b u v = ((λ p. complete b (stages n) p), (λ e. (stages n).sound u v e))

-- ---- an edge of two lists

edge_seen : (tails heads : List ℕ) (u v i : ℕ) → i < edge_count tails heads → get_or tails i 0 ≡ u → get_or heads i 0 ≡ v
    → edge? tails heads u v ≡ true
unfolding edge?
edge_seen [] heads u v i l p q = absurd (omega arith)
edge_seen (t ∷ tails) [] u v i l p q = absurd (omega arith)
edge_seen (t ∷ tails) (h ∷ heads) u v zero l p q =
    or_left (eqb t u && eqb h v) (edge? tails heads u v) (and_intro (eqb t u) (eqb h v) (eq-eqb t u p) (eq-eqb h v q))
edge_seen (t ∷ tails) (h ∷ heads) u v (suc i) l p q =
    or_right (eqb t u && eqb h v) (edge? tails heads u v) (edge_seen tails heads u v i (omega arith) p q)

edge_there : (tails heads : List ℕ) (u v : ℕ) → edge? tails heads u v ≡ true
    → (i : ℕ) × (i < edge_count tails heads) × (get_or tails i 0 ≡ u) × (get_or heads i 0 ≡ v)
unfolding edge?
edge_there [] heads u v e = absurd (false≢true e)
edge_there (t ∷ tails) [] u v e = absurd (false≢true e)
edge_there (t ∷ tails) (h ∷ heads) u v e =
    ⊎_elim
    (λ p. let b = and_elim (eqb t u) (eqb h v) p in (zero, omega arith, eqb-true t u b.0, eqb-true h v b.1))
    (λ p. let r = edge_there tails heads u v p in (suc r.0, (let l = r.1 in omega arith), r.2, r.3))
    (or_elim (eqb t u && eqb h v) (edge? tails heads u v) e)

pub edge_decided : (tails heads : List ℕ) (u v : ℕ) → Edge tails heads u v ↔ (edge? tails heads u v ≡ true)
unfolding Edge
edge_decided tails heads u v = ((λ a. edge_seen tails heads u v a.0 a.1 a.2 a.3), edge_there tails heads u v)

-- ---- a graph that may be refused

pub reachable_decided : (n : ℕ) (tails heads : List ℕ) (u v : ℕ) → Reachable n tails heads u v ↔ (reachable? n tails heads u v ≡ true)
unfolding reachable?
reachable_decided n tails heads u v = (
  (λ p. and_intro (eqb (refusal n tails heads) 0) (reaches? (edge? tails heads) n u v) (eq-eqb (refusal n tails heads) 0 p.0)
      ((by p.0).0 p.1)),
  λ e. let b = and_elim (eqb (refusal n tails heads) 0) (reaches? (edge? tails heads) n u v) e in
      let accepted = eqb-true (refusal n tails heads) 0 b.0 in (accepted, (by accepted).1 b.1),
)
  where
    by : refusal n tails heads ≡ 0 → Reaches (Edge tails heads) u v ↔ (reaches? (edge? tails heads) n u v ≡ true)
    by a =
        reaches_decided (Edge tails heads) (edge? tails heads) (edge_decided tails heads) n
        (tail_below 2 tails heads n (accepted-within n tails heads a).0) u v
