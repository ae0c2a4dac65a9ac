-- How one vertex reaches another: what the four answers mean, and by which tests and tables they are told. Assumes nothing.
use Rattle.counting.proofs.Prelude.{◌≡◌, refl, sym, ap, ap₂, ◌∙◌, ◌↔◌, Bool, true, false, true≢false, false≢true, ◌&&◌, ◌||◌, List, ℕ}
use Rattle.counting.proofs.Prelude.{◌*◌, ◌≤◌, ◌<◌, arith, eq-eqb, eqb-true}
use Rattle.specification.specs.Sets.{at, has?}
use Rattle.specification.specs.Graph.{Reaches, Longer, Edge, edge?, reaches?, refusal, Adjacent, reachable?}
use Rattle.specification.specs.Graph.Reaches.{one, more}
use Rattle.specification.specs.Connection.{connection, connection_number, leading?, both?, longer?, connects, Means}
use Rattle.specification.specs.declared.Connection.{Connection}
use Rattle.specification.specs.declared.Connection.TheVariants.{Unreached, EdgeOnly, LongerOnly, Both}
use Rattle.counting.proofs.Truth.{and_intro, and_elim, same_truth}
use Rattle.counting.proofs.Somes.{some_found, some_which}
use Rattle.reach.specs.Closure.{Composed, connection_by}
use Rattle.reach.proofs.Routes.{begins_below}
use Rattle.reach.proofs.Marking.{tail_below}
use Rattle.reach.proofs.Refusing.{accepted-within}
use Rattle.reach.proofs.Decide.{reaches_decided, edge_decided, reachable_decided}
use Rattle.reach.proofs.Closures.{Bits, same_test, longer_bits}

-- ---- the answers by two tests

pub leading_either : (a b : Bool) → leading? (connection a b) ≡ (a || b)
leading_either true true = refl
leading_either true false = refl
leading_either false true = refl
leading_either false false = refl

pub both_each : (a b : Bool) → both? (connection a b) ≡ (a && b)
both_each true true = refl
both_each true false = refl
both_each false true = refl
both_each false false = refl

-- ---- what they mean

-- both hold, or neither does
so : {A B : Type 0} → A → B → A ↔ B
so a b = ((λ _. b), λ _. a)

never : {A B : Type 0} → (A → ⊥) → (B → ⊥) → A ↔ B
never f g = ((λ a. absurd (f a)), λ b. absurd (g b))

-- the numbers of 'not at all' and 'both'
pub unled_number : (a : Connection) → (leading? a ≡ false) ↔ (connection_number a ≡ 0)
unled_number Unreached = so refl refl
unled_number EdgeOnly = never true≢false (λ z. omega arith)
unled_number LongerOnly = never true≢false (λ z. omega arith)
unled_number Both = never true≢false (λ z. omega arith)

pub both-number : (a : Connection) → (both? a ≡ true) ↔ (connection_number a ≡ 3)
both-number Unreached = never false≢true (λ z. omega arith)
both-number EdgeOnly = never false≢true (λ z. omega arith)
both-number LongerOnly = never false≢true (λ z. omega arith)
both-number Both = so refl refl

module _ {E : ℕ → ℕ → Type 0} {u v : ℕ} where
  -- tests that decide the edge and the longer routes
  pub tests_mean : (a b : Bool) → (E u v ↔ (a ≡ true)) → (Longer E u v ↔ (b ≡ true)) → Means E u v (connection_number (connection a b))
  tests_mean true true p q = let e = p.1 refl in let l = q.1 refl in record {
    unreached = never (λ z. omega arith) (λ f. f (one e));
    edge_only = never (λ z. omega arith) (λ x. x.1 l);
    longer_only = never (λ z. omega arith) (λ x. x.0 e);
    both = so refl (e, l);
  }
  tests_mean true false p q = let e = p.1 refl in let n : Longer E u v → ⊥ = (λ x. false≢true (q.0 x)) in record {
    unreached = never (λ z. omega arith) (λ f. f (one e));
    edge_only = so refl (e, n);
    longer_only = never (λ z. omega arith) (λ x. x.0 e);
    both = never (λ z. omega arith) (λ x. n x.1);
  }
  tests_mean false true p q = let n : E u v → ⊥ = (λ x. false≢true (p.0 x)) in let l = q.1 refl in record {
    unreached = never (λ z. omega arith) (λ f. f (more l.1 l.2));
    edge_only = never (λ z. omega arith) (λ x. n x.0);
    longer_only = so refl (n, l);
    both = never (λ z. omega arith) (λ x. n x.0);
  }
  tests_mean false false p q = record {
    unreached = so refl none;
    edge_only = never (λ z. omega arith) (λ x. false≢true (p.0 x.0));
    longer_only = never (λ z. omega arith) (λ x. false≢true (q.0 x.1));
    both = never (λ z. omega arith) (λ x. false≢true (p.0 x.0));
  }
    where
      none : Reaches E u v → ⊥
      none (one e) = false≢true (p.0 e)
      none (more e r) = false≢true (q.0 (_, e, r))

  -- there is a way exactly where the answer is not 'not at all'
  pub means_leading : (a : Connection) → Means E u v (connection_number a) → Reaches E u v ↔ (leading? a ≡ true)
  means_leading Unreached m = never (m.unreached.0 refl) false≢true
  means_leading EdgeOnly m = so (one (m.edge_only.0 refl).0) refl
  means_leading LongerOnly m = let l = (m.longer_only.0 refl).1 in so (more l.1 l.2) refl
  means_leading Both m = so (one (m.both.0 refl).0) refl

  -- of an edge's ends 'both' says that a longer route goes along it
  pub means_both : (a : Connection) → Means E u v (connection_number a) → E u v → Longer E u v ↔ (both? a ≡ true)
  means_both Unreached m e = absurd (m.unreached.0 refl (one e))
  means_both EdgeOnly m e = never (m.edge_only.0 refl).1 false≢true
  means_both LongerOnly m e = absurd ((m.longer_only.0 refl).0 e)
  means_both Both m e = so (m.both.0 refl).1 refl

  -- where there is a way and no edge, longer routes are all
  pub means_apart : (a : Connection) → Means E u v (connection_number a) → (E u v → ⊥) → leading? a ≡ true → a ≡ LongerOnly
  means_apart Unreached m n l = absurd (false≢true l)
  means_apart EdgeOnly m n l = absurd (n (m.edge_only.0 refl).0)
  means_apart LongerOnly m n l = refl
  means_apart Both m n l = absurd (n (m.both.0 refl).0)

-- ---- computed

module _ (E : ℕ → ℕ → Type 0) (E? : ℕ → ℕ → Bool) (right : (u v : ℕ) → E u v ↔ (E? u v ≡ true)) (n : ℕ)
    (below : (u v : ℕ) → E u v → u < n) (u v : ℕ) where
  pub longer_decided : Longer E u v ↔ (longer? E? n u v ≡ true)
  unfolding longer?
  longer_decided = (
    (λ l. some_found n (λ w. E? u w && reaches? E? n w v) l.0 (begins_below below l.2)
        (and_intro _ _ ((right u l.0).0 l.1) ((reaches_decided E E? right n below l.0 v).0 l.2))),
    λ e. let s = some_which n (λ w. E? u w && reaches? E? n w v) e in
        let b = and_elim (E? u s.0) (reaches? E? n s.0 v) s.2 in
        (s.0, (right u s.0).1 b.0, (reaches_decided E E? right n below s.0 v).1 b.1),
  )

  -- THE FOUR ANSWERS, by routes
  pub connects_means : Means E u v (connection_number (connects E? n u v))
  unfolding connects
  connects_means = tests_mean (E? u v) (longer? E? n u v) (right u v) longer_decided

-- of a graph that is not refused
module _ (n : ℕ) (tails heads : List ℕ) (accepted : refusal n tails heads ≡ 0) where
  tails_below : (u v : ℕ) → Edge tails heads u v → u < n
  tails_below = tail_below 2 tails heads n (accepted-within n tails heads accepted).0

  pub graph_means : (u v : ℕ) → Means (Edge tails heads) u v (connection_number (connects (edge? tails heads) n u v))
  graph_means = connects_means (Edge tails heads) (edge? tails heads) (edge_decided tails heads) n tails_below

  -- there is a way where the one vertex reaches the other
  pub leading_reachable : (u v : ℕ) → leading? (connects (edge? tails heads) n u v) ≡ reachable? n tails heads u v
  leading_reachable u v =
      let way = means_leading (connects (edge? tails heads) n u v) (graph_means u v) in
      let by = reachable_decided n tails heads u v in
      same_truth _ _ (λ y. by.0 (accepted, way.1 y)) (λ y. way.0 (by.1 y).1)

  -- ---- by its tables, of w masks a vertex: e of the edges, t of what reaches what, l of longer routes

  module _ (w : ℕ) (e t l : List ℕ) (small : n ≤ w * 64)
      (arcs : (u v : ℕ) → u < w * 64 → v < w * 64 → at w e u v ≡ 1 ↔ Adjacent n tails heads u v)
      (bits : Bits w n tails heads t) (composed : Composed w t l) (u v : ℕ) (hu : u < w * 64) (hv : v < w * 64) where
    pub same_edge : has? w e u v ≡ edge? tails heads u v
    unfolding has?
    same_edge =
        let there = edge_decided tails heads u v in
        same_truth _ _ (λ y. there.0 ((arcs u v hu hv).0 (eqb-true _ 1 y)).1)
        (λ y. eq-eqb _ 1 ((arcs u v hu hv).1 (accepted, there.1 y)))

    pub same_longer : has? w l u v ≡ longer? (edge? tails heads) n u v
    unfolding has?
    same_longer =
        let by = longer_bits w n tails heads t l small accepted bits composed u v hu hv in
        let test = longer_decided (Edge tails heads) (edge? tails heads) (edge_decided tails heads) n tails_below u v in
        same_truth _ _ (λ y. test.0 (by.0 (eqb-true _ 1 y))) (λ y. eq-eqb _ 1 (by.1 (test.1 y)))

    pub same_answer : connection_by w e l u v ≡ connects (edge? tails heads) n u v
    unfolding connects
    same_answer = ap₂ connection same_edge same_longer

    -- there is a way where the table of what reaches what says so
    pub same_leading : leading? (connection_by w e l u v) ≡ has? w t u v
    same_leading =
        ap (λ (a : Connection). leading? a) same_answer ∙ leading_reachable u v ∙ sym (same_test w n tails heads t bits u v hu hv)
