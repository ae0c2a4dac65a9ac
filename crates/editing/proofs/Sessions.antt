-- A session and the graph that it represents: the tests, the answers, and that an edge more keeps it so. Assumes nothing.
use Rattle.counting.proofs.Prelude.{◌≡◌, refl, sym, ap, ap₂, ◌∙◌, subst, ◌≢◌, ⊎_elim, Bool, true, false, ◌&&◌, ◌∷◌, ℕ, zero, suc, ◌≤◌, ◌<◌}
use Rattle.counting.proofs.Prelude.{min, arith, eqb, leb, length, replicate, eq-eqb, leb-false}
use native.Mathlib.Nat.{lt_of_lt_of_le}
use native.Mathlib.Numerals.{add-one}
use native.Mathlib.Decide.{ℕ_discrete}
use Rattle.specification.specs.Count.{choose}
use Rattle.specification.specs.Sets.{has?}
use Rattle.specification.specs.Asked.{reply_by}
use Rattle.specification.specs.Connection.{connection, longer?, connects}
use Rattle.specification.specs.declared.Connection.{Connection}
use Rattle.specification.specs.declared.Connection.TheVariants.{Unreached}
use Rattle.counting.proofs.Somes.{some_found, some_which}
use Rattle.counting.proofs.Truth.{and_intro, and_elim, or_neither, same_truth}
use Rattle.counting.proofs.Falsity.{not-true}
use Rattle.masks.proofs.Tables.{at_zeros, Put, put_law}
use Rattle.reach.proofs.Extending.{Extends}
use Rattle.editing.specs.declared.Session.{Session}
use Rattle.specification.specs.Machine.{Graph, Call, Answer, contains, In, unknown?, reached?, cyclic?, full?, refusal, insert, change}
use Rattle.specification.specs.Machine.{connected, reply, step, empty, start_vertices, fresh}
use Rattle.specification.specs.Machine.Edge.{edge}
use Rattle.specification.specs.Graph.{size_refusal}
use Rattle.editing.specs.Promise.{outside?, refusal_of, detour?, connection_of, across?, Grown, blank, Represents, change_answer}
use Rattle.editing.specs.Promise.{reply_answer, StartPromise, AddPromise, LeadsPromise}
use Rattle.editing.proofs.Machines.{verdict-unknown, known, reached_decided, insert_extends, Accepted, accepted, insert_lawful}
use Rattle.editing.proofs.Machines.{insert-reached, add-made, add_kept, none_reached, empty_lawful}

-- both ends are vertices, so the tables have them
pub inside_ends : (s : Session) (u v : ℕ) → outside? s u v ≡ false → (u < 128) × (v < 128)
unfolding outside?
inside_ends s u v e =
    let p = or_neither (leb (min s.vertices 128) u) (leb (min s.vertices 128) v) e in
    let h = leb-false _ _ p.0 in
    let k = leb-false _ _ p.1 in (omega arith, omega arith)

-- ---- the session represents g: its tests and answers are the machine's

module _ (g : Graph) (s : Session) (r : Represents g s) where
  pub outside_same : (u v : ℕ) → outside? s u v ≡ unknown? g u v
  unfolding outside? unknown?
  outside_same u v =
      let small = r.lawful.small in
      let same = r.vertices in
      let e : min s.vertices 128 ≡ g.vertices = omega arith in rw e

  -- both ends are vertices, so the tables have them
  pub small_ends : (u v : ℕ) → unknown? g u v ≡ false → (u < 128) × (v < 128)
  small_ends u v e = let k = known g u v e in (lt_of_lt_of_le k.0 r.lawful.small, lt_of_lt_of_le k.1 r.lawful.small)

  refusal-same : (u v : ℕ) → refusal_of s u v ≡ refusal g u v
  unfolding refusal refusal_of cyclic? full?
  refusal-same u v = go (unknown? g u v) refl
    where
      go : (b : Bool) → unknown? g u v ≡ b → refusal_of s u v ≡ refusal g u v
      go true e = verdict-unknown _ _ _ _ (outside_same u v ∙ e) ∙ sym (verdict-unknown _ _ _ _ e)
      go false e = let h = small_ends u v e in rw (outside_same u v, r.edges u v h.0 h.1, r.reach v u h.1 h.0, r.count)

  change-answer : (h : Graph) (k : ℕ) → change_answer k ≡ (change g k h).answer
  unfolding change change_answer
  change-answer h zero = refl
  change-answer h (suc k) = refl

  add-answer : (u v k : ℕ) → k ≡ refusal_of s u v → change_answer k ≡ (step g (Call.add u v)).answer
  unfolding step
  add-answer u v k e = rw (e ∙ refusal-same u v) (change-answer (insert g u v) (refusal g u v))

  -- by way of a vertex that the tables have, or of one of g
  detour-same : (u v : ℕ) → u < 128 → v < 128 → detour? 2 s.edges s.reach u v ≡ longer? (contains g.edges) g.vertices u v
  unfolding detour? longer? reached?
  detour-same u v hu hv =
      same_truth _ _
      (λ e.
      let p = some_which 128 (λ x. has? 2 s.edges u x && has? 2 s.reach x v) e in
      let b = and_elim (has? 2 s.edges u p.0) (has? 2 s.reach p.0 v) p.2 in
      let i : In g.edges u p.0 = sym (r.edges u p.0 hu p.1) ∙ b.0 in
      some_found g.vertices _ p.0 (r.lawful.within u p.0 i).1 (and_intro _ _ i (sym (r.reach p.0 v p.1 hv) ∙ b.1)))
      (λ e.
      let p = some_which g.vertices (λ x. contains g.edges u x && reached? g x v) e in
      let b = and_elim (contains g.edges u p.0) (reached? g p.0 v) p.2 in
      let h = lt_of_lt_of_le p.1 r.lawful.small in
      some_found 128 _ p.0 h (and_intro _ _ (r.edges u p.0 hu h ∙ b.0) (r.reach p.0 v h hv ∙ b.1)))

  pub connection-same : (u v : ℕ) → u < 128 → v < 128 → connection_of s u v ≡ connected g u v
  unfolding connection_of connected connects
  connection-same u v hu hv = ap₂ connection (r.edges u v hu hv) (detour-same u v hu hv)

  leads-answer : (u v : ℕ)
      → reply_answer (choose (outside? s u v) (λ _. 3) (λ _. 0)) (choose (outside? s u v) (λ _. Unreached) (λ _. connection_of s u v))
      ≡ (step g (Call.leads u v)).answer
  unfolding step reply reply_answer
  leads-answer u v = rw (outside_same u v) (go (unknown? g u v) refl)
    where
      go : (b : Bool) → unknown? g u v ≡ b
          → reply_answer (choose b (λ _. 3) (λ _. 0)) (choose b (λ _. Unreached) (λ _. connection_of s u v))
          ≡ (reply g b (connected g u v)).answer
      go true e = refl
      go false e = let h = small_ends u v e in ap Answer.told (connection-same u v h.0 h.1)

  -- ---- with an edge that is not refused

  module _ (u v : ℕ) (free : refusal g u v ≡ 0) (z : Session) (q : Grown s u v z) where
    a : Accepted g u v
    a = accepted g r.lawful u v free

    hu : u < 128
    hu = lt_of_lt_of_le a.tail r.lawful.small

    hv : v < 128
    hv = lt_of_lt_of_le a.head r.lawful.small

    edges-same : Put 2 s.edges u v z.edges → (x y : ℕ) → x < 128 → y < 128
        → has? 2 z.edges x y ≡ contains (edge u v ∷ g.edges) x y
    unfolding has?
    edges-same p x y hx hy = go (ℕ_discrete x u) (ℕ_discrete y v)
      where
        e : Extends (In g.edges) (In (edge u v ∷ g.edges)) u v
        e = insert_extends g.edges u v

        other : (x ≡ u → y ≢ v) → has? 2 z.edges x y ≡ contains (edge u v ∷ g.edges) x y
        other ne =
            let same : has? 2 z.edges x y ≡ contains g.edges x y = ap (λ (b : ℕ). eqb b 1) (p.other x y hy ne)
            ∙ r.edges x y hx hy in
            same_truth _ _
            (λ i. e.old x y (sym same ∙ i))
            (λ i. ⊎_elim (λ j. same ∙ j) (λ j. absurd (ne j.0 j.1)) (e.only x y i))

        go : Dec (x ≡ u) → Dec (y ≡ v) → has? 2 z.edges x y ≡ contains (edge u v ∷ g.edges) x y
        go (yes i) (yes j) = rw (i, j) (eq-eqb _ _ p.here ∙ sym e.new)
        go (yes i) (no j) = other (λ _. j)
        go (no i) d = other (λ k. absurd (i k))

    grown : length s.edges ≡ 256 → Represents (insert g u v) z
    unfolding insert across?
    grown size = record {
      lawful = insert_lawful g r.lawful u v a;
      vertices = q.vertices ∙ r.vertices;
      count = q.count ∙ add-one s.count ∙ ap suc r.count;
      edges = edges-same (subst (Put 2 s.edges u v) (sym q.edges) (put_law 2 s.edges u v hv (omega (arith, hu, hv))));
      reach = λ x y hx hy.
          q.reach.below x y hx hy ∙ rw (r.reach x y hx hy, r.reach x u hx hu, r.reach v y hv hy)
          (sym (insert-reached g r.lawful u v a x y));
    }

-- ---- the promises

pub add_refused : (s : Session) (u v k : ℕ) → k ≢ 0 → k ≡ refusal_of s u v → AddPromise s u v (record { refusal = k; session = s })
add_refused s u v k ne e = record {
  refusal = e;
  kept = λ _. refl;
  made = λ z. absurd (ne z);
  answer = λ g r. add-answer g s r u v k e;
  holds = λ g r. rw (add_kept g u v (λ z. ne (e ∙ refusal-same g s r u v ∙ z))) r;
}

pub add-accepted : (s : Session) (u v : ℕ) (z : Session) → length s.edges ≡ 256 → 0 ≡ refusal_of s u v → Grown s u v z
    → AddPromise s u v (record { refusal = 0; session = z })
add-accepted s u v z size e q = record {
  refusal = e;
  kept = λ ne. absurd (ne refl);
  made = λ _. q;
  answer = λ g r. add-answer g s r u v 0 e;
  holds = λ g r. let free = sym (e ∙ refusal-same g s r u v) in rw (add-made g u v free) (grown g s r u v free z q size);
}

leads_promise : (s : Session) (u v k : ℕ) (a : Connection) → k ≡ choose (outside? s u v) (λ _. 3) (λ _. 0)
    → a ≡ choose (outside? s u v) (λ _. Unreached) (λ _. connection_of s u v) → LeadsPromise s u v (reply_by k a)
leads_promise s u v k a p q = record { refusal = p; connection = q; answer = λ g r. ap₂ reply_answer p q ∙ leads-answer g s r u v }

pub leads_outside : (s : Session) (u v : ℕ) → outside? s u v ≡ true → LeadsPromise s u v (reply_by 3 Unreached)
leads_outside s u v e = leads_promise s u v 3 Unreached (rw e) (rw e)

pub leads-inside : (s : Session) (u v : ℕ) (a : Connection) → outside? s u v ≡ false → a ≡ connection_of s u v
    → LeadsPromise s u v (reply_by 0 a)
leads-inside s u v a e q = leads_promise s u v 0 a (rw e) (rw e q)

blank_represents : (n : ℕ) → n ≤ 128 → Represents (empty n) (blank n)
unfolding empty contains has?
blank_represents n h = record {
  lawful = empty_lawful n h;
  vertices = refl;
  count = refl;
  edges = λ u v hu hv. zeros u v;
  reach = λ u v hu hv. zeros u v ∙ sym (not-true _ (λ e. none_reached ((reached_decided (empty n) (empty_lawful n h) u v).1 e)));
}
  where
    zeros : (u v : ℕ) → has? 2 (replicate 256 0) u v ≡ false
    zeros u v = ap (λ (b : ℕ). eqb b 1) (at_zeros 2 256 u v)

pub started : (n k m : ℕ) (z : Session) → size_refusal n ≡ k → start_vertices n ≡ m → m ≤ 128 → z ≡ blank m
    → StartPromise n (record { refusal = k; session = z })
unfolding fresh
started n k m z e f h q = record {
  refusal = sym e;
  session = q ∙ ap blank (sym f);
  holds = rw (q, f) (blank_represents m h);
}
