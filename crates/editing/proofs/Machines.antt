-- The machine's laws: the order of its tests, its steps, and what holds of every graph that it comes to. Assumes nothing.
use Rattle.counting.proofs.Prelude.{◌≡◌, refl, sym, ◌∙◌, ◌≢◌, ◌⊎◌, inl, inr, ⊎_elim, ◌↔◌, Bool, true, false, true≢false, false≢true, ◌||◌}
use Rattle.counting.proofs.Prelude.{◌&&◌, List, [], ◌∷◌, ℕ, zero, suc, ◌≤◌, ◌<◌, zero-le, arith, eqb, leb, length, eqb-false, leb-false}
use Rattle.counting.proofs.Prelude.{le-leb}
use native.Mathlib.Nat.{suc-ne-zero}
use native.Mathlib.Decide.{ℕ_discrete, dec_lt}
use Rattle.counting.proofs.Truth.{or_left, or_right, or_neither, same_truth}
use Rattle.counting.proofs.Deciding.{eq_decided, or_decided, and_decided}
use Rattle.counting.proofs.Sizes.{sized, none_unsized, many_unsized, size-taken, size-refused}
use Rattle.specification.specs.Graph.{Reaches, size_refusal}
use Rattle.specification.specs.Graph.Reaches.{one, more}
use Rattle.specification.specs.declared.Connection.{Connection}
use Rattle.reach.proofs.Decide.{reaches_decided}
use Rattle.reach.proofs.Extending.{Extends, Across, extended, stays_acyclic}
use Rattle.specification.specs.Machine.{Edge, Graph, Call, Answer, Turn, contains, In, unknown?, reached?, cyclic?, full?, verdict, refusal}
use Rattle.specification.specs.Machine.{connected, insert, change, reply, step, run, empty, start_vertices, fresh, Distinct, Lawful}
use Rattle.specification.specs.Machine.Edge.{edge}

-- ---- the first test that holds

pub verdict-unknown : (o d c f : Bool) → o ≡ true → verdict o d c f ≡ 3
unfolding verdict
verdict-unknown o d c f e = rw e

pub verdict_duplicate : (o d c f : Bool) → o ≡ false → d ≡ true → verdict o d c f ≡ 4
unfolding verdict
verdict_duplicate o d c f e₁ e₂ = rw (e₁, e₂)

pub verdict-cycle : (o d c f : Bool) → o ≡ false → d ≡ false → c ≡ true → verdict o d c f ≡ 5
unfolding verdict
verdict-cycle o d c f e₁ e₂ e₃ = rw (e₁, e₂, e₃)

pub verdict-full : (o d c f : Bool) → o ≡ false → d ≡ false → c ≡ false → f ≡ true → verdict o d c f ≡ 9
unfolding verdict
verdict-full o d c f e₁ e₂ e₃ e₄ = rw (e₁, e₂, e₃, e₄)

pub verdict_none : (o d c f : Bool) → o ≡ false → d ≡ false → c ≡ false → f ≡ false → verdict o d c f ≡ 0
unfolding verdict
verdict_none o d c f e₁ e₂ e₃ e₄ = rw (e₁, e₂, e₃, e₄)

verdict-passes : (o d c f : Bool) → verdict o d c f ≡ 0 → (o ≡ false) × (d ≡ false) × (c ≡ false) × (f ≡ false)
unfolding verdict
verdict-passes true d c f e = absurd (suc-ne-zero 2 e)
verdict-passes false true c f e = absurd (suc-ne-zero 3 e)
verdict-passes false false true f e = absurd (suc-ne-zero 4 e)
verdict-passes false false false true e = absurd (suc-ne-zero 8 e)
verdict-passes false false false false e = (refl, refl, refl, refl)

-- ---- what is reached

pub known : (g : Graph) (u v : ℕ) → unknown? g u v ≡ false → (u < g.vertices) × (v < g.vertices)
unfolding unknown?
known g u v e = let p = or_neither (leb g.vertices u) (leb g.vertices v) e in (leb-false _ _ p.0, leb-false _ _ p.1)

-- what the machine computes is what the set's edges reach
pub reached_decided : (g : Graph) → Lawful g → (u v : ℕ) → Reaches (In g.edges) u v ↔ (reached? g u v ≡ true)
unfolding reached?
reached_decided g l =
    reaches_decided (In g.edges) (contains g.edges) (λ u v. ((λ e. e), (λ e. e))) g.vertices (λ u v e. (l.within u v e).0)

-- ---- one edge more

-- the list with one edge more, taken apart
insert_in : (es : List Edge) (u v a b : ℕ) → (((u ≡ a) × (v ≡ b)) ⊎ In es a b) ↔ In (edge u v ∷ es) a b
unfolding contains
insert_in es u v a b =
    or_decided (eqb u a && eqb v b) (contains es a b) (and_decided (eqb u a) (eqb v b) (eq_decided u a) (eq_decided v b)) ((λ e. e), λ e. e)

pub insert_extends : (es : List Edge) (u v : ℕ) → Extends (In es) (In (edge u v ∷ es)) u v
insert_extends es u v = record {
  old = λ a b i. (insert_in es u v a b).0 (inr i);
  new = (insert_in es u v u v).0 (inl (refl, refl));
  only = λ a b i. ⊎_elim (λ p. inr (sym p.0, sym p.1)) inl ((insert_in es u v a b).1 i);
}

-- an edge that is not refused
pub record Accepted (g : Graph) (u v : ℕ) : Type 0 where
  pub tail : u < g.vertices
  pub head : v < g.vertices
  pub new : contains g.edges u v ≡ false
  pub apart : v ≢ u
  pub unreached : Reaches (In g.edges) v u → ⊥
  pub room : length g.edges < 4096

pub accepted : (g : Graph) → Lawful g → (u v : ℕ) → refusal g u v ≡ 0 → Accepted g u v
unfolding refusal cyclic? full?
accepted g l u v e =
    let p = verdict-passes (unknown? g u v) (contains g.edges u v) (eqb v u || reached? g v u) (leb 4096 (length g.edges)) e in
    let k = known g u v p.0 in
    let c = or_neither (eqb v u) (reached? g v u) p.2 in record {
      tail = k.0;
      head = k.1;
      new = p.1;
      apart = eqb-false v u c.0;
      unreached = λ r. true≢false (sym ((reached_decided g l v u).0 r) ∙ c.1);
      room = leb-false _ _ p.3;
    }

module _ (g : Graph) (l : Lawful g) (u v : ℕ) (a : Accepted g u v) where
  pub insert_lawful : Lawful (insert g u v)
  unfolding insert
  insert_lawful =
      let x = insert_extends g.edges u v in record {
        small = l.small;
        within = λ y z i. ⊎_elim (l.within y z) (λ p. (rw p.0 a.tail, rw p.1 a.head)) (x.only y z i);
        distinct = Distinct.next a.new l.distinct;
        acyclic = stays_acyclic (In g.edges) (In (edge u v ∷ g.edges)) u v x a.apart a.unreached l.acyclic;
        limit = a.room;
      }

  -- the routes after it, computed: those before it, and those across the new edge
  pub insert-reached : (x y : ℕ) → reached? (insert g u v) x y
      ≡ (reached? g x y || ((eqb x u || reached? g x u) && (eqb y v || reached? g v y)))
  unfolding insert
  insert-reached x y = same_truth _ _ (λ e. test.0 (routes.0 (after.1 e))) (λ e. after.0 (routes.1 (test.1 e)))
    where
      before : (x y : ℕ) → Reaches (In g.edges) x y ↔ (reached? g x y ≡ true)
      before = reached_decided g l

      after : Reaches (In (edge u v ∷ g.edges)) x y ↔ (reached? (insert g u v) x y ≡ true)
      after = reached_decided (insert g u v) insert_lawful x y

      routes : Reaches (In (edge u v ∷ g.edges)) x y ↔ Reaches (In g.edges) x y
          ⊎ Across (In g.edges) (In (edge u v ∷ g.edges)) u v x y
      routes = extended (In g.edges) (In (edge u v ∷ g.edges)) u v (insert_extends g.edges u v) x y

      test : (Reaches (In g.edges) x y ⊎ Across (In g.edges) (In (edge u v ∷ g.edges)) u v x y)
          ↔ ((reached? g x y || ((eqb x u || reached? g x u) && (eqb y v || reached? g v y))) ≡ true)
      test =
          or_decided (reached? g x y) _ (before x y)
          (and_decided (eqb x u || reached? g x u) (eqb y v || reached? g v y)
          (or_decided (eqb x u) (reached? g x u) (eq_decided x u) (before x u))
          (or_decided (eqb y v) (reached? g v y) (eq_decided y v) (before v y)))

-- ---- the steps

change-made : (g h : Graph) (k : ℕ) → k ≡ 0 → (change g k h).graph ≡ h
unfolding change
change-made g h k e = rw e

change-kept : (g h : Graph) (k : ℕ) → k ≢ 0 → (change g k h).graph ≡ g
unfolding change
change-kept g h zero e = absurd (e refl)
change-kept g h (suc k) e = refl

reply-kept : (g : Graph) (o : Bool) (a : Connection) → (reply g o a).graph ≡ g
unfolding reply
reply-kept g true a = refl
reply-kept g false a = refl

pub add-made : (g : Graph) (u v : ℕ) → refusal g u v ≡ 0 → (step g (Call.add u v)).graph ≡ insert g u v
unfolding step
add-made g u v e = change-made g (insert g u v) (refusal g u v) e

pub add_kept : (g : Graph) (u v : ℕ) → refusal g u v ≢ 0 → (step g (Call.add u v)).graph ≡ g
unfolding step
add_kept g u v e = change-kept g (insert g u v) (refusal g u v) e

pub leads-kept : (g : Graph) (u v : ℕ) → (step g (Call.leads u v)).graph ≡ g
unfolding step
leads-kept g u v = reply-kept g (unknown? g u v) (connected g u v)

zero_or : (k : ℕ) → (k ≡ 0) ⊎ (k ≢ 0)
zero_or zero = inl refl
zero_or (suc k) = inr (suc-ne-zero k)

pub step_lawful : (g : Graph) → Lawful g → (c : Call) → Lawful (step g c).graph
step_lawful g l (Call.add u v) =
    ⊎_elim
    (λ e. rw (add-made g u v e) (insert_lawful g l u v (accepted g l u v e)))
    (λ e. rw (add_kept g u v e) l)
    (zero_or (refusal g u v))
step_lawful g l (Call.leads u v) = rw (leads-kept g u v) l

pub run_lawful : (g : Graph) → Lawful g → (cs : List Call) → Lawful (run g cs)
unfolding run
run_lawful g l [] = l
run_lawful g l (c ∷ cs) = run_lawful (step g c).graph (step_lawful g l c) cs

-- ---- the start

pub none_reached : {u v : ℕ} → Reaches (In []) u v → ⊥
unfolding contains
none_reached (one e) = false≢true e
none_reached (more e p) = false≢true e

pub empty_lawful : (n : ℕ) → n ≤ 128 → Lawful (empty n)
unfolding contains empty
empty_lawful n h = record {
  small = h;
  within = λ u v e. absurd (false≢true e);
  distinct = Distinct.none;
  acyclic = λ u p. none_reached p;
  limit = omega arith;
}

pub start-passes : (n : ℕ) → n ≢ 0 → n ≤ 128 → (size_refusal n ≡ 0) × (start_vertices n ≡ n)
unfolding start_vertices
start-passes n h k = let e = size-taken n (sized n h k) in (e, rw e)

pub start_fails : (n : ℕ) → (n ≡ 0) ⊎ (128 < n) → (size_refusal n ≡ 2) × (start_vertices n ≡ 0)
unfolding start_vertices
start_fails n h = let e = size-refused n (⊎_elim (none_unsized n) (many_unsized n) h) in (e, rw e)

pub fresh_lawful : (n : ℕ) → Lawful (fresh n)
unfolding fresh
fresh_lawful n = go (ℕ_discrete n 0) (dec_lt 128 n)
  where
    go : Dec (n ≡ 0) → Dec (128 < n) → Lawful (empty (start_vertices n))
    go (yes e) d = rw (start_fails n (inl e)).1 (empty_lawful 0 (omega arith))
    go (no e) (yes h) = rw (start_fails n (inr h)).1 (empty_lawful 0 (omega arith))
    go (no e) (no h) = let small : n ≤ 128 = omega arith in rw (start-passes n e small).1 (empty_lawful n small)

-- ---- an end that is no vertex

unknown_either : (g : Graph) (u v : ℕ) → (g.vertices ≤ u) ⊎ (g.vertices ≤ v) → unknown? g u v ≡ true
unfolding unknown?
unknown_either g u v =
    ⊎_elim (λ h. or_left (leb g.vertices u) (leb g.vertices v) (le-leb _ _ h))
    (λ h. or_right (leb g.vertices u) (leb g.vertices v) (le-leb _ _ h))

-- refused with 3, and nothing changes
unfoldable pub refused_three : Graph → Turn
refused_three g = record { graph = g; answer = Answer.refused 3 }

pub unknown-add : (g : Graph) (u v : ℕ) → (g.vertices ≤ u) ⊎ (g.vertices ≤ v) → step g (Call.add u v) ≡ refused_three g
unfolding step change refusal refused_three
unknown-add g u v h = rw (verdict-unknown _ (contains g.edges u v) (cyclic? g u v) (full? g) (unknown_either g u v h))

pub unknown-leads : (g : Graph) (u v : ℕ) → (g.vertices ≤ u) ⊎ (g.vertices ≤ v) → step g (Call.leads u v) ≡ refused_three g
unfolding step reply refused_three
unknown-leads g u v h = rw (unknown_either g u v h)

-- of no vertices every call is refused
pub nothing_known : (c : Call) → step (empty 0) c ≡ refused_three (empty 0)
unfolding empty
nothing_known (Call.add u v) = unknown-add (empty 0) u v (inl zero-le)
nothing_known (Call.leads u v) = unknown-leads (empty 0) u v (inl zero-le)
