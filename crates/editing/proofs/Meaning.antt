-- What the machine's answers say of its set of edges. Assumes nothing.
use Rattle.counting.proofs.Prelude.{◌≡◌, refl, sym, ap, ◌∙◌, subst, ◌⊎◌, inl, inr, ⊎_elim, ◌↔◌, Bool, true, false, true≢false, ◌||◌, ◌∷◌, ℕ}
use Rattle.counting.proofs.Prelude.{zero, suc, ◌≤◌, ◌<◌, arith, eqb, leb, length, leb-true, leb-false, lt-leb}
use Rattle.counting.proofs.Truth.{or_elim, true_or_false}
use Rattle.counting.proofs.Deciding.{eq_decided, or_decided}
use Rattle.counting.proofs.Falsity.{neither}
use Rattle.specification.specs.Graph.{Reaches}
use Rattle.specification.specs.Graph.Reaches.{one, more}
use Rattle.specification.specs.Connection.{connection_number, Means}
use Rattle.specification.specs.declared.Connection.{Connection}
use Rattle.specification.specs.declared.Connection.TheVariants.{Unreached}
use Rattle.reach.proofs.Extending.{reaches_mono, Extends, stays_acyclic}
use Rattle.reach.proofs.Connecting.{connects_means}
use Rattle.specification.specs.Machine.{Graph, Call, Answer, Turn, contains, In, unknown?, reached?, cyclic?, full?, verdict, refusal}
use Rattle.specification.specs.Machine.{connected, insert, change, reply, step, Lawful}
use Rattle.specification.specs.Machine.Edge.{edge}
use Rattle.editing.specs.Meaning.{Closes, Why, Exact, Asks}
use Rattle.editing.specs.Promise.{outside?, connection_of, Represents, LeadsPromise}
use Rattle.editing.specs.declared.Session.{Session}
use Rattle.specification.proofs.Cases.{same-connection}
use Rattle.specification.specs.Asked.{Reply}
use Rattle.specification.specs.Count.{choose}
use Rattle.editing.proofs.Sessions.{outside_same, small_ends, connection-same}
use Rattle.editing.proofs.Machines.{known, reached_decided, insert_extends, add-made, refused_three, unknown-leads}

-- ---- `leads`

unknown_which : (g : Graph) (u v : ℕ) → unknown? g u v ≡ true → (g.vertices ≤ u) ⊎ (g.vertices ≤ v)
unfolding unknown?
unknown_which g u v e =
    ⊎_elim (λ b. inl (leb-true _ _ b)) (λ b. inr (leb-true _ _ b)) (or_elim (leb g.vertices u) (leb g.vertices v) e)

known_both : (g : Graph) (u v : ℕ) → u < g.vertices → v < g.vertices → unknown? g u v ≡ false
unfolding unknown?
known_both g u v h k = neither (leb g.vertices u) (leb g.vertices v) (lt-leb _ _ h) (lt-leb _ _ k)

leads_known : (g : Graph) (u v : ℕ) → u < g.vertices → v < g.vertices → (step g (Call.leads u v)).answer ≡ Answer.told (connected g u v)
unfolding step reply
leads_known g u v h k = rw (known_both g u v h k)

connected_means : (g : Graph) → Lawful g → (u v : ℕ) → Means (In g.edges) u v (connection_number (connected g u v))
unfolding connected
connected_means g l =
    connects_means (In g.edges) (contains g.edges) (λ u v. ((λ e. e), λ e. e)) g.vertices (λ u v e. (l.within u v e).0)

add_free : (g h : Graph) (k : ℕ) → (change g k h).answer ≡ Answer.added → k ≡ 0
unfolding change
add_free g h zero e = refl
add_free g h (suc k) e = absurd (let z : ◌≡◌ {A = ℕ} 0 1 = cc in omega arith)

-- ---- why an edge is refused

-- the test for a cycle is right: some vertex would reach itself
closes_decided : (g : Graph) → Lawful g → (u v : ℕ) → (cyclic? g u v ≡ true) ↔ Closes g u v
unfolding cyclic?
closes_decided g l u v =
    ((λ e. made (test.1 e)), λ c. ⊎_elim (λ e. e) (λ e. absurd (none e c.0 c.1)) (true_or_false (eqb v u || reached? g v u)))
  where
    x : Extends (In g.edges) (In (edge u v ∷ g.edges)) u v
    x = insert_extends g.edges u v

    test : ((v ≡ u) ⊎ Reaches (In g.edges) v u) ↔ ((eqb v u || reached? g v u) ≡ true)
    test = or_decided (eqb v u) (reached? g v u) (eq_decided v u) (reached_decided g l v u)

    made : (v ≡ u) ⊎ Reaches (In g.edges) v u → Closes g u v
    made (inl e) = (u, subst (Reaches (In (edge u v ∷ g.edges)) u) e (one x.new))
    made (inr p) = (u, more x.new (reaches_mono x.old p))

    none : (eqb v u || reached? g v u) ≡ false → (w : ℕ) → Reaches (In (edge u v ∷ g.edges)) w w → ⊥
    none e =
        stays_acyclic (In g.edges) (In (edge u v ∷ g.edges)) u v x (λ q. true≢false (sym (test.0 (inl q)) ∙ e))
        (λ p. true≢false (sym (test.0 (inr p)) ∙ e)) l.acyclic

refusal_why : (g : Graph) → Lawful g → (u v : ℕ) → Why g u v (refusal g u v)
unfolding refusal verdict full?
refusal_why g l u v = go (unknown? g u v) refl (contains g.edges u v) refl (cyclic? g u v) refl (leb 4096 (length g.edges)) refl
  where
    no : {b : Bool} → b ≡ false → b ≡ true → ⊥
    no p q = true≢false (sym q ∙ p)

    open_cycle : cyclic? g u v ≡ false → Closes g u v → ⊥
    open_cycle e c = no e ((closes_decided g l u v).1 c)

    go : (o : Bool) → unknown? g u v ≡ o → (d : Bool) → contains g.edges u v ≡ d → (c : Bool) → cyclic? g u v ≡ c
        → (f : Bool) → leb 4096 (length g.edges) ≡ f → Why g u v (verdict o d c f)
    go true p d q c r f s = Why.unknown (unknown_which g u v p)
    go false p true q c r f s = Why.duplicate (known g u v p).0 (known g u v p).1 q
    go false p false q true r f s = Why.cycle (known g u v p).0 (known g u v p).1 (no q) ((closes_decided g l u v).0 r)
    go false p false q false r true s = Why.full (known g u v p).0 (known g u v p).1 (no q) (open_cycle r) (leb-true _ _ s)
    go false p false q false r false s = Why.free (known g u v p).0 (known g u v p).1 (no q) (open_cycle r) (leb-false _ _ s)

pub exact : (g : Graph) → Lawful g → Exact g
unfolding step reply insert refused_three
exact g l = record {
  lawful = l;
  unknown = λ u v h. ap (λ (t : Turn). t.answer) (unknown-leads g u v h);
  leads = λ u v h k. (connected g u v, leads_known g u v h k, connected_means g l u v);
  itself = λ u h. leads_known g u u h h
      ∙ ap Answer.told (same-connection (connected g u u) Unreached ((connected_means g l u u).unreached.1 (l.acyclic u)));
  refusals = refusal_why g l;
  added = λ u v e x y. rw (add-made g u v (add_free g (insert g u v) (refusal g u v) e)) (added_edges u v x y);
}
  where
    added_edges : (u v x y : ℕ) → In (edge u v ∷ g.edges) x y ↔ (In g.edges x y ⊎ ((x ≡ u) × (y ≡ v)))
    added_edges u v x y = let m = insert_extends g.edges u v in (m.only x y, ⊎_elim (m.old x y) (λ p. rw (p.0, p.1) m.new))

-- ---- the answer of a session that represents the graph

module _ (g : Graph) (s : Session) (r : Represents g s) (u v : ℕ) where
  -- by what is refused, and what is told
  asks_by : (b : Bool) → unknown? g u v ≡ b → (k a : ℕ) → k ≡ choose b (λ _. 3) (λ _. 0)
      → a ≡ connection_number (choose b (λ _. Unreached) (λ _. connected g u v)) → Asks g u v k a
  asks_by true e k a p q = record {
    known = ((λ z. absurd (omega (arith, p, z))), λ h. absurd (true≢false (sym e ∙ known_both g u v h.0 h.1)));
    unknown = λ _. (p, q);
    means = λ z. absurd (omega (arith, p, z));
    itself = λ _. q;
  }
  asks_by false e k a p q = let m = connected_means g r.lawful u v in record {
    known = ((λ _. known g u v e), λ _. p);
    unknown = λ n. absurd (n p);
    means = λ _. subst (Means (In g.edges) u v) (sym q) m;
    itself = λ same. q ∙ m.unreached.1 (λ w. r.lawful.acyclic u (subst (Reaches (In g.edges) u) (sym same) w));
  }

  pub leads-asks : (a : Reply) → LeadsPromise s u v a → Asks g u v a.refusal (connection_number a.connection)
  leads-asks a p =
      asks_by (unknown? g u v) refl a.refusal (connection_number a.connection)
      (p.refusal ∙ ap (λ (b : Bool). choose {A = ℕ} b (λ _. 3) (λ _. 0)) (outside_same g s r u v))
      (ap (λ (x : Connection). connection_number x) (p.connection ∙ told (unknown? g u v) refl))
    where
      told : (b : Bool) → unknown? g u v ≡ b
          → choose (outside? s u v) (λ _. Unreached) (λ _. connection_of s u v) ≡ choose b (λ _. Unreached) (λ _. connected g u v)
      told true e = ap (λ (b : Bool). choose b (λ _. Unreached) (λ _. connection_of s u v)) (outside_same g s r u v ∙ e)
      told false e =
          let h = small_ends g s r u v e in
          ap (λ (b : Bool). choose b (λ _. Unreached) (λ _. connection_of s u v)) (outside_same g s r u v ∙ e)
          ∙ connection-same g s r u v h.0 h.1
