-- The rule's depth is no part of it: for any relation, every depth above n gives the same predecessors and channels. Assumes nothing.
use Rattle.counting.proofs.Prelude.{◌≡◌, refl, sym, ap, ◌∙◌, Bool, List, [], ◌∷◌, ℕ, zero, suc, ◌+◌, ◌≤◌, ◌<◌, arith, length}
use native.Mathlib.Nat.{not-suc-le-zero}
use mathlib.Core.Option.{Option, none, some}
use Rattle.specification.specs.Planning.{Held, State, predecessor_of, marked, taken, fresh, scan, augment, asks, matching_to, matching}
use Rattle.specification.specs.Planning.{successor, chain, begun, planned_to, planned}
use Rattle.matching.specs.Visited.{unvisited}
use Rattle.matching.proofs.Scan.{scan_ind, scan_end, scan_pass, scan_free, scan-moved, scan_stuck, candidate_fact}
use Rattle.matching.proofs.Kept.{Kept, marked_fewer, kept-augment}
use Rattle.matching.proofs.Asked.{unvisited-le}
use Rattle.matching.proofs.Chains.{chain_none, chain-some, chain_room, begun_yes, begun_no}

-- ---- searches

module _ (leads : ℕ → ℕ → Bool) (n : ℕ) where
  -- who asks has visited one vertex more: so a scan needs the searches to agree only where fewer vertices are unvisited
  module _ (again again' : ℕ → State → State) (h d : ℕ) (kept : (p : ℕ) (s : State) → Kept n p s (again p s))
      (agree : (p : ℕ) (s : State) → unvisited n s < d → again p s ≡ again' p s) where
    scan-same : (j v : ℕ) (s : State) → v + j ≤ n → unvisited n s ≤ d → scan leads n again h j v s ≡ scan leads n again' h j v s
    scan-same = scan_ind leads n again h (λ j v s x. v + j ≤ n → unvisited n s ≤ d → x ≡ scan leads n again' h j v s) (record {
      at_end = λ v s l u. sym (scan_end leads n again' h zero v s);
      pass = λ j v s e ih l u. ih (omega arith) u ∙ sym (scan_pass leads n again' h j v s e);
      free = λ j v s e f l u. sym (scan_free leads n again' h j v s e f);
      moved = λ j v s p e f y l u.
          let a : again p (marked v s) ≡ again' p (marked v s) =
          agree p (marked v s) (omega (arith, marked_fewer n v s (omega arith) (candidate_fact leads h v s e).1)) in
          ap (taken h v) a ∙ sym (scan-moved leads n again' h j v s p e f (sym (ap (λ (r : State). r.found) a) ∙ y));
      stuck = λ j v s p e f y ih l u.
          let m : unvisited n (marked v s) + 1 ≡ unvisited n s = marked_fewer n v s (omega arith) (candidate_fact leads h v s e).1 in
          let a : again p (marked v s) ≡ again' p (marked v s) = agree p (marked v s) (omega arith) in
          ih (omega arith) (omega (arith, (kept p (marked v s)).fewer))
          ∙ ap (scan leads n again' h j (suc v)) a
          ∙ sym (scan_stuck leads n again' h j v s p e f (sym (ap (λ (r : State). r.found) a) ∙ y));
    })

  -- every depth above the number of unvisited vertices gives the same search
  pub augment_depth : (k k' h : ℕ) (s : State) → unvisited n s < k → unvisited n s < k' → augment leads n k h s ≡ augment leads n k' h s
  unfolding augment
  augment_depth zero k' h s l m = absurd (not-suc-le-zero l)
  augment_depth (suc k) zero h s l m = absurd (not-suc-le-zero m)
  augment_depth (suc k) (suc k') h s l m =
      scan-same (augment leads n k) (augment leads n k') h (unvisited n s) (kept-augment n leads k)
      (λ p r o. augment_depth k k' p r (omega arith) (omega arith)) n 0 s (omega arith) (omega arith)

  asks_depth : (k k' j h : ℕ) (held : List Held) → n < k → n < k' → asks leads n k j h held ≡ asks leads n k' j h held
  unfolding asks
  asks_depth k k' zero h held l m = refl
  asks_depth k k' (suc j) h held l m =
      let u : unvisited n (fresh held) ≤ n = unvisited-le n (fresh held) in
      ap (λ (s : State). asks leads n k j (suc h) s.held) (augment_depth k k' h (fresh held) (omega arith) (omega arith))
      ∙ asks_depth k k' j (suc h) (augment leads n k' h (fresh held)).held l m

  -- so every depth above n gives the same predecessors
  pub matching_depth : (k : ℕ) → n < k → matching_to leads n k ≡ matching leads n
  unfolding matching matching_to
  matching_depth k l = asks_depth k (suc n) n 0 [] l (omega arith)

-- ---- channels

module _ (n : ℕ) (held : List Held) where
  -- a chain that ends before its depth is the same at every greater depth
  chain_ended : (k : ℕ) (m : Option ℕ) (k' : ℕ) → length (chain n held k m) < k → k ≤ k' → chain n held k' m ≡ chain n held k m
  chain_ended zero m k' l b = absurd (not-suc-le-zero l)
  chain_ended (suc k) m zero l b = absurd (not-suc-le-zero b)
  chain_ended (suc k) none (suc k') l b = chain_none n held (suc k') ∙ sym (chain_none n held (suc k))
  chain_ended (suc k) (some v) (suc k') l b =
      chain-some n held k' v
      ∙ ap (λ r. v ∷ r) (chain_ended k (successor n held v) k' (omega (arith, ap length (chain-some n held k v))) (omega arith))
      ∙ sym (chain-some n held k v)

  -- whatever the predecessors, every depth above n gives the same channel
  pub chain_depth : (k v : ℕ) → v < n → predecessor_of held v ≡ none → n < k → chain n held k (some v) ≡ chain n held (suc n) (some v)
  chain_depth k v b e l = chain_ended (suc n) (some v) k (omega (arith, chain_room n held (suc n) v b e)) l

  begun_depth : (k v : ℕ) → v ≤ n → n < k → begun n held k v ≡ begun n held (suc n) v
  unfolding begun
  begun_depth k zero b l = refl
  begun_depth k (suc v) b l = go (predecessor_of held v) refl (begun_depth k v (omega arith) l)
    where
      go : (m : Option ℕ) → predecessor_of held v ≡ m → begun n held k v ≡ begun n held (suc n) v
          → begun n held k (suc v) ≡ begun n held (suc n) (suc v)
      go none e ih = begun_yes n held k v e ∙ rw (ih, chain_depth k v b e l) refl ∙ sym (begun_yes n held (suc n) v e)
      go (some p) e ih = begun_no n held k v p e ∙ ih ∙ sym (begun_no n held (suc n) v p e)

-- every depth above n gives the channels of the rule
pub planned_depth : (leads : ℕ → ℕ → Bool) (n k : ℕ) → n < k → planned_to k leads n ≡ planned leads n
unfolding planned planned_to matching
planned_depth leads n k l =
    ap (λ held. begun n held k n) (matching_depth leads n k l) ∙ begun_depth n (matching leads n) k n (omega arith) l
