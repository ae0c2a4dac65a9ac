-- From `editing`'s promises to those of the calls on lists that spell sessions. Assumes nothing.
use Rattle.counting.proofs.Prelude.{◌≡◌, refl, sym, ap, subst, ◌∙◌, List, ℕ, ◌<◌, ◌≤◌, arith, length, lt-ltb}
use Rattle.counting.proofs.Prelude.{le-ltb}
use Rattle.std.proofs.Common.{Err}
use native.Mathlib.Decide.{ℕ_discrete}
use Rattle.editing.specs.Promise.{Changed, changed_of, StartPromise, AddPromise}
use Rattle.editing.specs.declared.Refused.{Refused}
use Rattle.specification.specs.Refusals.{refusal_number}
use Rattle.specification.proofs.Cases.{refusal_numbered}
use Rattle.editing.specs.declared.Session.{Session}
use Rattle.ceviloneth.specs.State.{session_of, state_refusal, Kept, Starts, Adds}
use Rattle.ceviloneth.specs.Steps.{Stored, Changes}

changed : (r : Changed) (k : ℕ) (z : Session) → r.refusal ≡ k → z ≡ r.session → r ≡ record { refusal = k; session = z }
changed r k z e h = ap (λ (j : ℕ). to j r.session) e ∙ ap (λ (y : Session). to k y) (sym h)
  where
    to : ℕ → Session → Changed
    to j y = record { refusal = j; session = y }

module _ (was : List ℕ) where
  pub short : (k : ℕ) → length was < 514 → 8 ≡ state_refusal was k
  unfolding state_refusal
  short k h = simp (lt-ltb _ _ h)

  pub whole : (k : ℕ) → 514 ≤ length was → state_refusal was k ≡ k
  unfolding state_refusal
  whole k h = simp (le-ltb _ _ h)

  all-kept : (r : ℕ) → Kept was r was
  all-kept r = record { untouched = λ _. refl; as_long = refl; past = λ k d h. refl }

  -- ---- a change

  pub refused : (e : Refused) (k : ℕ) → k ≡ refusal_number e.refusal → Changes was (changed_of (Err e)) k was
  refused e k h = record { refusal = h; kept = all-kept k; spells = λ z. absurd (refusal_numbered e.refusal (sym h ∙ z)) }

  pub written : (s : Session) (is : List ℕ) → Stored was s is → Changes was (record { refusal = 0; session = s }) 0 is
  written s is h = record {
    refusal = refl;
    kept = record { untouched = λ ne. absurd (ne refl); as_long = h.as_long; past = λ k d g. h.past k d g };
    spells = λ _. h.spells;
  }

  -- ---- a start
  module _ (n : ℕ) where
    pub start-short : length was < 514 → Starts was n 8 was
    start-short h = record { refusal = short _ h; kept = all-kept 8; started = λ e. absurd (omega arith) }

    pub started : 514 ≤ length was → (r : Changed) → StartPromise n r → (k : ℕ) (is : List ℕ) → Changes was r k is → Starts was n k is
    started long r p k is h = record {
      refusal = h.refusal ∙ p.refusal ∙ sym (whole _ long);
      kept = h.kept;
      started = λ e. subst (StartPromise n) (changed r k (session_of is) (sym h.refusal) (h.spells e)) p;
    }

  -- ---- an arrow more
  module _ (u v : ℕ) where
    pub add-short : length was < 514 → Adds was u v 8 was
    add-short h = record { refusal = short _ h; kept = all-kept 8; added = λ l. absurd (omega arith) }

    pub added : 514 ≤ length was → (s : Session) → s ≡ session_of was → (r : Changed) → AddPromise s u v r → (k : ℕ) (is : List ℕ)
        → Changes was r k is → Adds was u v k is
    added long s is-it r given k is h = record {
      refusal = h.refusal ∙ promised.refusal ∙ sym (whole _ long);
      kept = h.kept;
      added =
          λ _. subst (AddPromise (session_of was) u v) (changed r k (session_of is) (sym h.refusal) (spelt-session (ℕ_discrete k 0)))
          promised;
    }
      where
        promised : AddPromise (session_of was) u v r
        promised = subst (λ (y : Session). AddPromise y u v r) is-it given

        -- a refused change leaves both the list and the session
        spelt-session : Dec (k ≡ 0) → session_of is ≡ r.session
        spelt-session (yes e) = h.spells e
        spelt-session (no ne) = ap session_of (h.kept.untouched ne) ∙ sym (promised.kept (λ z. ne (h.refusal ∙ z)))
