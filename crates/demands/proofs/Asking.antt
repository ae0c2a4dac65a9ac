-- What is answered to a question how one word of a record leads to another. Assumes nothing.
use Rattle.counting.proofs.Prelude.{◌≡◌, refl, sym, subst, ◌≢◌, ⊎_elim, true, ◌||◌, List, ℕ, arith}
use Rattle.counting.proofs.Prelude.{leb, leb-true, leb-false}
use native.Mathlib.Decide.{ℕ_discrete}
use Rattle.counting.proofs.Truth.{true_or_false, or_elim, or_neither}
use Rattle.specification.specs.Graph.{Reaches, Edge}
use Rattle.specification.specs.Connection.{connection_number}
use Rattle.specification.specs.declared.Connection.TheVariants.{Unreached}
use Rattle.specification.specs.Asked.{Reply}
use Rattle.specification.specs.declared.Leading.{Leading}
use Rattle.specification.specs.Checks.{record_refusal, said, connection_in, SoundRecord}
use Rattle.specification.specs.Asked.{reply_by, leading_of, asked}
use Rattle.record.proofs.Accepted.{said-passes}
use Rattle.record.proofs.Soundness.{accepted_sound, record_sound, sound_means}
use Rattle.record.proofs.Asking.{refused-told, stranger_told, known_told}
use Rattle.demands.specs.Leading.{Within, Asks}

module _ (b : List ℕ) (u v : ℕ) where
  -- one of the two is no word
  outside : (leb (said b).vertices u || leb (said b).vertices v) ≡ true → Within b u v → ⊥
  outside t w =
      ⊎_elim (λ x. absurd (omega (arith, leb-true (said b).vertices u x, w.0)))
      (λ x. absurd (omega (arith, leb-true (said b).vertices v x, w.1)))
      (or_elim (leb (said b).vertices u) (leb (said b).vertices v) t)

  -- the record is refused
  refused-asks : record_refusal b ≢ 0 → Asks b u v (record_refusal b) 0
  refused-asks ne = record {
    known = ((λ z. absurd (ne z)), λ s. absurd (ne ((record_sound b).1 s.0)));
    unsound = λ _. refl;
    stranger = λ s. absurd (ne ((record_sound b).1 s));
    refused = λ _. refl;
    told = λ z. absurd (ne z);
    means = λ z. absurd (ne z);
    itself = λ _. refl;
  }

  module _ (ok : record_refusal b ≡ 0) where
    sound : SoundRecord b
    sound = (record_sound b).0 ok

    -- one of the two is no word of it
    stranger_asks : (Within b u v → ⊥) → Asks b u v 3 0
    stranger_asks out = record {
      known = ((λ z. absurd (omega arith)), λ s. absurd (out s.1));
      unsound = λ n. absurd (n sound);
      stranger = λ _. ((λ _. out), λ _. refl);
      refused = λ _. refl;
      told = λ z. absurd (omega arith);
      means = λ z. absurd (omega arith);
      itself = λ _. refl;
    }

    -- both are
    known_asks : Within b u v → Asks b u v 0 (connection_number (connection_in (said b) u v))
    known_asks w =
        let s = accepted_sound (said b) (said-passes b ok) in
        let m = sound_means (said b) s u v in record {
          known = ((λ _. (sound, w)), λ _. refl);
          unsound = λ n. absurd (n sound);
          stranger = λ _. ((λ z. absurd (omega arith)), λ out. absurd (out w));
          refused = λ n. absurd (n refl);
          told = λ _. refl;
          means = λ _. m;
          itself = λ e. m.unreached.1 (λ r. s.acyclic u (subst (Reaches (Edge (said b).tails (said b).heads) u) (sym e) r));
        }

  asked-asks : Asks b u v (asked b u v).refusal (connection_number (asked b u v).connection)
  asked-asks = go (ℕ_discrete (record_refusal b) 0)
    where
      by : (r : Reply) → r ≡ asked b u v → Asks b u v r.refusal (connection_number r.connection)
          → Asks b u v (asked b u v).refusal (connection_number (asked b u v).connection)
      by r e = subst (λ (x : Reply). Asks b u v x.refusal (connection_number x.connection)) e

      go : Dec (record_refusal b ≡ 0) → Asks b u v (asked b u v).refusal (connection_number (asked b u v).connection)
      go (no ne) = by (reply_by (record_refusal b) Unreached) (refused-told b u v ne) (refused-asks ne)
      go (yes ok) = ⊎_elim
          (λ t. by (reply_by 3 Unreached) (stranger_told b u v ok t) (stranger_asks ok (outside t)))
          (λ t.
          let p = or_neither (leb (said b).vertices u) (leb (said b).vertices v) t in
          by (reply_by 0 (connection_in (said b) u v)) (known_told b u v ok t) (known_asks ok (leb-false _ _ p.0, leb-false _ _ p.1)))
          (true_or_false (leb (said b).vertices u || leb (said b).vertices v))

  pub reply-asks : (r : Reply) → r ≡ asked b u v → Asks b u v r.refusal (connection_number r.connection)
  reply-asks r e = subst (λ (x : Reply). Asks b u v x.refusal (connection_number x.connection)) (sym e) asked-asks

  pub leads-asks : (r : Leading) → r ≡ leading_of (asked b u v) → Asks b u v r.refusal r.leads
  leads-asks r e = subst (λ (x : Leading). Asks b u v x.refusal x.leads) (sym e) asked-asks
