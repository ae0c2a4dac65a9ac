-- What is told of two vertices of a record, case by case. Assumes nothing.
use Rattle.counting.proofs.Prelude.{◌≡◌, sym, ap, ◌∙◌, true, false, ◌||◌, List, ℕ, ◌*◌, ◌<◌, ◌≤◌, arith, leb, eq-eqb, ne_eqb, le-leb}
use Rattle.counting.proofs.Prelude.{lt-leb}
use Rattle.counting.proofs.Truth.{or_left, or_right}
use Rattle.counting.proofs.Falsity.{neither}
use Rattle.specification.specs.Sets.{member?, at, has?}
use Rattle.specification.specs.Connection.{connection}
use Rattle.specification.specs.declared.Connection.{Connection}
use Rattle.specification.specs.declared.Connection.TheVariants.{Unreached}
use Rattle.specification.specs.Asked.{Reply}
use Rattle.specification.specs.Checks.{record_refusal, said, connection_in, Sound}
use Rattle.specification.specs.Asked.{reply_by, ask_refusal, asked}
use Rattle.reach.proofs.Connecting.{same_answer}
use Rattle.record.specs.Steps.{Judged, Judges}
use Rattle.record.proofs.Accepted.{said-passes}
use Rattle.record.proofs.Soundness.{accepted_sound, sound_edges}

-- an accepted record has no more than 128 vertices
pub few : (b : List ℕ) (j : Judged) (e l t : List ℕ) → Judges b j e l t → j.refusal ≡ 0 → j.vertices ≤ 128
few b j e l t h z = omega (arith, h.vertices, (accepted_sound (said b) (said-passes b (sym h.answer ∙ z))).size.1)

module _ (b : List ℕ) (u v : ℕ) where
  pub refused-told : (record_refusal b ≡ 0 → ⊥) → reply_by (record_refusal b) Unreached ≡ asked b u v
  unfolding asked ask_refusal
  refused-told ne = simp (ne_eqb _ _ ne)

  pub stranger_told : record_refusal b ≡ 0 → (leb (said b).vertices u || leb (said b).vertices v) ≡ true
      → reply_by 3 Unreached ≡ asked b u v
  unfolding asked ask_refusal
  stranger_told e t = simp (eq-eqb _ _ e, t)

  pub known_told : record_refusal b ≡ 0 → (leb (said b).vertices u || leb (said b).vertices v) ≡ false
      → reply_by 0 (connection_in (said b) u v) ≡ asked b u v
  unfolding asked ask_refusal
  known_told e t = simp (eq-eqb _ _ e, t)

  module _ (j : Judged) (e l t : List ℕ) (h : Judges b j e l t) (r : Reply) where
    pub asked-refused : (j.refusal ≡ 0 → ⊥) → r ≡ reply_by j.refusal Unreached → r ≡ asked b u v
    asked-refused ne q = q ∙ ap (λ (k : ℕ). reply_by k Unreached) h.answer ∙ refused-told (λ z. ne (h.answer ∙ z))

    module _ (z : j.refusal ≡ 0) where
      accepted : record_refusal b ≡ 0
      accepted = sym h.answer ∙ z

      pub asked_tail : j.vertices ≤ u → r ≡ reply_by 3 Unreached → r ≡ asked b u v
      asked_tail k q =
          q ∙ stranger_told accepted
          (or_left (leb (said b).vertices u) (leb (said b).vertices v) (le-leb (said b).vertices u (omega (arith, h.vertices))))

      pub asked_head : j.vertices ≤ v → r ≡ reply_by 3 Unreached → r ≡ asked b u v
      asked_head k q =
          q ∙ stranger_told accepted
          (or_right (leb (said b).vertices u) (leb (said b).vertices v) (le-leb (said b).vertices v (omega (arith, h.vertices))))

      sound : Sound (said b)
      sound = accepted_sound (said b) (said-passes b accepted)

      pub asked_known : u < j.vertices → v < j.vertices → (a : Connection) → a ≡ connection (member? e (2 * u) v) (member? l (2 * u) v)
          → r ≡ reply_by 0 a → r ≡ asked b u v
      unfolding at has? connection_in
      asked_known hu hv a k q =
          let inside = neither (leb (said b).vertices u) (leb (said b).vertices v)
          (lt-leb (said b).vertices u (omega (arith, h.vertices))) (lt-leb (said b).vertices v (omega (arith, h.vertices))) in
          let s = h.tables z in
          let same = same_answer (said b).vertices (said b).tails (said b).heads (sound_edges (said b) sound) 2 e t l sound.size.1
          s.arcs s.bits s.longer u v (omega (arith, few b j e l t h z)) (omega (arith, few b j e l t h z)) in
          q ∙ ap (reply_by 0) (k ∙ same) ∙ known_told accepted inside
