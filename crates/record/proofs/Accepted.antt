-- What an accepted record says passes the checks. Assumes nothing.
use Rattle.counting.proofs.Prelude.{◌≡◌, sym, subst, List, ℕ}
use Rattle.specification.specs.Checks.{Content, refusal_of, content_of, record_refusal, said}
use Rattle.record.proofs.Readings.{accepted_says}
use Rattle.record.proofs.Soundness.{record_sound, sound_accepted}

pub said-passes : (b : List ℕ) → record_refusal b ≡ 0 → refusal_of (said b) ≡ 0
said-passes b e =
    let s = (record_sound b).0 e in
    subst (λ (c : Content). refusal_of c ≡ 0) (sym (accepted_says b s.0 s.1 e)) (sound_accepted (content_of b s.0) s.2)
