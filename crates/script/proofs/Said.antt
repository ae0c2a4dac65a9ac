-- What is said of each answer of a session's call. Assumes nothing.
use Rattle.counting.proofs.Prelude.{◌≡◌, refl, ◌≢◌, ℕ, zero, suc}
use Rattle.specification.specs.declared.Connection.{Connection}
use Rattle.specification.specs.declared.Refusal.{Refusal}
use Rattle.specification.specs.Refusals.{refusal_number}
use Rattle.specification.specs.Machine.{Answer, answer_number}
use Rattle.editing.specs.Promise.{change_answer, reply_answer}
use Rattle.specification.proofs.Cases.{refusal_numbered}
use Rattle.script.specs.declared.Outcome.{Outcome}
use Rattle.script.specs.Performing.{Said, saying, said_of}

change_refused : (k : ℕ) → k ≢ 0 → Said.says k (Answer.refused k) ≡ saying (change_answer k)
unfolding answer_number change_answer
change_refused zero h = absurd (h refl)
change_refused (suc k) h = refl

reply_refused : (k : ℕ) (a : Connection) → k ≢ 0 → Said.says k (Answer.refused k) ≡ saying (reply_answer k a)
unfolding answer_number reply_answer
reply_refused zero a h = absurd (h refl)
reply_refused (suc k) a h = refl

pub said_change : (k : Refusal) → said_of (Outcome.Refused k) ≡ saying (change_answer (refusal_number k))
unfolding said_of
said_change k = change_refused (refusal_number k) (refusal_numbered k)

pub said_reply : (k : Refusal) (a : Connection) → said_of (Outcome.Refused k) ≡ saying (reply_answer (refusal_number k) a)
unfolding said_of
said_reply k a = reply_refused (refusal_number k) a (refusal_numbered k)
