-- Every list of calls on a lent list, starts among them: from the first accepted start on, every answer and the session that the list
-- spells are the machine's. Assumes nothing.
use Rattle.counting.proofs.Prelude.{◌≡◌, refl, sym, ap, subst, ◌∙◌, List, ℕ, ◌≤◌, arith, length, ap₂, [], ◌∷◌, map}
use Rattle.counting.proofs.Prelude.{zero, suc, ◌<◌, get_or}
use Rattle.specification.specs.Machine.{Call, Answer, Graph, step, run, answers}
use Rattle.specification.specs.Graph.{size_refusal}
use Rattle.editing.specs.Promise.{reply_answer, change_answer}
use Rattle.specification.specs.Connection.{numbered}
use Rattle.specification.proofs.Cases.{connection-told}
use Rattle.specification.specs.declared.Connection.TheVariants.{Unreached}
use Rattle.specification.specs.Asked.{Reply}
use Rattle.specification.specs.declared.Leading.{Leading}
use Rattle.ceviloneth.specs.State.{session_of, Starts, Tells}
use Rattle.editing.specs.Meaning.{Asks}
use Rattle.editing.proofs.Meaning.{leads-asks}
use Rattle.specification.specs.Asked.{reply_by, leading_of}
use Rattle.ceviloneth.specs.Calls.{Called, Calls, LentCall, LentAnswer, start_answer, Life, begun, life_step, life_run, Right}
use Rattle.ceviloneth.specs.Calls.{AllRight, Spells, Lived, Short}
use Rattle.ceviloneth.specs.Calls.Called.{adds, asks, starts}
use Rattle.ceviloneth.specs.Calls.Calls.{done, next}
use native.Mathlib.Nat.{suc-ne-zero}
use Rattle.specification.specs.Lent.{Untouched}
use Rattle.editing.proofs.Machines.{leads-kept}
use Rattle.ceviloneth.proofs.Changing.{short, whole}

answered : (r : Leading) (a : Reply) → r ≡ leading_of a
    → reply_answer r.refusal (numbered r.leads) ≡ reply_answer a.refusal a.connection
answered r a e =
    ap (λ (x : Leading). reply_answer x.refusal (numbered x.leads)) e ∙ ap (reply_answer a.refusal) (connection-told a.connection)

-- a start that is answered with k: 0, and the list spells a fresh session; else it is as it was, and so is the life
begins : (l : Life) (s t : List ℕ) (n r k : ℕ) → Spells l s → Starts s n r t → r ≡ k → Spells (begun l n k) t
unfolding begun Spells
begins l s t n r zero h p e = (p.started e).holds
begins l s t n r (suc k) h p e = subst (Spells l) (sym (p.kept.untouched (λ z. suc-ne-zero k (sym e ∙ z)))) h

-- one call on a list with room
one_call : (l : Life) {s t : List ℕ} {c : LentCall} {a : LentAnswer} →
    514 ≤ length s → Spells l s → Called s c a t → Right l c a × Spells (life_step l c) t
unfolding Right life_step Spells
one_call l {s = s} {t = t} long h (starts {n = n} r p) =
    let e = p.refusal ∙ whole s (size_refusal n) long in (ap start_answer e, begins l s t n r (size_refusal n) h p e)
one_call Life.unstarted long h (adds r p) = (tt, tt)
one_call Life.unstarted long h (asks r p) = (tt, tt)
one_call (Life.running g) long h (adds r p) = let a = p.added long in (ap LentAnswer.says (a.answer g h), a.holds g h)
one_call (Life.running g) long h (asks {u = u} {v = v} r p) =
    let a = p.told long in (ap LentAnswer.says (answered r _ a.2 ∙ a.1.answer g h), rw (leads-kept g u v) h)

-- whatever a call does, the list keeps its length, and all that is past a session
frame : {s t : List ℕ} {c : LentCall} {a : LentAnswer} →
    Called s c a t → (length t ≡ length s) × ((k d : ℕ) → 514 ≤ k → get_or t k d ≡ get_or s k d)
frame (starts r p) = (p.kept.as_long, p.kept.past)
frame (adds r p) = (p.kept.as_long, p.kept.past)
frame (asks r p) = (refl, λ k d j. refl)

lives : (l : Life) {was is : List ℕ} {cs : List LentCall} {out : List LentAnswer} →
    514 ≤ length was → Spells l was → Calls was cs out is → Lived l was cs out is
unfolding life_run AllRight
lives l long h done = record { answers = tt; spells = h; as_long = refl; past = λ k d j. refl }
lives l long h (next {c = c} p rest) =
    let f = frame p in
    let one = one_call l long h p in
    let more = lives (life_step l c) (omega (arith, long, f.0)) one.1 rest in record {
      answers = (one.0, more.answers);
      spells = more.spells;
      as_long = more.as_long ∙ f.0;
      past = λ k d j. more.past k d j ∙ f.1 k d j;
    }

-- EVERY LIST OF CALLS, starts among them, on any numbers: from the first accepted start on every answer is the machine's, and the last
-- list spells its graph
pub every_life : {was is : List ℕ} {cs : List LentCall} {out : List LentAnswer} →
    514 ≤ length was → Calls was cs out is → Lived Life.unstarted was cs out is
unfolding Spells
every_life long h = lives Life.unstarted long tt h

-- HOW ONE WORD LEADS TO ANOTHER: whatever the calls were, where a machine is running the answer is what its arrows say, one of four
pub every-answer : {was is : List ℕ} {cs : List LentCall} {out : List LentAnswer} →
    514 ≤ length was → Calls was cs out is → (g : Graph) → life_run Life.unstarted cs ≡ Life.running g →
    (u v : ℕ) (r : Leading) → Tells is u v r → Asks g u v r.refusal r.leads
unfolding Spells
every-answer {is = is} long h g e u v r t =
    let life = every_life long h in
    let stands : Spells (Life.running g) is = subst (λ (l : Life). Spells l is) e life.spells in
    let a = t.told (omega (arith, long, life.as_long)) in
    subst (λ (x : Leading). Asks g u v x.refusal x.leads) (sym a.2) (leads-asks g (session_of is) stands u v a.0 a.1)

-- BETWEEN TWO STARTS the life is the machine's run, and what is right to answer are its answers
pub between : (g : Graph) (cs : List Call) → life_run (Life.running g) (map LentCall.call cs) ≡ Life.running (run g cs)
unfolding life_run life_step run
between g [] = refl
between g (c ∷ cs) = between (step g c).graph cs

pub between-answers : (g : Graph) (cs : List Call) (out : List LentAnswer) →
    AllRight (Life.running g) (map LentCall.call cs) out → out ≡ map LentAnswer.says (answers g cs)
unfolding AllRight Right life_step answers
between-answers g [] [] h = refl
between-answers g [] (a ∷ out) h = absurd h
between-answers g (c ∷ cs) [] h = absurd h
between-answers g (c ∷ cs) (a ∷ out) h = ap₂ ◌∷◌ h.0 (between-answers (step g c).graph cs out h.1)

-- ---- a list that is too short

abbrev eight : LentAnswer
eight = LentAnswer.says (Answer.refused 8)

short_call : {s t : List ℕ} {c : LentCall} {a : LentAnswer} → length s < 514 → Called s c a t → Untouched s t × (a ≡ eight)
unfolding start_answer change_answer reply_answer
short_call {s = s} h (starts r p) =
    let e : r ≡ 8 = p.refusal ∙ sym (short s _ h) in (p.kept.untouched (λ z. absurd (omega (arith, e, z))), ap start_answer e)
short_call {s = s} h (adds r p) =
    let e : r ≡ 8 = p.refusal ∙ sym (short s _ h) in
    (p.kept.untouched (λ z. absurd (omega (arith, e, z))), ap (λ (k : ℕ). LentAnswer.says (change_answer k)) e)
short_call h (asks r p) = (refl, ap LentAnswer.says (answered r (reply_by 8 Unreached) (p.short h)))

-- EVERY LIST OF CALLS on a shorter list: each is refused with 8, and nothing changes
pub every-short : {was is : List ℕ} {cs : List LentCall} {out : List LentAnswer} →
    length was < 514 → Calls was cs out is → Short was cs out is
every-short h done = record { answers = refl; untouched = refl }
every-short h (next p rest) =
    let one = short_call h p in
    let more = every-short (omega (arith, h, ap length one.0)) rest in
    record { answers = ap₂ ◌∷◌ one.1 more.answers; untouched = more.untouched ∙ one.0 }
