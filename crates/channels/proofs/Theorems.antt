-- What the channels that the calls hand over are: a division into channels, in which each vertex leads to the next, and the least of all
-- that have the given channels whole. Here the theorems stand of what `plan` and `given` hand over. Assumes nothing.
use Rattle.counting.proofs.Prelude.{◌≡◌, refl, sym, ap, ◌∙◌, Bool, true, false, List, ℕ, suc, ◌*◌, ◌≤◌, ◌<◌, min, arith, length}
use native.Mathlib.Decide.{dec_lt}
use Rattle.specification.specs.Count.{choose}
use Rattle.specification.specs.Channels.{channel_of, position_of, lines_of, vertices_of, unknown?, repeats?, broken?}
use Rattle.specification.specs.Given.{with_given, Whole}
use Rattle.specification.specs.Planning.{planned}
use Rattle.counting.specs.Quads.{quad}
use Rattle.matching.specs.Division.{Order, Division, Covers, Channelled}
use Rattle.matching.proofs.Ordered.{channelled}
use Rattle.matching.proofs.Planned.{planned-least, planned_covers}
use Rattle.matching.proofs.Beside.{given_covers, given-whole}
use Rattle.matching.proofs.Fewest.{given-least}
use Rattle.matching.specs.Given.{Fitting, Given}
use Rattle.specification.specs.Connection.{leading?}
use Rattle.specification.specs.declared.Connection.{Connection}
use Rattle.reach.specs.Closure.{connection_by}
use Rattle.planning.specs.Arranged.{Arranged}
use Rattle.planning.specs.Promise.{Channels}
use Rattle.channels.specs.Promise.{Answers, Plans, Gives, given_refusal}
use Rattle.channels.specs.Sound.{Sound}
use Rattle.channels.proofs.Checks.{passed_fits, passed-given}
use Rattle.specification.specs.Sets.{has?}
use Rattle.specification.specs.Graph.{size_refusal, unsized?}

-- ---- what the refusals tell

module _ (n refusal : ℕ) (ls : List (List ℕ)) (p : List ℕ) (r : Channels) (p' : List ℕ) where
  pub taken : Answers n refusal ls p r p' → r.refusal ≡ 0 → (refusal ≡ 0) × Arranged n ls r.count p'
  taken a e = go (dec_lt (length p) (4 * min n 128))
    where
      go : Dec (length p < 4 * min n 128) → (refusal ≡ 0) × Arranged n ls r.count p'
      go (yes l) = absurd (omega (arith, (a.short l).0))
      go (no l) = (sym (a.refused (omega arith)) ∙ e, a.arranged e)

-- what each check says of given channels that are taken
pub record Passed (ask : ℕ → ℕ → Connection) (n : ℕ) (field : List ℕ) : Type 0 where
  pub size : unsized? n ≡ false
  pub known : unknown? n (vertices_of field) ≡ false
  pub once : repeats? (vertices_of field) ≡ false
  pub led : broken? ask (lines_of field) ≡ false

pub given-passed : (ask : ℕ → ℕ → Connection) (n : ℕ) (field : List ℕ) → given_refusal ask n field ≡ 0 → Passed ask n field
unfolding given_refusal
given-passed ask n field e =
    let p = go (unsized? n) (unknown? n (vertices_of field)) (repeats? (vertices_of field)) (broken? ask (lines_of field)) e in
    record { size = p.0; known = p.1; once = p.2; led = p.3 }
  where
    go : (a b c d : Bool)
        → ◌≡◌ {A = ℕ} (choose a (λ _. 2) (λ _. choose b (λ _. 3) (λ _. choose c (λ _. 6) (λ _. choose d (λ _. 7) (λ _. 0))))) 0
        → (a ≡ false) × (b ≡ false) × (c ≡ false) × (d ≡ false)
    go true b c d p = absurd (omega arith)
    go false true c d p = absurd (omega arith)
    go false false true d p = absurd (omega arith)
    go false false false true p = absurd (omega arith)
    go false false false false p = (refl, refl, refl, refl)

-- given channels that are taken fit
pub taken_fits : (ask : ℕ → ℕ → Connection) (n : ℕ) (field : List ℕ) → given_refusal ask n field ≡ 0 → Fitting n (lines_of field)
taken_fits ask n field e = let q = given-passed ask n field e in passed_fits n field q.known q.once

-- ---- channels that cover the vertices, handed over

module _ (leads : ℕ → ℕ → Bool) (n : ℕ) (o : Order leads n) (ls : List (List ℕ)) (count : ℕ) (p : List ℕ) (a : Arranged n ls count p)
    (c : Covers leads n ls) where
  sound_arranged : Sound leads n count p
  sound_arranged =
      let s : Channelled leads n (length ls) (channel_of ls) (position_of ls) = channelled leads n o ls c in
      let ch : (v : ℕ) → v < n → quad 0 p v ≡ channel_of ls v = a.channel in
      let po : (v : ℕ) → v < n → quad 1 p v ≡ position_of ls v = a.position in
      record {
        division = record {
          below = λ v l. omega (arith, s.division.below v l, ch v l, a.counted);
          related = λ u v l m d e. s.division.related u v l m d (sym (ch u l) ∙ e ∙ ch v m);
        };
        used = λ k h. let u = s.used k (omega (arith, a.counted)) in (u.0, u.1, ch u.0 u.1 ∙ u.2);
        next = λ u v l m e f. s.next u v l m (sym (ch u l) ∙ e ∙ ch v m) (sym (po v m) ∙ f ∙ ap suc (po u l));
        later = λ u v l m e f. s.later u v l m (sym (ch u l) ∙ e ∙ ch v m) (omega (arith, po u l, po v m));
        apart = λ u v l m e f. s.apart u v l m (sym (ch u l) ∙ e ∙ ch v m) (sym (po u l) ∙ f ∙ po v m);
      }

-- ---- the theorems

module _ (n : ℕ) (table p : List ℕ) (r : Channels) (p' : List ℕ) where
  -- planned channels are a division, if the table is a strict order on the vertices
  pub plan_sound : Plans n table p r p' → r.refusal ≡ 0 → Order (has? 2 table) n → Sound (has? 2 table) n r.count p'
  plan_sound a e o =
      let t = taken n (size_refusal n) (planned (has? 2 table) n) p r p' a e in
      sound_arranged (has? 2 table) n o (planned (has? 2 table) n) r.count p' t.1
      (planned_covers (has? 2 table) n o)

  -- and no division has fewer parts, whatever the table
  pub plan-least : Plans n table p r p' → r.refusal ≡ 0 → (m : ℕ) (part : ℕ → ℕ) → Division (has? 2 table) n m part → r.count ≤ m
  plan-least a e m part d =
      let t = taken n (size_refusal n) (planned (has? 2 table) n) p r p' a e in
      omega (arith, t.1.counted, planned-least (has? 2 table) n m part d)

  module _ (edges longer field : List ℕ) (a : Gives n edges longer table field p r p') (e : r.refusal ≡ 0) where
    abbrev ls : List (List ℕ)
    ls = with_given (has? 2 table) n (lines_of field)

    abbrev ask : ℕ → ℕ → Connection
    ask = connection_by 2 edges longer

    got : (given_refusal ask n field ≡ 0) × Arranged n ls r.count p'
    got = taken n (given_refusal ask n field) ls p r p' a e

    -- where the table is an order, and says what the tables of edges and longer routes do
    module _ (o : Order (has? 2 table) n) (same : (u v : ℕ) → u < n → v < n → leading? (ask u v) ≡ has? 2 table u v) where
      given : Given (has? 2 table) n (lines_of field)
      given = let q = given-passed ask n field got.0 in passed-given n field q.known q.once ask (has? 2 table) same q.led

      -- given channels that are taken, with those planned beside them, are such a division too
      pub given_sound : Sound (has? 2 table) n r.count p'
      given_sound = sound_arranged (has? 2 table) n o ls r.count p' got.1 (given_covers (has? 2 table) n (lines_of field) given o)

      -- which has the given ones whole
      pub given-parts : Whole n (lines_of field) (channel_of ls)
      given-parts = given-whole (has? 2 table) n (lines_of field) given o

    -- and no division that has them whole has fewer parts, whatever the tables
    pub given_fewest : (m : ℕ) (part : ℕ → ℕ) → Division (has? 2 table) n m part → Whole n (lines_of field) part → r.count ≤ m
    given_fewest m part d w =
        omega (arith, got.1.counted, given-least (has? 2 table) n (lines_of field) (taken_fits ask n field got.0) m part d w)
