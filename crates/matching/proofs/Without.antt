-- Laws of a channel by its number, and of the channels that have no held vertex. Assumes nothing.
use Rattle.counting.proofs.Prelude.{◌≡◌, refl, sym, ap, ◌∙◌, Bool, true, false, true≢false, not, ◌||◌, ℕ, zero, suc, ◌+◌, ◌≤◌, ◌<◌, arith}
use Rattle.counting.proofs.Prelude.{length, get_or, length-append, ltb-true, not-true}
use mathlib.Core.List.{List, [], ◌∷◌, ◌++◌, flatten, append-nil}
use native.Mathlib.Nat.{not-suc-le-zero}
use Rattle.counting.proofs.Truth.{and_intro, and_elim}
use Rattle.counting.proofs.Booleans.{rest_of}
use Rattle.specification.specs.Channels.{times, has, channel_from, every}
use Rattle.specification.specs.Given.{unheld, without}
use Rattle.matching.specs.Lists.{full}
use Rattle.matching.proofs.Lists.{times_none, times_other, times-append, has_true, times_hasnt}
use Rattle.matching.proofs.Ordered.{channel-here, channel_on, channel_range, further}

-- channels that are not empty are no more than their vertices
pub full-few : (ls : List (List ℕ)) → every full ls ≡ true → length ls ≤ length (flatten ls)
unfolding every flatten
full-few [] e = omega arith
full-few (l ∷ ls) e =
    let q = and_elim (full l) (every full ls) e in
    omega (arith, full-few ls q.1, ltb-true 0 (length l) q.0, length-append l (flatten ls))

-- ---- the k-th channel

-- a vertex of it stands among all
pub line_in : (k : ℕ) (ls : List (List ℕ)) (v : ℕ) → k < length ls → has v (get_or ls k []) ≡ true → 0 < times v (flatten ls)
unfolding flatten
line_in k [] v l h = absurd (not-suc-le-zero l)
line_in zero (m ∷ ls) v l h = omega (arith, times-append v m (flatten ls), has_true v m h)
line_in (suc k) (m ∷ ls) v l h = omega (arith, times-append v m (flatten ls), line_in k ls v (omega arith) h)

-- and has its number, if it stands there once
pub line-channel : (c k : ℕ) (ls : List (List ℕ)) (v : ℕ) → times v (flatten ls) ≤ 1 → k < length ls → has v (get_or ls k []) ≡ true
    → channel_from c ls v ≡ c + k
unfolding flatten
line-channel c k [] v o l h = absurd (not-suc-le-zero l)
line-channel c zero (m ∷ ls) v o l h = channel-here c m ls v h ∙ omega arith
line-channel c (suc k) (m ∷ ls) v o l h =
    channel_on c m ls v (times_hasnt v m (omega (arith, times-append v m (flatten ls), line_in k ls v (omega arith) h)))
    ∙ line-channel (suc c) k ls v (omega (arith, times-append v m (flatten ls))) (omega arith) h ∙ omega arith

-- and who has its number stands in it
pub channel-line : (c k : ℕ) (ls : List (List ℕ)) (v : ℕ) → 0 < times v (flatten ls) → channel_from c ls v ≡ c + k
    → has v (get_or ls k []) ≡ true
unfolding flatten
channel-line c k [] v h e = absurd (omega (arith, times_none v))
channel-line c k (m ∷ ls) v h e = go (has v m) refl k e (λ j o q. channel-line (suc c) j ls v o q)
  where
    go : (b : Bool) → has v m ≡ b → (k : ℕ) → channel_from c (m ∷ ls) v ≡ c + k
        → ((j : ℕ) → 0 < times v (flatten ls) → channel_from (suc c) ls v ≡ suc c + j → has v (get_or ls j []) ≡ true)
        → has v (get_or (m ∷ ls) k []) ≡ true
    go true p zero e ih = p
    go true p (suc k) e ih = absurd (omega (arith, channel-here c m ls v p))
    go false p zero e ih = absurd (omega (arith, channel_on c m ls v p, (channel_range (suc c) ls v (further v m ls p h)).0))
    go false p (suc k) e ih = ih k (further v m ls p h) (sym (channel_on c m ls v p) ∙ e ∙ omega arith)

-- ---- channels without held vertices

unheld-times : (held : ℕ → Bool) (w : ℕ) (l : List ℕ) → unheld held l ≡ true → held w ≡ true → times w l ≡ 0
unfolding unheld
unheld-times held w [] e h = times_none w
unheld-times held w (x ∷ l) e h =
    let q = and_elim (not (held x)) (unheld held l) e in
    times_other x w l (λ d. true≢false (sym h ∙ ap held d ∙ not-true (held x) q.0)) ∙ unheld-times held w l q.1 h

module _ (held : ℕ → Bool) where
  -- all vertices of the channel are held, or none is
  abbrev pub alike : List ℕ → Bool
  alike l = unheld held l || unheld (λ v. not (held v)) l

  without_yes : (l : List ℕ) (ls : List (List ℕ)) → unheld held l ≡ true → without held (l ∷ ls) ≡ l ∷ without held ls
  unfolding without
  without_yes l ls e = rw e

  without_no : (l : List ℕ) (ls : List (List ℕ)) → unheld held l ≡ false → without held (l ∷ ls) ≡ without held ls
  unfolding without
  without_no l ls e = rw e

  -- what holds of the channels left out and of those kept
  module _ (Q : List (List ℕ) → List (List ℕ) → Type 0) (none : Q [] [])
      (kept : (l : List ℕ) (ls : List (List ℕ)) → unheld held l ≡ true → Q ls (without held ls) → Q (l ∷ ls) (l ∷ without held ls))
      (left : (l : List ℕ) (ls : List (List ℕ)) → unheld held l ≡ false → Q ls (without held ls) → Q (l ∷ ls) (without held ls)) where
    without_ind : (ls : List (List ℕ)) → Q ls (without held ls)
    unfolding without
    without_ind [] = none
    without_ind (l ∷ ls) = go (unheld held l) refl (without_ind ls)
      where
        go : (b : Bool) → unheld held l ≡ b → Q ls (without held ls) → Q (l ∷ ls) (without held (l ∷ ls))
        go true e ih = rw e (kept l ls e ih)
        go false e ih = rw e (left l ls e ih)

  pub without-times : (w : ℕ) (ls : List (List ℕ)) → times w (flatten (without held ls)) ≤ times w (flatten ls)
  unfolding flatten
  without-times w = without_ind (λ a b. times w (flatten b) ≤ times w (flatten a)) (omega arith)
      (λ l ls e ih. omega (arith, times-append w l (flatten ls), times-append w l (flatten (without held ls))))
      (λ l ls e ih. omega (arith, times-append w l (flatten ls)))

  pub without-held : (w : ℕ) → held w ≡ true → (ls : List (List ℕ)) → times w (flatten (without held ls)) ≡ 0
  unfolding flatten
  without-held w h = without_ind (λ a b. times w (flatten b) ≡ 0) (times_none w)
      (λ l ls e ih. omega (arith, times-append w l (flatten (without held ls)), unheld-times held w l e h))
      (λ l ls e ih. ih)

  -- a vertex that is not held loses nothing, if each channel is of one kind
  pub without_other : (w : ℕ) → held w ≡ false → (ls : List (List ℕ)) → every alike ls ≡ true
      → times w (flatten (without held ls)) ≡ times w (flatten ls)
  unfolding flatten every
  without_other w h = without_ind (λ a b. every alike a ≡ true → times w (flatten b) ≡ times w (flatten a)) (λ _. refl)
      (λ l ls e ih t. omega (
        arith,
        times-append w l (flatten ls),
        times-append w l (flatten (without held ls)),
        ih (and_elim (alike l) (every alike ls) t).1,
      ))
      (λ l ls e ih t.
      let q = and_elim (alike l) (every alike ls) t in
      omega (
        arith,
        times-append w l (flatten ls),
        unheld-times (λ v. not (held v)) w l (rest_of (unheld held l) (unheld (λ v. not (held v)) l) e q.0) (ap not h),
        ih q.1,
      ))

  pub without-every : (p : List ℕ → Bool) (ls : List (List ℕ)) → every p ls ≡ true → every p (without held ls) ≡ true
  unfolding every
  without-every p = without_ind (λ a b. every p a ≡ true → every p b ≡ true) (λ e. e)
      (λ l ls e ih t. let q = and_elim (p l) (every p ls) t in and_intro (p l) (every p (without held ls)) q.0 (ih q.1))
      (λ l ls e ih t. ih (and_elim (p l) (every p ls) t).1)

  pub without_all : (ls : List (List ℕ)) → every (unheld held) ls ≡ true → without held ls ≡ ls
  unfolding every
  without_all = without_ind (λ a b. every (unheld held) a ≡ true → b ≡ a) (λ e. refl)
      (λ l ls e ih t. ap (λ x. l ∷ x) (ih (and_elim (unheld held l) (every (unheld held) ls) t).1))
      (λ l ls e ih t. absurd (true≢false (sym (and_elim (unheld held l) (every (unheld held) ls) t).0 ∙ e)))

  without-both : (a b : List (List ℕ)) → without held (a ++ b) ≡ without held a ++ without held b
  without-both a b = without_ind (λ x y. without held (x ++ b) ≡ y ++ without held b) refl
      (λ l ls e ih. without_yes l (ls ++ b) e ∙ ap (λ x. l ∷ x) ih)
      (λ l ls e ih. without_no l (ls ++ b) e ∙ ih) a

  -- a channel more at the end
  pub without_snoc : (ls : List (List ℕ)) (l : List ℕ) → unheld held l ≡ true → without held (ls ++ (l ∷ [])) ≡ without held ls ++ (l ∷ [])
  unfolding without
  without_snoc ls l e = without-both ls (l ∷ []) ∙ ap (λ x. without held ls ++ x) (without_yes l [] e)

  pub without_skip : (ls : List (List ℕ)) (l : List ℕ) → unheld held l ≡ false → without held (ls ++ (l ∷ [])) ≡ without held ls
  unfolding without
  without_skip ls l e = without-both ls (l ∷ []) ∙ ap (λ x. without held ls ++ x) (without_no l [] e) ∙ append-nil (without held ls)
