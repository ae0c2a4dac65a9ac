-- What the call answers: the bundles of the rule, channel after channel. Assumes nothing.
use Rattle.counting.proofs.Prelude.{◌≡◌, refl, sym, ap, ap₂, ◌∙◌, subst, Bool, true, false, List, ℕ, ◌+◌, ◌*◌, ◌≤◌, ◌<◌, min, arith}
use Rattle.counting.proofs.Prelude.{ltb, length, get_or, lt-ltb}
use Rattle.counting.specs.Quads.{quad}
use Rattle.counting.proofs.Truth.{and_elim, same_truth, and_intro}
use Rattle.specification.specs.Bundles.{Bundle, along, bundles}
use Rattle.bundles.specs.Sides.{table_side?}
use Rattle.bundles.specs.Promise.{fitting, Listed, bundles_in, Bundled}
use Rattle.bundles.specs.Steps.{
  Sets,
  side_in,
  Owned,
  low_side,
  Marked,
  Part,
  State,
  state,
  Planned,
  Turn,
  Starting,
  Vertices,
  Blank,
  Answer,
}
use Rattle.bundles.proofs.Rounds.{bundles-few}
use Rattle.bundles.proofs.Extension.{bundles-within, bundles_none}
use Rattle.bundles.proofs.Owning.{owned_part}
use Rattle.bundles.proofs.Marks.{table-within, marked_all}
use Rattle.bundles.proofs.Standing.{
  side-inside,
  side_same,
  sets_own,
  stands_none,
  holds-listed,
  nothing-listed,
  nothing_fourth,
}

module _ (n channels : ℕ) (edges places : List ℕ) (v : Vertices n channels places) where
  abbrev low : ℕ → ℕ → Bool
  low = low_side n channels edges places

  abbrev table : ℕ → ℕ → Bool
  table = table_side? n edges (quad 0 places) (quad 1 places)

  abbrev rule : (ℕ → ℕ → Bool) → List Bundle
  rule side = bundles n side (quad 0 places) (quad 1 places) (quad 2 places) channels

  abbrev answer : List Bundle
  answer = bundles_in n edges channels (quad 0 places) (quad 1 places) (quad 2 places)

  -- an edge of these channels is between two of the n vertices, of one channel
  low-within : (u v : ℕ) → low u v ≡ true → (table u v ≡ true) × (u < n) × (v < n)
  unfolding low_side
  low-within u v e =
      let p = (and_elim (table u v) (ltb (quad 0 places u) channels) e).0 in
      let q = table-within n (quad 0 places) (quad 1 places) edges u v p in
      (p, q.0, q.1)

  -- these are the edges at a vertex of these channels
  low_same : (d : Bool) (v w : ℕ) → quad 0 places v < channels → along d low v w ≡ along d table v w
  unfolding low_side
  low_same true v w h =
      same_truth (low w v) (table w v) (λ e. (low-within w v e).0)
      (λ e. let q = (table-within n (quad 0 places) (quad 1 places) edges w v e).2 in
      and_intro _ _ e (lt-ltb (quad 0 places w) channels (omega arith)))
  low_same false v w h =
      same_truth (low v w) (table v w) (λ e. (low-within v w e).0) (λ e. and_intro _ _ e (lt-ltb (quad 0 places v) channels h))

  -- so they have the same bundles there
  rule-same : rule low ≡ answer
  unfolding bundles_in
  rule-same =
      bundles-within n low table (quad 0 places) (quad 0 places) (quad 1 places) (quad 1 places)
      (quad 2 places) (quad 2 places) channels (λ d v w l a b. low_same d v w l) (λ v l. refl) (λ v l. refl) (λ v l. refl)
      channels (omega arith)

  -- no edge, no bundle
  pub answer_none : ((u v : ℕ) → u < n → v < n → table u v ≡ false) → (spans number : List ℕ) → Blank n spans number
      → Answer n edges channels places 0 spans number
  unfolding bundles_in
  answer_none none spans number b = record {
    listed = subst (λ (bs : List Bundle). Listed n bs 0 spans number)
        (sym (bundles_none n table (quad 0 places) (quad 1 places) (quad 2 places) none channels))
        (nothing-listed n spans number b);
    fourth = nothing_fourth n spans number b;
  }

  -- the work lists are filled, and the others blank
  module _ (sets load : List ℕ) (m : Marked 2 n low n 0 sets load) (own order spans number : List ℕ) (owned : Owned 2 channels places n own)
      (room : n ≤ length order) (blank : Blank n spans number) where
    in_masks : Sets 2 n low sets
    in_masks = marked_all 2 n v.small low n sets load (λ a b e. (low-within a b e).1) m

    inside : (u v : ℕ) → low u v ≡ true → (u < n) × (v < n)
    inside u v e = let p = low-within u v e in (p.1, p.2)

    edges-own : Sets 2 n (side_in 2 n sets) sets
    edges-own = sets_own 2 n v.small sets low inside in_masks

    pub answer-start : Starting channels own sets places order (state 0 spans number load)
    unfolding bundles
    answer-start = record {
      n = n;
      ready = record { small = v.small; long = v.long; masks = edges-own };
      room = room;
      low = v.low;
      owned = owned;
      planned = record {
        stands = stands_none 2 n v.small (side_in 2 n sets) (side-inside 2 n v.small sets) sets load spans number edges-own m.loads
            blank;
      };
    }

    masks_same : (d : Bool) (a b : ℕ) → a < n → b < n → along d (side_in 2 n sets) a b ≡ along d low a b
    masks_same true a b l k = side_same 2 n v.small sets low inside in_masks b a k (let h = v.small in omega arith)
    masks_same false a b l k = side_same 2 n v.small sets low inside in_masks a b l (let h = v.small in omega arith)

    pub answer-all : (s : State) → ((t : Starting channels own sets places order (state 0 spans number load))
        → Planned t.n places sets channels s)
        → Answer n edges channels places s.count s.spans s.number
    unfolding answer-start
    answer-all s planned =
        let o = (planned answer-start).stands.holds in
        record {
          listed = subst (λ (bs : List Bundle). Listed n bs s.count s.spans s.number)
              (bundles-within n (side_in 2 n sets) low (quad 0 places) (quad 0 places) (quad 1 places)
              (quad 1 places) (quad 2 places) (quad 2 places) channels
              (λ d v w l a b. masks_same d v w a b) (λ v l. refl) (λ v l. refl) (λ v l. refl) channels (omega arith) ∙ rule-same)
              (holds-listed n (rule (side_in 2 n sets)) s
              (bundles-few n (side_in 2 n sets) (quad 0 places) (quad 1 places) (quad 2 places) channels) o);
          fourth = λ b. o.entry 3 b (omega arith);
        }

-- ---- the next channel

module _ (channels : ℕ) (own sets places order : List ℕ) (s : State) (m : Starting channels own sets places order s)
    (c : ℕ) (t : State) (low : c < channels) (p : Planned m.n places sets c t) where
  pub lower-part : Part m.n places c (get_or own (2 * c) 0) 0
  lower-part = owned_part 2 m.n channels places own m.owned c low 0 (get_or own (2 * c) 0) 0 (omega arith)
      (ap (λ (i : ℕ). get_or own i 0) (let e : 2 * c ≡ 2 * c + 0 = omega arith in e)) refl

  pub upper_part : Part m.n places c (get_or own (2 * c + 1) 0) 64
  upper_part = owned_part 2 m.n channels places own m.owned c low 1 (get_or own (2 * c + 1) 0) 64 (omega arith)
      refl refl

  abbrev pub turn : Turn c (get_or own (2 * c) 0) (get_or own (2 * c + 1) 0) sets places t
  turn = record { n = m.n; ready = m.ready; lower = lower-part; upper = upper_part; planned = p }

-- ---- the call

-- the lists are cleared, to the lengths that they had, and then have the bundles
pub bundled_law : (n : ℕ) (edges : List ℕ) (channels : ℕ) (places spans number : List ℕ) (a b k top r : ℕ)
    (spans' number' : List ℕ) → a ≡ length spans → b ≡ length number
    → k ≡ fitting n (length places) a b → top ≡ min channels 128
    → Answer k edges top places r spans' number' → length spans' ≡ a → length number' ≡ b
    → Bundled n edges channels places spans number r spans' number'
bundled_law n edges channels places spans number a b k top r spans' number' ea eb ek et l fa fb = record {
  listed = subst (λ (j : ℕ). Listed j (bundles_in j edges (min channels 128) (quad 0 places) (quad 1 places)
      (quad 2 places)) r spans' number') (ek ∙ ap₂ (fitting n (length places)) ea eb)
      (subst (λ (j : ℕ). Listed k (bundles_in k edges j (quad 0 places) (quad 1 places) (quad 2 places)) r
      spans' number') et l.listed);
  fourth = l.fourth;
  long = (fa ∙ ea, fb ∙ eb);
}
