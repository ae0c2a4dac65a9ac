-- The answers of the public calls, and channels planned beside given ones. Assumes nothing.
use Rattle.counting.proofs.Prelude.{◌≡◌, refl, sym, ap, ◌∙◌, subst, ◌≢◌, Bool, true, List, [], ℕ, suc, ◌+◌, ◌*◌, ◌≤◌, ◌<◌}
use Rattle.counting.proofs.Prelude.{min, arith, length, replicate}
use mathlib.Core.Path.{fun_ext}
use mathlib.Core.Option.{some, none-ne-some}
use mathlib.Core.List.{flatten}
use native.Mathlib.Decide.{dec_lt}
use Rattle.specification.specs.Planning.{Held, predecessor_of, matching, planned_to, planned}
use Rattle.specification.specs.Channels.{has}
use Rattle.specification.specs.Given.{held_in as held_by, masked, without, beside, with_given}
use Rattle.specification.specs.Sets.{member?, has?}
use Rattle.matching.specs.Given.{Fitting}
use Rattle.matching.proofs.Lists.{times-both}
use Rattle.matching.proofs.Chains.{begun-same}
use Rattle.matching.proofs.Asked.{asked_matching}
use Rattle.matching.proofs.Same.{planned-same}
use Rattle.matching.proofs.Beside.{given_none, none_given, given_fits}
use Rattle.masks.proofs.Members.{member_zeros}
use Rattle.search.specs.Tabled.{Tabled}
use Rattle.planning.specs.Arranged.{Arranged, Kept, Added}
use Rattle.planning.specs.Steps.{held_in, channels_in, free_in, Apart, Cleared, Found}
use Rattle.planning.specs.Promise.{Channels, beside_in, Besides, Chained}
use Rattle.planning.proofs.Held.{held_past, held_tabled}
use Rattle.planning.proofs.Laying.{kept_same, kept_on}
use Rattle.planning.proofs.Adding.{added_kept, arranged_both}

-- ---- the predecessors

-- nothing is held
pub none_found : (leads : ℕ → ℕ → Bool) (n : ℕ) (P : List ℕ) → Tabled (matching leads n) P → Found (member? (replicate 2 0) 0) leads n P
unfolding masked
none_found leads n P t = record { by = leads; same = λ u v l m. rw (member_zeros 2 u, member_zeros 2 v) refl; tabled = t }

pub found_cleared : (held : ℕ → Bool) (table left : List ℕ) (n m : ℕ) (P : List ℕ) → n ≤ 128 → m ≡ n → Cleared held m table left
    → Tabled (matching (has? 2 left) n) P → Found held (has? 2 table) n P
found_cleared held table left n m P small em c t =
    record { by = has? 2 left; same = λ u v l k. c.each u v (omega arith) (omega arith); tabled = t }

module _ (held : ℕ → Bool) (leads : ℕ → ℕ → Bool) (n : ℕ) (P : List ℕ) (small : n ≤ 128) (f : Found held leads n P) where
  abbrev rule : List Held
  rule = matching f.by n

  sound : (v p : ℕ) → predecessor_of rule v ≡ some p → (p < n) × (f.by p v ≡ true)
  sound = (asked_matching f.by n).sound

  alike : (v : ℕ) → v < n → predecessor_of (held_in n P) v ≡ predecessor_of rule v
  alike = held_tabled n rule P small f.tabled (λ v p e. (sound v p e).0)

  pub found_apart : (m : ℕ) → m ≡ n → Apart held m P
  found_apart m em = subst (λ x. Apart held x P) (sym em) (record { leads = leads; sound = λ v p e. go v p e (dec_lt v n) })
    where
      go : (v p : ℕ) → predecessor_of (held_in n P) v ≡ some p → Dec (v < n) → (p < n) × (masked held leads p v ≡ true)
      go v p e (yes l) = let s = sound v p (sym (alike v l) ∙ e) in (s.0, sym (f.same p v s.0 l) ∙ s.1)
      go v p e (no d) = absurd (none-ne-some p (sym (held_past P n v (omega arith)) ∙ e))

  pub found_planned : channels_in n P n ≡ planned (masked held leads) n
  unfolding planned planned_to matching
  found_planned = begun-same n (held_in n P) rule alike (suc n) n (omega arith) ∙ planned-same n f.by (masked held leads) f.same

-- ---- the answer

module _ (n : ℕ) (table held : List ℕ) (first : ℕ) (p : List ℕ) (r : Channels) where
  -- no room, or too many before
  pub beside-refused : (k : ℕ) → k ≢ 0 → (4 * min n 128 ≤ length p → first < 128 → ⊥) → (length p < 4 * min n 128 → k ≡ 8)
      → (4 * min n 128 ≤ length p → 128 ≤ first → k ≡ 2) → r ≡ record { refusal = k; count = 0 } → Besides n table held first p r p
  beside-refused k d never short many e =
      let z : r.refusal ≡ k = ap (λ (x : Channels). x.refusal) e in
      record {
        refused = λ l m. absurd (never l m);
        short = λ l. z ∙ short l;
        many = λ l m. z ∙ many l m;
        none = λ _. (ap (λ (x : Channels). x.count) e, refl);
        counted = λ q. absurd (d (sym z ∙ q));
        added = λ q. absurd (d (sym z ∙ q));
      }

  pub beside-all : (p' : List ℕ) (m : ℕ) (P : List ℕ) → m ≡ min n 128 → 4 * m ≤ length p → first < 128
      → Found (member? held 0) (has? 2 table) (min n 128) P
      → r.refusal ≡ 0 → (r.count ≡ first + length (free_in (member? held 0) m P)) × Added first (free_in (member? held 0) m P) p p'
      → Besides n table held first p r p'
  beside-all p' m P em room low f z a =
      let e : free_in (member? held 0) m P ≡ beside_in (min n 128) table held =
      ap (λ x. free_in (member? held 0) x P) em
      ∙ ap (without (member? held 0)) (found_planned (member? held 0) (has? 2 table) (min n 128) P (omega arith) f) in record {
        refused = λ _ _. z;
        short = λ l. absurd (omega arith);
        many = λ _ l. absurd (omega arith);
        none = λ d. absurd (d z);
        counted = λ _. a.0 ∙ ap (λ x. first + length x) e;
        added = λ _. subst (λ x. Added first x p p') e a.1;
      }

-- ---- beside given channels

module _ (n : ℕ) (table held : List ℕ) (given : List (List ℕ)) (same : (v : ℕ) → member? held 0 v ≡ held_by given v) where
  -- the set has the vertices of the given channels
  beside_is : beside_in n table held ≡ beside (has? 2 table) n given
  unfolding beside
  beside_is = ap (λ h. without h (planned (masked h (has? 2 table)) n)) (fun_ext same)

  -- so the places that have these have all channels in the end
  pub beside-given : (k first : ℕ) (p : List ℕ) (r : Channels) (p' : List ℕ) → min k 128 ≡ n → Fitting n given → Arranged n given first p
      → Besides k table held first p r p' → r.refusal ≡ 0
      → Arranged n (with_given (has? 2 table) n given) r.count p' × Kept n p p'
  unfolding with_given
  beside-given k first p r p' em f a b z =
      let e : beside_in (min k 128) table held ≡ beside (has? 2 table) n given = ap (λ x. beside_in x table held) em ∙ beside_is in
      let g : Added first (beside (has? 2 table) n given) p p' = subst (λ x. Added first x p p') e (b.added z) in
      let t : Fitting n (with_given (has? 2 table) n given) = given_fits (has? 2 table) n given f in (
        arranged_both first given (beside (has? 2 table) n given) p p' g t.once n r.count
            (b.counted z ∙ ap (λ x. first + length x) e) a,
        added_kept n first (beside (has? 2 table) n given) p p'
            (λ v l. omega (arith, times-both v given (beside (has? 2 table) n given), t.only v l)) g,
      )

-- ---- with none given

-- no room
pub chained-short : (n : ℕ) (table p : List ℕ) (r : Channels) → length p < 4 * min n 128 → r ≡ record { refusal = 8; count = 0 }
    → Chained n table p r p
chained-short n table p r h e =
    let z : r.refusal ≡ 8 = ap (λ (x : Channels). x.refusal) e in
    record {
      refused = λ l. absurd (omega arith);
      short = λ _. (z, refl);
      none = λ _. ap (λ (x : Channels). x.count) e;
      arranged = λ l. absurd (omega arith);
      kept = kept_same (min n 128) p;
    }

-- nothing is held, and none stands before
pub chained-all : (n : ℕ) (table p : List ℕ) (r : Channels) (p₁ p' : List ℕ) → 4 * min n 128 ≤ length p → Arranged (min n 128) [] 0 p₁
    → Kept (min n 128) p p₁ → Besides n table (replicate 2 0) 0 p₁ r p' → Chained n table p r p'
unfolding held_by has flatten
chained-all n table p r p₁ p' h a g b =
    let z : r.refusal ≡ 0 = b.refused (omega (arith, g.long)) (omega arith) in
    let q = beside-given (min n 128) table (replicate 2 0) [] (member_zeros 2) n 0 p₁ r p' refl
    (none_given (has? 2 table) (min n 128)).fits a b z in record {
      refused = λ _. z;
      short = λ l. absurd (omega arith);
      none = λ d. absurd (d z);
      arranged = λ _. subst (λ x. Arranged (min n 128) x r.count p') (given_none (has? 2 table) (min n 128)) q.0;
      kept = kept_on (min n 128) p p₁ g p' q.1;
    }
