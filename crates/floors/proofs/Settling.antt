-- From the floors to the rows and the sets by row. Assumes nothing.
use Rattle.counting.proofs.Prelude.{◌≡◌, refl, sym, ◌∙◌, ⊎_elim, ◌↔◌, Bool, true, false, true≢false, not, List}
use Rattle.counting.proofs.Prelude.{ℕ, ◌+◌, ◌*◌, ◌/◌, ◌≤◌}
use Rattle.counting.proofs.Prelude.{◌<◌, min, arith, eqb, ltb, length, get_or, get_or-eq_default, eqb-true, ltb-false, not-false}
use Rattle.counting.specs.Quads.{quad}
use Rattle.counting.proofs.Truth.{lt-or-le, or_neither}
use Rattle.counting.proofs.Above.{above-le, above_ext}
use Rattle.counting.proofs.Somes.{some_found}
use Rattle.counting.proofs.Falsity.{not-true}
use Rattle.specification.specs.Count.{some, above}
use Rattle.specification.specs.Sets.{at, has?}
use Rattle.specification.specs.Checks.{unfloored?}
use Rattle.specification.specs.Rows.{rows_used}
use Rattle.rows.specs.Levels.{level}
use Rattle.rows.proofs.Compaction.{ranked_below, ranked-rule}
use Rattle.specification.specs.Lent.{KeptFrom}
use Rattle.prefixes.specs.Prefixes.{last_set, Prefixes}
use Rattle.floors.specs.Steps.{Set, row_in, Slope, Arrived, Liftable, Settled}
use Rattle.floors.proofs.Rising.{level_rises, arc_has}

-- ---- the floors

-- floors that are not refused: one a vertex, and none over 127
pub floors_good : (n : ℕ) (floors : List ℕ) → unfloored? n true floors ≡ false
    → (length floors ≡ n) × ((v : ℕ) → get_or floors v 0 ≤ 127)
unfolding unfloored?
floors_good n floors h =
    let o = or_neither (not (eqb (length floors) n)) (some (length floors) (λ v. ltb 127 (get_or floors v 0))) h in (
      eqb-true _ _ (not-false _ o.0),
      λ v. ⊎_elim
          (λ l. ltb-false _ _ (not-true _ (λ t. true≢false (sym (some_found (length floors) high v l t) ∙ o.1))))
          (λ l. omega (arith, get_or-eq_default floors 0 l))
          (lt-or-le v (length floors)),
    )
  where
    high : ℕ → Bool
    high x = ltb 127 (get_or floors x 0)

-- ---- the whole

module _ (e below : List ℕ) (n top places : ℕ) (ok : Liftable e below n top places) (floors : List ℕ)
    (good : (v : ℕ) → get_or floors v 0 ≤ 127) where
  abbrev floor : ℕ → ℕ
  floor v = get_or floors v 0

  few : (v : ℕ) → v < n → level (has? 2 e) n v < n
  few v h = omega (arith, ok.levels.all v h, ok.levels.few)

  up : (u v : ℕ) → u < n → v < n → has? 2 e u v ≡ true → level (has? 2 e) n u < level (has? 2 e) n v
  up u v hu hv i = level_rises e below n top places ok u v (arc_has e below n top places ok u v hu hv i)

  pub slope_of : Slope e n floor
  slope_of = record {
    inside = ok.inside;
    rule = ranked-rule (has? 2 e) floor n (level (has? 2 e) n) few up ok.inside.small;
    low = λ v h. omega (arith, ranked_below (has? 2 e) floor n (level (has? 2 e) n) few up 127 (λ x l. good x) v h, ok.inside.small);
  }

  module _ (p s p' : List ℕ) (begun : Set n floors p s) (came : Arrived e n floor s p') where
    abbrev R : ℕ → ℕ
    R = row_in e n floor

    used_rows : above n (λ v. true) (quad 2 p') ≡ rows_used (has? 2 e) floor n
    used_rows = above_ext n (λ v. true) (λ v. true) (quad 2 p') R (λ v l. refl) (λ v l t. came.rows v l)

    pub used_few : above n (λ v. true) (quad 2 p') ≤ n + 127
    used_few =
        above-le n (λ v. true) (quad 2 p') (n + 127)
        (λ v l t. omega (arith, came.rows v l, ranked_below (has? 2 e) floor n (level (has? 2 e) n) few up 127 (λ x h. good x) v l))

    module _ (used last : ℕ) (b b' : List ℕ) (counted : used ≡ above n (λ v. true) (quad 2 p')) (room : 2 * (n + 127) + 2 ≤ length b')
        (long : 4 * n ≤ length p') (filled : last ≡ last_set used (length b'))
        (sets : Prefixes 2 (min (min n 128) (length p' / 4)) (quad 2 p') last b') (stays : KeptFrom (2 * last + 2) b b') where
      all : min (min n 128) (length p' / 4) ≡ n
      all = omega (arith, long, ok.inside.small)

      whole : last ≡ used
      whole = omega (arith, filled, room, counted, used_few, ok.inside.small)

      keyed : (k v : ℕ) → k ≤ used → v < 128 → at 2 b' k v ≡ 1 ↔ ((v < n) × (R v < k))
      keyed k v hk hv =
          let i = sets.sets_by_key k v (omega (arith, whole, hk)) (omega (arith, hv)) in (
            (λ h. let r = i.0 h in let l : v < n = omega (arith, r.0, all) in (l, omega (arith, r.1, came.rows v l))),
            λ h. i.1 (omega (arith, h.0, all), omega (arith, h.1, came.rows v h.0)),
          )

      pub settle : Settled n floors e b p (record { refusal = 0; used = used }) b' p'
      settle = record {
        refusal = refl;
        rows = came.rows;
        used = counted ∙ used_rows;
        below = keyed;
        past = λ i h. stays i (omega (arith, whole, h));
        others = λ k v h o. came.others k v h o ∙ begun.others k v h o;
      }
