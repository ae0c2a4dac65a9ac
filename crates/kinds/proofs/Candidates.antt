-- Where columns stand by blocks, candidates are enough: each vertex strictly inside the segment of a cross edge is one. Assumes nothing.
use Rattle.counting.proofs.Prelude.{◌≡◌, refl, sym, ap, ◌∙◌, ◌↔◌, ⊎_elim, true, List, ℕ, ◌+◌, ◌-◌, ◌/◌, ◌≤◌, ◌<◌, min, max, arith}
use Rattle.counting.proofs.Prelude.{length, get_or, eq-eqb, lt-ltb}
use native.Mathlib.Decide.{ℕ_discrete}
use Rattle.counting.specs.Quads.{quad}
use Rattle.counting.proofs.Truth.{and_intro, two_cases}
use Rattle.specification.specs.Sets.{at, has?}
use Rattle.specification.specs.Geometry.{Hit, Widths, own_column}
use Rattle.specification.specs.Chart.{crossing}
use Rattle.masks.proofs.Tables.{at_lt}
use Rattle.geometry.specs.Segment.{point_of, vertex_count}
use Rattle.geometry.proofs.Segments.{inside-low, inside-high, column_past, column_back}
use Rattle.geometry.proofs.Blocks.{lower-or_higher, own-apart}
use Rattle.geometry.proofs.Among.{among_enough}
use Rattle.prefixes.specs.Prefixes.{Prefixes}
use Rattle.kinds.specs.Kinds.{kind_in, strictly?, candidate?, kind_among}
use Rattle.kinds.proofs.Coding.{across, within, between_across}

-- n vertices stand by blocks; `below` has the sets of the vertices below each row, and `left` those left of each channel, as `prefixes`
-- gives them. Between two channels nothing stands: where there are no more, any `left` will do
pub record Ready (W : Widths) (n top count : ℕ) (columns places below left : List ℕ) : Type 0 where
  pub counted : vertex_count columns places ≡ n
  pub few : n ≤ 128
  pub few_channels : count ≤ 128
  pub row_low : (v : ℕ) → v < n → quad 2 places v < top
  pub by_row : (k v : ℕ) → k ≤ top → v < 128 → at 2 below k v ≡ 1 ↔ ((v < n) × (quad 2 places v < k))
  pub channel_low : (v : ℕ) → v < n → quad 0 places v < count
  pub by_channel : 2 < count → Prefixes 2 (min (min n 128) (length places / 4)) (quad 0 places) (count - 1) left
  pub on_own : (v : ℕ) → v < n → get_or columns v 0 ≡ own_column W (quad 0 places v)

-- a column further right is a later channel's
own_back : (W : Widths) (c d : ℕ) → own_column W c < own_column W d → c < d
own_back W c d l =
    lower-or_higher c d
    (λ p. p)
    (λ e. absurd (let q = ap (own_column W) e in omega arith))
    (λ p. absurd (let q = own-apart W d c p in omega arith))

-- in set b and not in set a + 1
strictly_true : (t : List ℕ) (a b w : ℕ) → at 2 t b w ≡ 1 → (at 2 t (a + 1) w ≡ 1 → ⊥) → strictly? t a b w ≡ true
unfolding has?
strictly_true t a b w p q =
    and_intro _ _ (eq-eqb _ _ p) (⊎_elim (λ z. rw z refl) (λ o. absurd (q o)) (two_cases (at 2 t (a + 1) w) (at_lt 2 t (a + 1) w)))

module _ (W : Widths) (n top count : ℕ) (columns places below left : List ℕ) (R : Ready W n top count columns places below left)
    (u v w : ℕ) (hu : u < n) (hv : v < n) (hw : w < n) (apart : quad 0 places u ≡ quad 0 places v → ⊥)
    (h : Hit (point_of columns places u) (point_of columns places v) (point_of columns places w)) where
  -- strictly inside is strictly between by channels
  channel-between :
      (min (quad 0 places u) (quad 0 places v) < quad 0 places w) × (quad 0 places w < max (quad 0 places u) (quad 0 places v))
  channel-between =
      let ou = R.on_own u hu in
      let ov = R.on_own v hv in
      let ow = R.on_own w hw in
      lower-or_higher (quad 0 places u) (quad 0 places v)
      (λ l.
      let c = column_past h (let a = own-apart W _ _ l in omega arith) in
      let p = own_back W (quad 0 places u) (quad 0 places w) (omega (arith, c.0)) in
      let q = own_back W (quad 0 places w) (quad 0 places v) (omega (arith, c.1)) in
      (omega arith, omega arith))
      (λ e. absurd (apart e))
      (λ l.
      let c = column_back h (let a = own-apart W _ _ l in omega arith) in
      let p = own_back W (quad 0 places v) (quad 0 places w) (omega (arith, c.0)) in
      let q = own_back W (quad 0 places w) (quad 0 places u) (omega (arith, c.1)) in
      (omega arith, omega arith))

  inside-candidate : candidate? below left (quad 2 places u) (quad 2 places v) (quad 0 places u) (quad 0 places v) w ≡ true
  unfolding candidate?
  inside-candidate =
      let f = R.few in
      let a : quad 2 places u < quad 2 places w = inside-low h.rises h.inside in
      let b : quad 2 places w < quad 2 places v = inside-high h.rises h.inside in
      let c = channel-between in
      let rv = R.row_low v hv in
      let cu = R.channel_low u hu in
      let cv = R.channel_low v hv in
      let l = R.counted in
      let m = R.few_channels in
      let by = R.by_channel (omega (arith, c.0, c.1)) in
      and_intro _ _ (lt-ltb w 128 (omega arith)) (and_intro _ _
      (strictly_true below (quad 2 places u) (quad 2 places v) w
      ((R.by_row (quad 2 places v) w (omega arith) (omega arith)).1 (hw, b))
      (λ o. let s = ((R.by_row (quad 2 places u + 1) w (omega arith) (omega arith)).0 o).1 in omega arith))
      (strictly_true left (min (quad 0 places u) (quad 0 places v)) (max (quad 0 places u) (quad 0 places v)) w
      ((by.sets_by_key (max (quad 0 places u) (quad 0 places v)) w (omega arith) (omega arith)).1 (omega arith, c.1))
      (λ o.
      let s = ((by.sets_by_key (min (quad 0 places u) (quad 0 places v) + 1) w (omega arith) (omega arith)).0 o).1 in
      omega (arith, c.0))))

-- The kind by candidates is the kind.
pub kind_candidates : (W : Widths) (n top count : ℕ) (columns places below left : List ℕ)
    → Ready W n top count columns places below left → (u v : ℕ) → u < n → v < n → (p q into out_of : ℕ)
    → kind_among (quad 0 places u) (quad 0 places v) p q into out_of columns places below left u v
    ≡ kind_in (quad 0 places u) (quad 0 places v) p q into out_of columns places u v
kind_candidates W n top count columns places below left R u v hu hv p q into out_of = go (ℕ_discrete (quad 0 places u) (quad 0 places v))
  where
    go : Dec (quad 0 places u ≡ quad 0 places v)
        → kind_among (quad 0 places u) (quad 0 places v) p q into out_of columns places below left u v
        ≡ kind_in (quad 0 places u) (quad 0 places v) p q into out_of columns places u v
    go (yes e) = within _ _ _ _ _ _ columns places below left u v e
    go (no ne) =
        between_across _ _ _ _ _ _ columns places below left u v ne
        ∙ ap crossing (among_enough _ (point_of columns places) (vertex_count columns places) u v
        (λ w hw h. inside-candidate W n top count columns places below left R u v w hu hv (let e = R.counted in omega arith) ne h))
        ∙ sym (across (quad 0 places u) (quad 0 places v) p q into out_of columns places below left u v ne)
