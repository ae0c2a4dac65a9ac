-- No edge's polyline meets a vertex but its ends. Assumes nothing.
use Rattle.counting.proofs.Prelude.{◌≡◌, refl, sym, ap, ◌∙◌, ◌≢◌, ◌⊎◌, inl, inr, ⊎_elim, List, [], ◌∷◌, ℕ, ◌+◌, ◌-◌, ◌≤◌, ◌<◌, arith}
use native.Mathlib.Decide.{ℕ_discrete}
use Rattle.counting.proofs.Truth.{lt-or-le}
use Rattle.specification.specs.Geometry.{Point, point, On, Meets, here, later, Blocked, Widths, track_at, Clear, straight, bend_row}
use Rattle.specification.specs.Geometry.{by_track}
use Rattle.geometry.specs.Placement.{Placement}
use Rattle.geometry.specs.Polylines.{bent, Drawn, path, track, cross, bend_right, bend_left}
use Rattle.geometry.proofs.Segments.{Between, column_between, on_swap, row_low, row-high, column_low, column_high, row-level}
use Rattle.geometry.proofs.Segments.{column_level, at_row, at_column}
use Rattle.geometry.proofs.Blocks.{lower-or_higher}

-- a polyline is met where one of its segments is
met_1 : {a b p : Point} → Meets (a ∷ b ∷ []) p → On a b p
met_1 {a = a} {b = b} {p = p} (here o) = o
met_1 {a = a} {b = b} {p = p} (later x5) = elim x5 [ ]

met_2 : {a b c p : Point} {X : Type 0} → (On a b p → X) → (On b c p → X) → Meets (a ∷ b ∷ c ∷ []) p → X
met_2 f g (here o) = f o
met_2 f g (later m) = g (met_1 m)

met_3 : {a b c d p : Point} {X : Type 0} → (On a b p → X) → (On b c p → X) → (On c d p → X) → Meets (a ∷ b ∷ c ∷ d ∷ []) p → X
met_3 f g h (here o) = f o
met_3 f g h (later m) = met_2 g h m

-- a column beyond the left gap and not beyond track j is a track: which, and where that stands
track_number : (x y g j t : ℕ) → j < t → t + g ≤ x → track_at x g j ≤ y → y + g < x → x - (g + 1) - y < t
track_number x y g j t h r l k = omega arith

track_column : (x y g : ℕ) → y + g < x → y ≡ track_at x g (x - (g + 1) - y)
track_column x y g k = omega arith

module _ (n : ℕ) (at : ℕ → Point) (channel position own : ℕ → ℕ) (W : Widths) (P : Placement n at channel position own W) where
  -- vertices of a channel in one row are the same
  same_row : (u w : ℕ) → u < n → w < n → channel u ≡ channel w → (at w).row ≡ (at u).row → w ≡ u
  same_row u w hu hw e r =
      lower-or_higher (position u) (position w)
      (λ l. absurd (omega (arith, P.rows_rise u w hu hw e l)))
      (λ q. sym (P.alone u w hu hw e q))
      (λ l. absurd (omega (arith, P.rows_rise w u hw hu (sym e) l)))

  same-channel : (u w : ℕ) → u < n → w < n → (at w).column ≡ (at u).column → channel u ≡ channel w
  same-channel u w hu hw e = P.own_differ u w hu hw (sym (P.on_own u hu) ∙ sym e ∙ P.on_own w hw)

  -- and vertices of one point
  same_point : (u w : ℕ) → u < n → w < n → at w ≡ at u → w ≡ u
  same_point u w hu hw e =
      same_row u w hu hw (same-channel u w hu hw (ap (λ (p : Point). p.column) e)) (ap (λ (p : Point). p.row) e)

  -- no vertex stands in a left gap
  in_left_gap : (u w : ℕ) → u < n → w < n → own (channel u) ≤ (at w).column + W.left_gap (channel u) → (at w).column < own (channel u) → ⊥
  in_left_gap u w hu hw l h = P.left_free u w (own (channel u) - 1 - (at w).column) hu hw (omega arith) (omega (arith, P.on_own w hw))

  abbrev track_of : ℕ → ℕ → ℕ
  track_of u j = track_at (own (channel u)) (W.left_gap (channel u)) j

  module _ (u v : ℕ) (hu : u < n) (hv : v < n) where
    -- next to each other in a channel
    path-clear : channel u ≡ channel v → position v ≡ position u + 1 → Clear n at u v (straight (at u) (at v))
    path-clear e q = record {
      clear = λ w hw nu nv m.
          let o : On (at u) (at v) (at w) = met_1 m in
          let rise : (at u).row < (at v).row = P.rows_rise u v hu hv e (omega arith) in
          let upright : (at u).column ≡ (at v).column = P.on_own u hu ∙ ap own e ∙ sym (P.on_own v hv) in
          let k : channel u ≡ channel w = same-channel u w hu hw (column_level o upright) in
          lower-or_higher (position u) (position w)
          (λ l. lower-or_higher (position v) (position w)
          (λ g. omega (arith, P.rows_rise v w hv hw (sym e ∙ k) g, row-high o (omega arith)))
          (λ g. nv (sym (P.alone v w hv hw (sym e ∙ k) g)))
          (λ g. omega arith))
          (λ g. nu (sym (P.alone u w hu hw k g)))
          (λ l. omega (arith, P.rows_rise w u hw hu (sym k) l, row_low o (omega arith)));
    }

    -- a straight edge that passed the test
    straight-clear : (at u).row < (at v).row → (Blocked at n u v → ⊥) → Clear n at u v (straight (at u) (at v))
    straight-clear rise free = record {
      clear = λ w hw nu nv m. free (record {
        tail = hu;
        head = hv;
        vertex = w;
        known = hw;
        hit = record {
          rises = rise;
          inside = record { on = met_1 m; not_tail = λ e. nu (same_point u w hu hw e); not_head = λ e. nv (same_point v w hv hw e) };
        };
      });
    }

    -- one bend in column x, where no vertex but the tail stands in the columns from the tail's to x
    bent-clear : (x : ℕ) → x ≢ (at u).column → 0 < (at v).row
        → ((w : ℕ) → w < n → (at w).column ≢ (at u).column → Between (at u).column x (at w).column → ⊥)
        → Clear n at u v (bent (at u) (at v) x)
    bent-clear x beside some free = record {
      clear = λ w hw nu nv m. met_2
          (λ o. first w hw nu o (ℕ_discrete (at w).column (at u).column))
          (λ o. second w hw nv o (row_low o (omega arith)) (row-high o (omega arith)) (ℕ_discrete (at w).row (at v).row))
          m;
    }
      where
        first : (w : ℕ) → w < n → w ≢ u → On (at u) (point x (bend_row (at v))) (at w) → Dec ((at w).column ≡ (at u).column) → ⊥
        first w hw nu o (yes e) = nu (same_point u w hu hw (at_column o (λ z. beside (sym z)) e))
        first w hw nu o (no e) = free w hw e (column_between o)

        second : (w : ℕ) → w < n → w ≢ v → On (point x (bend_row (at v))) (at v) (at w) → bend_row (at v) ≤ (at w).row
            → (at w).row ≤ (at v).row
            → Dec ((at w).row ≡ (at v).row) → ⊥
        second w hw nv o l h (yes e) = nv (same_point v w hv hw (at_row (on_swap o) (λ z. omega arith) e))
        second w hw nv o l h (no e) =
            let q : (at w).column ≡ x = ap (λ (p : Point). p.column) (at_row o (λ z. omega arith) (omega arith)) in
            free w hw (λ z. beside (sym q ∙ z))
            (⊎_elim (λ k. inl (omega arith, omega arith)) (λ k. inr (omega arith, omega arith)) (lt-or-le (at u).column x))

    bend_right-clear : (d : ℕ) → d < W.right_gap (channel u) → (at u).row < (at v).row
        → Clear n at u v (bent (at u) (at v) (own (channel u) + (1 + d)))
    bend_right-clear d hd rise =
        let here = P.on_own u hu in
        bent-clear (own (channel u) + (1 + d)) (λ z. omega arith) (omega arith)
        (λ w hw ne b. ⊎_elim
        (λ k. P.right_free u w ((at w).column - own (channel u) - 1) hu hw (omega arith) (omega (arith, P.on_own w hw)))
        (λ k. omega arith)
        b)

    bend_left-clear : (d : ℕ) → d < W.left_gap (channel u) → (at u).row < (at v).row
        → Clear n at u v (bent (at u) (at v) (own (channel u) - (1 + d)))
    bend_left-clear d hd rise =
        let here = P.on_own u hu in
        let left = P.room u hu in
        bent-clear (own (channel u) - (1 + d)) (λ z. omega arith) (omega arith)
        (λ w hw ne b. ⊎_elim (λ k. omega arith) (λ k. in_left_gap u w hu hw (omega arith) (omega arith)) b)

  -- from an own column to a track there is no vertex but the one that stands there
  level-clear : (u w j : ℕ) → u < n → w < n → j < W.tracks (channel u) → (at w).row ≡ (at u).row → track_of u j ≤ (at w).column
      → (at w).column ≤ (at u).column → w ≡ u
  level-clear u w j hu hw hj r l h =
      go (ℕ_discrete (at w).column (at u).column) (lt-or-le ((at w).column + W.left_gap (channel u)) (own (channel u)))
    where
      go : Dec ((at w).column ≡ (at u).column)
          → ((at w).column + W.left_gap (channel u) < own (channel u)) ⊎ (own (channel u) ≤ (at w).column + W.left_gap (channel u)) → w ≡ u
      go (yes e) d = same_row u w hu hw (same-channel u w hu hw e) r
      go (no e) (inr k) = absurd (in_left_gap u w hu hw k (omega (arith, P.on_own u hu)))
      go (no e) (inl k) =
          absurd (P.tracks_free u w (own (channel u) - (W.left_gap (channel u) + 1) - (at w).column) hu hw
          (track_number (own (channel u)) (at w).column (W.left_gap (channel u)) j (W.tracks (channel u)) hj (P.room u hu) l k)
          (sym (P.on_own w hw) ∙ track_column (own (channel u)) (at w).column (W.left_gap (channel u)) k))

  -- level to a track, up, level
  track_clear : (u v j : ℕ) → u < n → v < n → channel u ≡ channel v → j < W.tracks (channel u)
      → Clear n at u v (by_track (at u) (at v) (track_of u j))
  track_clear u v j hu hv e hj =
      let x : ℕ = track_of u j in
      let same : x ≡ track_of v j = ap (λ c. track_at (own c) (W.left_gap c) j) e in
      let many : j < W.tracks (channel v) = omega (arith, ap W.tracks e) in
      let left : x ≤ (at u).column = omega (arith, P.on_own u hu) in
      let beside : x ≤ (at v).column = omega (arith, P.on_own v hv, same) in
      record {
        clear = λ w hw nu nv m. met_3
            (λ o. nu (level-clear u w j hu hw hj (row-level o refl) (column_low (on_swap o) left) (column_high (on_swap o) left)))
            (λ o. P.tracks_free u w j hu hw hj (sym (P.on_own w hw) ∙ column_level o refl))
            (λ o. nv (level-clear v w j hv hw many (row-level o refl) (rw (← same) (column_low o beside)) (column_high o beside)))
            m;
      }

  -- The theorem: no edge's polyline meets a vertex but its ends, whatever the kind of the edge.
  pub drawn-clear : (u v : ℕ) (polyline : List Point) → u < n → v < n → (at u).row < (at v).row
      → Drawn n at channel position own W u v polyline → Clear n at u v polyline
  drawn-clear u v _ hu hv rise (path e q) = path-clear u v hu hv e q
  drawn-clear u v _ hu hv rise (track j e h) = track_clear u v j hu hv e h
  drawn-clear u v _ hu hv rise (cross e f) = straight-clear u v hu hv rise f
  drawn-clear u v _ hu hv rise (bend_right d h b l) = bend_right-clear u v hu hv d h rise
  drawn-clear u v _ hu hv rise (bend_left d h b l) = bend_left-clear u v hu hv d h rise
