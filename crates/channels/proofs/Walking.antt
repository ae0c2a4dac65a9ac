-- The walk over the bytes of given channels, one byte after the other. Assumes nothing.
use Rattle.counting.proofs.Prelude.{◌≡◌, refl, sym, ap, ◌∙◌, subst, ◌≢◌, Bool, true, false, List, ℕ, ◌+◌, ◌-◌, ◌≤◌}
use Rattle.counting.proofs.Prelude.{◌<◌, arith, length, get_or, replicate}
use Rattle.std.specs.Prelude.{Option, Some, None}
use Rattle.specification.specs.Sets.{member?, inserted}
use Rattle.specification.specs.declared.Connection.{Connection}
use Rattle.specification.specs.Channels.{lines_of, vertices_of, unknown?, repeats?, broken?}
use Rattle.specification.specs.Given.{held_in}
use Rattle.specification.specs.Graph.{unsized?}
use Rattle.counting.proofs.Sizes.{sized}
use Rattle.channels.specs.Promise.{given_refusal}
use Rattle.channels.specs.Steps.Walked.{may_follow, weighed}
use Rattle.channels.proofs.Fields.{left, left-all, left-length, left_vertex, left_end}
use Rattle.channels.proofs.Checks.{Known, known_none, known_length, known_found, known_more}
use Rattle.channels.proofs.Checks.{known_all, Once, once_none, once_length, once_again, once_more, once_all, once_held, Linking}
use Rattle.channels.proofs.Checks.{linking_none, linking_length, linking_broken, linking_more, linking_all}
use Rattle.channels.proofs.Answers.{given-unknown, given_repeats, given_broken, given-taken}

-- ---- byte by byte

module _ (ask : ℕ → ℕ → Connection) (n : ℕ) (field : List ℕ) where
  -- what was found before byte i, of whose line k vertices are left: nothing, a vertex twice, or a vertex that is not led to
  pub data Found (i k : ℕ) (last : Option ℕ) (seen : List ℕ) : ℕ → Type 0 where
    clear : Once field i k seen → Linking ask field i k last → Found i k last seen 0
    again : repeats? (vertices_of field) ≡ true → Found i k last seen 6
    cut : Once field i k seen → broken? ask (lines_of field) ≡ true → Found i k last seen 7

  pub record Walking (i k : ℕ) (last : Option ℕ) (seen : List ℕ) (vertices fault : ℕ) : Type 0 where
    pub masks : length seen ≡ 4
    pub few : vertices ≤ i
    pub known : Known n field i k
    pub counted : length (vertices_of field) ≡ vertices + length (left field i k)
    pub found : Found i k last seen fault

  pub walking_none : Walking 0 0 None (replicate 4 0) 0 0
  walking_none = record {
    masks = refl;
    few = omega arith;
    known = known_none n field;
    counted = let e = ap length (left-all field) in omega arith;
    found = clear (once_none field) (linking_none ask field);
  }

  module _ (i : ℕ) (h : i < length field) (k : ℕ) (last : Option ℕ) (seen : List ℕ) (vertices fault : ℕ)
      (f : Walking i k last seen vertices fault) (x : ℕ) (ex : x ≡ get_or field i 0) where
    -- a line's length
    pub walking_length : k ≡ 0 → Walking (i + 1) x None seen vertices fault
    walking_length e = record {
      masks = f.masks;
      few = let l = f.few in omega arith;
      known = known_length n field i h k f.known x ex e;
      counted = f.counted ∙ ap (λ l. vertices + length l) (left-length field i h k e ∙ ap (left field (i + 1)) (sym ex));
      found = go fault f.found;
    }
      where
        go : (y : ℕ) → Found i k last seen y → Found (i + 1) x None seen y
        go _ (clear o l) = clear (once_length field i h k seen o e x ex) (linking_length ask field i h k last l e x ex)
        go _ (again r) = again r
        go _ (cut o b) = cut (once_length field i h k seen o e x ex) b

    module _ (d : k ≢ 0) where
      -- a vertex of n or more
      pub walked_unknown : n ≢ 0 → n ≤ 128 → n ≤ x → given_refusal ask n field ≡ 3
      walked_unknown z m l = given-unknown ask n field (sized n z m) (known_found n field i h k f.known x ex d l)

      module _ (b : x < 256) (s : List ℕ) (put : member? seen 0 x ≡ false → s ≡ inserted seen 0 x) where
        found_more : (p g : Bool) → member? seen 0 x ≡ p → may_follow ask last x ≡ g
            → (y : ℕ) → Found i k last seen y → Found (i + 1) (k - 1) (Some x) s (weighed p g y)
        unfolding weighed
        found_more true g ep eg _ (clear o l) = again (once_again field i h k seen o d x ex ep)
        found_more true g ep eg _ (again r) = again r
        found_more true g ep eg _ (cut o r) = again (once_again field i h k seen o d x ex ep)
        found_more false true ep eg _ (clear o l) = clear (once_more field i h k seen o d x ex b ep s (put ep))
            (linking_more ask field i h k last l d x ex eg)
        found_more false false ep eg _ (clear o l) = cut (once_more field i h k seen o d x ex b ep s (put ep))
            (linking_broken ask field i h k last l d x ex eg)
        found_more false g ep eg _ (again r) = again r
        found_more false g ep eg _ (cut o r) = cut (once_more field i h k seen o d x ex b ep s (put ep)) r

        -- a vertex
        pub walking_more : x < n → length s ≡ 4 → (y : ℕ) → y ≡ weighed (member? seen 0 x) (may_follow ask last x) fault
            → Walking (i + 1) (k - 1) (Some x) s (vertices + 1) y
        walking_more l long y ey = record {
          masks = long;
          few = let q = f.few in omega arith;
          known = known_more n field i h k f.known x ex d l;
          counted = let e = f.counted in let q = ap length (left_vertex field i h k d) in omega arith;
          found = subst (Found (i + 1) (k - 1) (Some x) s) (sym ey)
              (found_more (member? seen 0 x) (may_follow ask last x) refl refl fault f.found);
        }

  -- the end of the bytes
  module _ (i k : ℕ) (last : Option ℕ) (seen : List ℕ) (vertices fault : ℕ)
      (f : Walking i k last seen vertices fault) (h : length field ≤ i) where
    pub walked_all : n ≢ 0 → n ≤ 128 → fault ≡ given_refusal ask n field
    walked_all z m = go fault f.found
      where
        size : unsized? n ≡ false
        size = sized n z m

        known : unknown? n (vertices_of field) ≡ false
        known = known_all n field i k f.known h

        go : (y : ℕ) → Found i k last seen y → y ≡ given_refusal ask n field
        go _ (clear o l) =
            sym (given-taken ask n field size known (once_all field i k seen o h) (linking_all ask field i k last l h))
        go _ (again r) = sym (given_repeats ask n field size known r)
        go _ (cut o e) = sym (given_broken ask n field size known (once_all field i k seen o h) e)

    pub walked_total : vertices ≡ length (vertices_of field)
    walked_total = let e = f.counted in let q = ap length (left_end field i k h) in omega arith

    -- nothing found: the set has the vertices of the lines
    pub walked_held : fault ≡ 0 → (v : ℕ) → member? seen 0 v ≡ held_in (lines_of field) v
    walked_held = go fault f.found
      where
        go : (y : ℕ) → Found i k last seen y → y ≡ 0 → (v : ℕ) → member? seen 0 v ≡ held_in (lines_of field) v
        go _ (clear o l) z = once_held field i k seen o h
        go _ (again r) z = absurd (omega arith)
        go _ (cut o e) z = absurd (omega arith)
