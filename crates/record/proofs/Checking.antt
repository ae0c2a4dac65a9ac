-- What the checks of a graph hand over, by what the layers below promise. Assumes nothing.
use Rattle.counting.proofs.Prelude.{◌≡◌, refl, sym, ap, ◌∙◌, subst, ◌≢◌, Bool, true, false, true≢false, ◌&&◌, List, ℕ, zero, suc, ◌*◌}
use Rattle.counting.proofs.Prelude.{◌≤◌, ◌<◌}
use Rattle.counting.proofs.Prelude.{min, arith, leb, length}
use Rattle.std.specs.Prelude.{Option, Some, None}
use Rattle.std.specs.Borrow.{Bor}
use Rattle.specification.specs.Parts.{present?, bytes_of}
use Rattle.counting.proofs.Sizes.{size-taken, sized}
use Rattle.specification.specs.Count.{choose}
use Rattle.specification.specs.Graph.{outsized?, verdict, edge?, tails_of, heads_of, unsized?, size_refusal}
use Rattle.specification.specs.Channels.{vertices_of, given_lines, unknown?}
use Rattle.specification.specs.Checks.{content, unfloored?, floor_at, refusal_of}
use Rattle.specification.specs.Graph as edges
use Rattle.counting.specs.Quads.{quad}
use Rattle.reach.proofs.Refusing.{accepted-within}
use Rattle.specification.specs.Connection.{connects}
use Rattle.reach.specs.Closure.{connection_by}
use Rattle.reach.proofs.Connecting as connecting
use Rattle.descent.specs.Promise.{Descent, edges_refusal}
use Rattle.floors.specs.Promise.{Roomy, Raised, Raises}
use Rattle.specification.specs.Sets.{has?}
use Rattle.channels.specs.Promise.{Answers, Plans, Gives}
use Rattle.matching.proofs.Beside.{given_none}
use Rattle.planning.specs.Promise.{Channels}
use Rattle.record.specs.Checked.{Checked, unchecked_by, channels_by, Tables, Checks}
use Rattle.record.specs.Steps.{channels_refusal}
use Rattle.record.proofs.Judging.{refused-edges, raised-passes, passes-raised, edges-accepted, bare-refusal, given-refusal}
use Rattle.record.proofs.Judging.{first-high}

-- a graph of no vertex is refused
nonempty : (n : ℕ) (tails heads : List ℕ) → edges.refusal n tails heads ≡ 0 → n ≢ 0
unfolding edges.refusal verdict outsized? unsized?
nonempty zero tails heads e z = let q : ◌≡◌ {A = ℕ} 2 0 = e in absurd (omega arith)
nonempty (suc n) tails heads e z = absurd (omega arith)

-- 3 or k is no 0
never_none : (t : Bool) (k : ℕ) → k ≢ 0 → choose {A = ℕ} t (λ _. 3) (λ _. k) ≢ 0
never_none true k h e = let q : ◌≡◌ {A = ℕ} 3 0 = e in absurd (omega arith)
never_none false k h e = h e

-- ---- the channels, given or planned

module _ (n : ℕ) (e l t : List ℕ) (x : Option (Bor (List ℕ))) (p : List ℕ) (ch : Channels) (p' : List ℕ) where
  abbrev Laid : Option (Bor (List ℕ)) → Type 0
  Laid y = Answers n (channels_refusal n e l (present? y) (bytes_of y)) (channels_by n t (present? y) (bytes_of y)) p ch p'

  -- the others are planned by what reaches what
  pub given_laid : (lines : Bor (List ℕ)) → x ≡ Some lines → Gives n e l t lines.now p ch p' → Laid x
  unfolding given_lines
  given_laid lines q a = subst Laid (sym q) a

  pub planned_laid : x ≡ None → Plans n t p ch p' → Laid x
  unfolding given_lines
  planned_laid q a = subst Laid (sym q) (subst (λ ls. Answers n (size_refusal n) ls p ch p') (sym (given_none (has? 2 t) n)) a)

-- ---- the whole

module _ (n : ℕ) (ends : List ℕ) (given : Bool) (field : List ℕ) (floored : Bool) (floors e b t l p : List ℕ) (d : Descent)
    (e' b' t' l' p₁ : List ℕ) (promised : Raises n ends floored floors e b t l p d e' b' t' l' p₁) where
  abbrev tails : List ℕ
  tails = tails_of ends

  abbrev heads : List ℕ
  heads = heads_of ends

  abbrev answer : ℕ
  answer = refusal_of (content n tails heads given field floored floors)

  -- the edges are refused
  pub edges_fail : (k : ℕ) (r : Checked) → d.refusal ≢ 0
      → k ≡ choose ((leb 4 d.refusal && leb d.refusal 5) && (given && unknown? n (vertices_of field))) (λ _. 3) (λ _. d.refusal)
      → r ≡ unchecked_by k → Checks n ends given field floored floors e b t l p r e' b' t' l' p₁
  edges_fail k r ne q made =
      let same : r.refusal ≡ k = ap (λ (x : Checked). x.refusal) made in
      record {
        answer = λ s. same ∙ q ∙ sym (refused-edges n tails heads given field floored floors d.refusal (promised.answer s) ne);
        short = λ s.
            let q₁ = promised.short s in
            let eight : d.refusal ≡ 8 = q₁.0 in (
              same ∙ q ∙ sym (first-high d.refusal given (unknown? n (vertices_of field)) (omega arith))
                  ∙ eight,
              q₁.1,
              q₁.2,
              q₁.3,
              q₁.4,
              q₁.5,
            );
        none = λ h. made ∙ ap unchecked_by (sym same);
        passes =
            λ z. absurd
            (never_none ((leb 4 d.refusal && leb d.refusal 5) && (given && unknown? n (vertices_of field))) d.refusal ne
            (sym q ∙ sym same ∙ z));
        left = promised.left;
        flat = λ s z _. (promised.flat s z ne, promised.kept);
        tables = λ s z f. absurd (ne (promised.answer s ∙ passes-raised n tails heads given field floored floors z f));
        cleared = λ s z f _. absurd (ne (promised.answer s ∙ passes-raised n tails heads given field floored floors z f));
        past = promised.past;
        long = promised.long;
      }

  -- they are not
  module _ (passed : d.refusal ≡ 0) where
    fits : (Roomy n floored e b t l p → ⊥) → ⊥
    fits s = let eight = (promised.short s).0 in absurd (omega arith)

    module _ (s : Roomy n floored e b t l p) where
      both : (edges_refusal n tails heads ≡ 0) × (unfloored? n floored floors ≡ false)
      both = raised-passes n tails heads given field floored floors (sym (promised.answer s) ∙ passed)

      sound : edges_refusal n tails heads ≡ 0
      sound = both.0

      accepted : edges.refusal n tails heads ≡ 0
      accepted = edges-accepted n tails heads given field floored floors sound

      small : n ≤ 128
      small = (accepted-within n tails heads accepted).1

      of_size : unsized? n ≡ false
      of_size = sized n (nonempty n tails heads accepted) small

      answers-same : (u v : ℕ) → u < n → v < n → connection_by 2 e' l' u v ≡ connects (edge? tails heads) n u v
      answers-same u v hu hv =
          let m = promised.made passed in
          connecting.same_answer n tails heads accepted 2 e' t' l' small m.closure.edge_bits m.closure.bits m.longer u v
          (omega (arith, small)) (omega (arith, small))

    module _ (ch : Channels) (p' : List ℕ)
        (lined : Answers n (channels_refusal n e' l' given field) (channels_by n t' given field) p₁ ch p') where
      room : Roomy n floored e b t l p → 4 * min n 128 ≤ length p₁
      room s = omega (arith, promised.long.4, s.masks.places)

      answered : (g : Bool) → given ≡ g → Roomy n floored e b t l p → channels_refusal n e' l' g field ≡ refusal_of
          (content n tails heads g field floored floors)
      answered true h s = given-refusal n tails heads field floored floors (sound s) (both s).1 (connection_by 2 e' l') (answers-same s)
          (of_size s)
      answered false h s = size-taken n (of_size s) ∙ sym (bare-refusal n tails heads field floored floors (sound s) (both s).1)

      same_answer : Roomy n floored e b t l p → ch.refusal ≡ answer
      same_answer s = lined.refused (room s) ∙ answered given refl s

      past : (k v : ℕ) → k < 4 → n ≤ v → quad k p' v ≡ quad k p v
      past k v h hv = lined.kept.past k v h hv ∙ promised.past k v h hv

      long : (length e' ≡ length e) × (length b' ≡ length b) × (length t' ≡ length t) × (length l' ≡ length l) × (length p' ≡ length p)
      long = let k = promised.long in (k.0, k.1, k.2, k.3, lined.kept.long ∙ k.4)

      -- rows and counts stay while the channels are laid
      raised : Raised n tails heads (floor_at floored floors) d.used e' b' t' l' p'
      raised =
          let m = promised.made passed in
          record {
            closure = record {
              edge_bits = m.closure.edge_bits;
              bits = m.closure.bits;
              counted = λ u h. lined.kept.kept 3 u (omega arith) (omega arith) ∙ m.closure.counted u h;
            };
            longer = m.longer;
            past = m.past;
            rows = λ v h. lined.kept.kept 2 v (omega arith) (omega arith) ∙ m.rows v h;
            counted = m.counted;
            below = m.below;
          }

      tables : Tables n ends floored floors b e' b' t' l' p'
      tables = record { used = d.used; raised = raised; past = promised.sets_past passed }

      -- the given channels are refused
      pub channels_fail : (r : Checked) → ch.refusal ≢ 0 → r ≡ unchecked_by ch.refusal
          → Checks n ends given field floored floors e b t l p r e' b' t' l' p'
      channels_fail r ne made =
          let same : r.refusal ≡ ch.refusal = ap (λ (x : Checked). x.refusal) made in
          record {
            answer = λ s. same ∙ same_answer s;
            short = λ s. absurd (fits s);
            none = λ h. made ∙ ap unchecked_by (sym same);
            passes = λ z. absurd (ne (sym same ∙ z));
            left = λ s ne. absurd (ne (sound s));
            flat = λ s _ f. absurd (true≢false (sym f ∙ (both s).1));
            tables = λ _ _ _. tables;
            cleared = λ s _ _ _. lined.cleared ne (room s) (of_size s);
            past = past;
            long = long;
          }

      pub all_pass : (r : Checked) → ch.refusal ≡ 0 → r ≡ record { refusal = 0; used = d.used; channels = ch.count }
          → Checks n ends given field floored floors e b t l p r e' b' t' l' p'
      all_pass r z made =
          subst (λ (x : Checked). Checks n ends given field floored floors e b t l p x e' b' t' l' p') (sym made) (record {
            answer = λ s. sym z ∙ same_answer s;
            short = λ s. absurd (fits s);
            none = λ h. absurd (h refl);
            passes = λ _. record { raised = raised; arranged = lined.arranged z };
            left = λ s ne. absurd (ne (sound s));
            flat = λ s _ f. absurd (true≢false (sym f ∙ (both s).1));
            tables = λ _ _ _. tables;
            cleared = λ _ _ _ h. absurd (h refl);
            past = past;
            long = long;
          })
