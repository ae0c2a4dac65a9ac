-- What planning answers, by what the checks hand over. Assumes nothing.
use Rattle.counting.proofs.Prelude.{◌≡◌, refl, sym, ap, ◌∙◌, ◌≢◌, Bool, true, false, true≢false, List, ℕ, ◌*◌, ◌≤◌, ◌<◌, min, arith, leb}
use Rattle.counting.proofs.Prelude.{length, leb-true, le-leb, lt-ltb, le-ltb}
use native.Mathlib.Decide.{dec_lt}
use Rattle.counting.proofs.Truth.{and_intro, and_elim}
use Rattle.floors.specs.Promise as raising
use Rattle.specification.specs.Limits.{most_channels}
use Rattle.specification.specs.Checks.{Content, refusal_of}
use Rattle.specification.specs.Chart.{channels_of}
use Rattle.planning.specs.Arranged.{Arranged}
use Rattle.record.specs.Checked.{Checked, Checks}
use Rattle.specification.specs.Drawn.{graph_content, broad?}
use Rattle.chart_laws.proofs.Broad.{chart_refused, chart_broad, chart_whole}
use Rattle.chart_plan.proofs.Laying as laying
use Rattle.chart_plan.specs.Laid.{Plan, Lists, lists, Roomy, Long, Plans, unplanned_by}
use Rattle.chart_plan.specs.Steps.{roomy?, Passed, Filled}

-- the test of the lists that are not of masks
abbrev pub tested : ℕ → Lists → Bool
tested n t = roomy? (min n 128) (length t.spans) (length t.number) (length t.used) (length t.column)

module _ (n : ℕ) (floored : Bool) (t : Lists) where
  roomy_tested : Roomy n floored t → tested n t ≡ true
  unfolding roomy?
  roomy_tested r =
      and_intro _ _ (le-leb _ _ r.spans)
      (and_intro _ _ (le-leb _ _ r.number) (and_intro _ _ (le-leb _ _ r.used) (le-leb _ _ r.column)))

  tested_roomy : tested n t ≡ true → raising.Roomy n floored t.edges t.below t.table t.longer t.places → Roomy n floored t
  unfolding roomy?
  tested_roomy h z =
      let a = and_elim (leb (8 * min n 128) (length t.spans)) _ h in
      let b = and_elim (leb (2 * min n 128) (length t.number)) _ a.1 in
      let c = and_elim (leb 128 (length t.used)) _ b.1 in
      record {
        masks = z;
        spans = leb-true _ _ a.0;
        number = leb-true _ _ b.0;
        used = leb-true _ _ c.0;
        column = leb-true _ _ c.1;
      }

  -- as the code tests it
  pub tested_so : {m : ℕ} {r s : Bool} → m ≡ min n 128
      → r ≡ roomy? m (length t.spans) (length t.number) (length t.used) (length t.column) → r ≡ s → tested n t ≡ s
  tested_so e h y = rw (← e) (sym h ∙ y)

  -- lists that have no room
  pub cramped_plan : (ends : List ℕ) (given : Bool) (field floors : List ℕ) → tested n t ≡ false → (r : Plan) → r ≡ unplanned_by 8
      → Plans n ends given field floored floors t r t
  cramped_plan ends given field floors fails r made =
      let eight : r.refusal ≡ 8 = ap (λ (x : Plan). x.refusal) made in
      record {
        answer = λ h. absurd (true≢false (sym (roomy_tested h) ∙ fails));
        short = λ h. (eight, refl);
        laid = λ z. absurd (omega arith);
        none = λ h. made ∙ ap unplanned_by (sym eight);
        kept = λ h. refl;
        left = λ h. absurd (true≢false (sym (roomy_tested h) ∙ fails));
        flat = λ h. absurd (true≢false (sym (roomy_tested h) ∙ fails));
        tables = λ h. absurd (true≢false (sym (roomy_tested h) ∙ fails));
        arranged = λ h. absurd (true≢false (sym (roomy_tested h) ∙ fails));
        cleared = λ h. absurd (true≢false (sym (roomy_tested h) ∙ fails));
        places_past = λ i v l h. refl;
        column_past = λ v h. refl;
        long =
            record {
              edges = refl;
              below = refl;
              table = refl;
              longer = refl;
              places = refl;
              spans = refl;
              number = refl;
              used = refl;
              column = refl;
            };
      }

-- what is not short is long enough
stable : (a b : ℕ) → ((a ≤ b → ⊥) → ⊥) → a ≤ b
stable a b h = go (dec_lt b a)
  where
    go : Dec (b < a) → a ≤ b
    go (yes l) = absurd (h (λ m. omega arith))
    go (no g) = omega (arith, g)

module _ {n : ℕ} {ends : List ℕ} {given : Bool} {field : List ℕ} {floored : Bool} {floors : List ℕ} (t : Lists) (fine : tested n t ≡ true)
    {k : Checked} {e' b' t' l' p' : List ℕ}
    (p : Checks n ends given field floored floors t.edges t.below t.table t.longer t.places k e' b' t' l' p') where
  abbrev c : Content
  c = graph_content n ends given field floored floors

  answer : Roomy n floored t → k.refusal ≡ refusal_of c
  unfolding graph_content
  answer r = p.answer r.masks

  -- where lists of masks have no room
  cramped : (Roomy n floored t → ⊥) → raising.Roomy n floored t.edges t.below t.table t.longer t.places → ⊥
  cramped h z = h (tested_roomy n floored t fine z)

  abbrev masked : Lists
  masked = lists e' b' t' l' p' t.spans t.number t.used t.column

  masked_long : Long t masked
  masked_long = record {
    edges = p.long.0;
    below = p.long.1;
    table = p.long.2;
    longer = p.long.3;
    places = p.long.4;
    spans = refl;
    number = refl;
    used = refl;
    column = refl;
  }

  untouched : (e' ≡ t.edges) × (b' ≡ t.below) × (t' ≡ t.table) × (l' ≡ t.longer) × (p' ≡ t.places) → masked ≡ t
  untouched s = rw (s.0, s.1, s.2, s.3, s.4) refl

  -- a check fails
  pub refused-plan : k.refusal ≢ 0 → (r : Plan) → r ≡ unplanned_by k.refusal → Plans n ends given field floored floors t r masked
  refused-plan ne r made =
      let same : r.refusal ≡ k.refusal = ap (λ (x : Plan). x.refusal) made in
      record {
        answer = λ h. same ∙ answer h ∙ sym (chart_refused c (λ z. ne (answer h ∙ z)));
        short = λ h. let s = p.short (cramped h) in (same ∙ s.0, untouched (s.1, s.2, s.3, s.4, s.5));
        laid = λ z. absurd (ne (sym same ∙ z));
        none = λ h. made ∙ ap unplanned_by (sym same);
        kept = λ h. refl;
        left = λ h. p.left h.masks;
        flat = λ h. p.flat h.masks;
        tables = λ h. p.tables h.masks;
        arranged = λ h z. absurd (ne (answer h ∙ z));
        cleared = λ h e f _. p.cleared h.masks e f ne;
        places_past = p.past;
        column_past = λ v h. refl;
        long = masked_long;
      }

  -- nothing is refused
  module _ (z : k.refusal ≡ 0) where
    fits : (raising.Roomy n floored t.edges t.below t.table t.longer t.places → ⊥) → ⊥
    fits h = let s = (p.short h).0 in absurd (omega arith)

    roomy : Roomy n floored t
    roomy = tested_roomy n floored t fine (record {
      masks = record {
        edges = stable _ _ (λ h. fits (λ w. h w.masks.edges));
        below = stable _ _ (λ h. fits (λ w. h w.masks.below));
        table = stable _ _ (λ h. fits (λ w. h w.masks.table));
        longer = stable _ _ (λ h. fits (λ w. h w.masks.longer));
        places = stable _ _ (λ h. fits (λ w. h w.masks.places));
      };
      rows = λ f. stable _ _ (λ h. fits (λ w. h (w.rows f)));
    })

    pub passed : Passed n k e' p' t.spans t.number t.used t.column
    passed = record {
      ends = ends;
      given = given;
      field = field;
      floored = floored;
      floors = floors;
      below = b';
      table = t';
      longer = l';
      accepted = sym (answer roomy) ∙ z;
      passes = p.passes z;
      room = record {
        masks = record {
          masks = record {
            edges = omega (arith, p.long.0, roomy.masks.masks.edges);
            below = omega (arith, p.long.1, roomy.masks.masks.below);
            table = omega (arith, p.long.2, roomy.masks.masks.table);
            longer = omega (arith, p.long.3, roomy.masks.masks.longer);
            places = omega (arith, p.long.4, roomy.masks.masks.places);
          };
          rows = λ f. omega (arith, p.long.1, roomy.masks.rows f);
        };
        spans = roomy.spans;
        number = roomy.number;
        used = roomy.used;
        column = roomy.column;
      };
    }

    -- the chart's channels
    arranged : Arranged n (channels_of c) k.channels p'
    unfolding passed
    arranged = laying.arranged passed

    placed : Arranged n (channels_of c) (length (channels_of c)) p'
    placed = record { counted = refl; channel = arranged.channel; position = arranged.position }

    abbrev count : ℕ
    count = length (channels_of c)

    -- there are too many
    pub broad_plan : most_channels < k.channels → (r : Plan) → r ≡ unplanned_by 11 → Plans n ends given field floored floors t r masked
    unfolding broad?
    broad_plan l r made =
        let eleven : r.refusal ≡ 11 = ap (λ (x : Plan). x.refusal) made in
        record {
          answer = λ h. eleven ∙ sym (chart_broad c (sym (answer h) ∙ z) (lt-ltb most_channels count (omega (arith, arranged.counted))));
          short = λ h. absurd (h roomy);
          laid = λ h. absurd (omega arith);
          none = λ h. made ∙ ap unplanned_by (sym eleven);
          kept = λ h. refl;
          left = λ h. p.left h.masks;
          flat = λ h. p.flat h.masks;
          tables = λ h. p.tables h.masks;
          arranged = λ h _. placed;
          cleared = λ h _ _ ne. absurd (ne (sym (answer h) ∙ z));
          places_past = p.past;
          column_past = λ v h. refl;
          long = masked_long;
        }

    pub laid-plan : k.channels ≤ most_channels → {r : Plan} {spans' number' used' column' : List ℕ}
        → Filled n k e' p' t.spans t.number t.used t.column r spans' number' used' column'
        → Plans n ends given field floored floors t r (lists e' b' t' l' p' spans' number' used' column')
    unfolding passed broad?
    laid-plan few f = record {
      answer = λ h. f.refusal ∙ sym (chart_whole c (sym (answer h) ∙ z) (le-ltb most_channels count (omega (arith, arranged.counted))));
      short = λ h. absurd (h roomy);
      laid = λ _. f.laid passed;
      none = λ h. absurd (h f.refusal);
      kept = λ h. absurd (h f.refusal);
      left = λ h. p.left h.masks;
      flat = λ h. p.flat h.masks;
      tables = λ h. p.tables h.masks;
      arranged = λ _ _. placed;
      cleared = λ h _ _ ne. absurd (ne (sym (answer h) ∙ z));
      places_past = p.past;
      column_past = f.past;
      long = record {
        edges = p.long.0;
        below = p.long.1;
        table = p.long.2;
        longer = p.long.3;
        places = p.long.4;
        spans = f.long.0;
        number = f.long.1;
        used = f.long.2;
        column = f.long.3;
      };
    }
