-- Which charts are broad, by divisions: 32 vertices no two of which may share a part need as many parts, and 31 parts are enough where one
-- edge joins two of them. Nothing is planned here. Assumes nothing.
use Rattle.counting.proofs.Prelude.{◌≡◌, refl, sym, ap, ◌∙◌, ◌≢◌, ◌⊎◌, inl, inr, ⊎_elim, Bool, true, false, true≢false, List, []}
use Rattle.counting.proofs.Prelude.{◌∷◌, ap₂, ℕ, zero, suc, ◌+◌, ◌-◌, ◌≤◌, ◌<◌, arith, eqb, length, get_or, ne_eqb}
use native.Mathlib.Decide.{ℕ_discrete}
use mathlib.Core.List.{flatten}
use Rattle.specification.specs.Limits.{most_channels}
use Rattle.specification.specs.Count.{indicator, count}
use Rattle.specification.specs.Graph.{Reaches, one, more, Edge, alternate, tails_of, heads_of}
use Rattle.specification.specs.Channels.{times, has, front, lines, filled, lines_of, given_lines, vertices_of}
use Rattle.specification.specs.Given.{Whole}
use Rattle.specification.specs.Layout.{Fields}
use Rattle.specification.specs.Layout.{Good}
use Rattle.specification.specs.Layout.{bare_fields, lined_fields, size_at, field_at, lined, after_lines, with_lines, after_edges}
use Rattle.specification.specs.Layout.{with_edges}
use Rattle.specification.specs.Layout.{with_vertices, layout_of}
use Rattle.specification.specs.Checks.{Content, content, content_of, record_refusal, said, given_of, Leads, Sound}
use Rattle.specification.specs.Checks.{GivenKnown, Once, Led}
use Rattle.specification.specs.Drawn.{broad?, chart_refusal, judged, record_drawn}
use Rattle.specification.specs.Lawful.{Divided}
use Rattle.specification.specs.Table.{Says}
use Rattle.counting.proofs.Truth.{indicator-le, lt-or-le}
use Rattle.counting.proofs.Falsity.{not-true}
use Rattle.counting.proofs.Classes.{sum_one, apart_fit}
use Rattle.matching.proofs.Beside.{none_whole}
use Rattle.record.proofs.Soundness.{sound_accepted, accepted_sound}
use Rattle.chart_laws.proofs.Broad.{Crowded, too_many, broad_so, chart_broad, chart_whole}
use Rattle.proof_table.specs.Table.{full, record_with, bare, bare_record, joined, joined_record, parted, parted_record, Draws, TooBroad}
use Rattle.proof_table.proofs.Full.{full-accepted, full_fields, full-laid_out, full_says, full_up}

-- ---- a record with a sound graph

module _ (b : List ℕ) (f : Fields) (c : Content) (laid : layout_of b ≡ Good f) (same : content_of b f ≡ c) (s : Sound c) where
  passes : record_refusal b ≡ 0
  unfolding record_refusal
  passes = rw (laid, same) (sound_accepted c s)

  says : Says b c
  unfolding said
  says = (passes, rw (passes, laid) same)

  drawn : record_drawn b ≡ judged (chart_refusal c) c
  unfolding record_drawn
  drawn = rw (laid, same) refl

  -- a division into few parts shows it
  pub draws : (m : ℕ) (part : ℕ → ℕ) → Divided c m part → Whole c.vertices (given_of c) part → m ≤ most_channels → Draws b c
  unfolding judged
  draws m part d w few =
      let narrow = not-true (broad? c) (λ t. omega (arith, too_many c s t m part d w)) in
      (says, drawn ∙ rw (chart_whole c (sound_accepted c s) narrow) refl)

  too_broad : Crowded c → TooBroad b c
  unfolding judged
  too_broad w = (says, drawn ∙ rw (chart_broad c (sound_accepted c s) (broad_so c s w)) refl)

-- k vertices, no two of them in one part
needs : (c : Content) (k : ℕ) → k ≤ c.vertices → (parts : ℕ) (part : ℕ → ℕ) → Divided c parts part
    → ((u v : ℕ) → u < k → v < k → part u ≡ part v → Leads c u v → ⊥) → k ≤ parts
unfolding count
needs c k few parts part d free =
    omega (arith, apart_fit k parts (λ _. true) part (λ v h _. d.below v (omega arith)) (λ u v hu hv _ _ e. same u v hu hv e), sum_one k)
  where
    same : (u v : ℕ) → u < k → v < k → part u ≡ part v → u ≡ v
    same u v hu hv e = go (ℕ_discrete u v)
      where
        go : Dec (u ≡ v) → u ≡ v
        go (yes q) = q
        go (no ne) = absurd (⊎_elim (free u v hu hv e) (free v u hv hu (sym e)) (d.related u v (omega arith) (omega arith) ne e))

-- ---- no edge

no_edge : {u v : ℕ} → Reaches (Edge [] []) u v → ⊥
unfolding Edge
no_edge (one e) = omega (arith, e.1)
no_edge (more e r) = omega (arith, e.1)

bare_sound : (n : ℕ) → 0 < n → n ≤ 128 → Sound (bare n)
unfolding bare
bare_sound n h k = record {
  size = (h, k, omega arith);
  floors = λ g. absurd (true≢false (sym g));
  ends = λ i l. absurd (omega arith);
  named = λ g. absurd (true≢false (sym g));
  distinct = λ i j l. absurd (omega arith);
  acyclic = λ u r. no_edge r;
  once = λ g. absurd (true≢false (sym g));
  led = λ g. absurd (true≢false (sym g));
}

abbrev unjoined_fields : ℕ → Fields
unjoined_fields n = bare_fields n 7 0

bare-laid : (n : ℕ) → layout_of (bare_record n) ≡ Good (unjoined_fields n)
unfolding layout_of with_vertices with_edges after_edges with_lines after_lines field_at size_at bare_record
bare-laid n = refl

bare_says : (n : ℕ) → content_of (bare_record n) (unjoined_fields n) ≡ bare n
unfolding content_of tails_of heads_of alternate bare_record bare
bare_says n = refl

bare_broad : Crowded (bare 32)
unfolding bare
bare_broad parts part d w = needs (bare 32) 32 (omega arith) parts part d (λ u v hu hv e r. no_edge r)

-- a part each
pub most : Draws (bare_record 31) (bare 31)
unfolding bare given_lines
most =
    draws (bare_record 31) (unjoined_fields 31) (bare 31) (bare-laid 31) (bare_says 31) (bare_sound 31 (omega arith) (omega arith)) 31
    (λ v. v)
    (record { below = λ v h. h; related = λ u v hu hv ne e. absurd (ne e) }) (none_whole 31 (λ v. v)) (omega arith)

pub more-channels : TooBroad (bare_record 32) (bare 32)
more-channels =
    too_broad (bare_record 32) (unjoined_fields 32) (bare 32) (bare-laid 32) (bare_says 32) (bare_sound 32 (omega arith) (omega arith))
    bare_broad

-- ---- the edge 0→1

abbrev tails : List ℕ
tails = 0 ∷ []

abbrev heads : List ℕ
heads = 1 ∷ []

the_edge : {u v : ℕ} → Edge tails heads u v → (u ≡ 0) × (v ≡ 1)
unfolding Edge
the_edge (zero, h, t, d) = (sym t, sym d)
the_edge (suc i, h, t, d) = absurd (omega arith)

the_route : {u v : ℕ} → Reaches (Edge tails heads) u v → (u ≡ 0) × (v ≡ 1)
the_route (one e) = the_edge e
the_route (more e r) = let a = the_edge e in let b = the_route r in absurd (omega arith)

along : Reaches (Edge tails heads) 0 1
unfolding Edge
along = one (0, omega arith, refl, refl)

-- sound, with given channels or without
module _ (given : Bool) (field : List ℕ) where
  abbrev edged : Content
  edged = content 32 tails heads given field false []

  edge_sound : GivenKnown edged → Once edged → Led edged → Sound edged
  edge_sound k o l = record {
    size = (omega arith, omega arith, omega arith);
    floors = λ g. absurd (true≢false (sym g));
    ends = λ i h. let z : i ≡ 0 = omega arith in rw z (omega arith, omega arith);
    named = k;
    distinct = λ i j h h' _ _. omega arith;
    acyclic = λ u r. let a = the_route r in omega arith;
    once = o;
    led = l;
  }

-- ---- without given channels: 0 and 1 share a part

joined_sound : Sound joined
unfolding joined
joined_sound =
    edge_sound false [] (λ g. absurd (true≢false (sym g))) (λ g. absurd (true≢false (sym g))) (λ g. absurd (true≢false (sym g)))

-- of two vertices in the part v - 1
shared : (u v : ℕ) → u < 32 → v < 32 → u ≢ v → u - 1 ≡ v - 1 → Reaches (Edge tails heads) u v ⊎ Reaches (Edge tails heads) v u
shared u v hu hv ne e = ⊎_elim
    (λ l. let a : u ≡ 0 = omega arith in let b : v ≡ 1 = omega arith in inl (rw (a, b) along))
    (λ l. ⊎_elim
    (λ k. let a : v ≡ 0 = omega arith in let b : u ≡ 1 = omega arith in inr (rw (a, b) along))
    (λ k. absurd (ne (omega arith)))
    (lt-or-le v u))
    (lt-or-le u v)

abbrev joined_fields : Fields
joined_fields = bare_fields 32 7 1

joined-laid : layout_of joined_record ≡ Good joined_fields
unfolding layout_of with_vertices with_edges after_edges with_lines after_lines field_at size_at joined_record
joined-laid = refl

joined_says : content_of joined_record joined_fields ≡ joined
unfolding content_of tails_of heads_of alternate joined_record joined
joined_says = refl

pub by_edge : Draws joined_record joined
unfolding joined given_lines
by_edge =
    draws joined_record joined_fields joined joined-laid joined_says joined_sound 31 (λ v. v - 1)
    (record { below = λ v h. omega arith; related = shared }) (none_whole 32 (λ v. v - 1)) (omega arith)

-- ---- with given channels that part them

abbrev field : List ℕ
field = 1 ∷ 0 ∷ 1 ∷ 1 ∷ []

abbrev apart : List (List ℕ)
apart = (0 ∷ []) ∷ (1 ∷ []) ∷ []

field-lines : lines_of field ≡ apart
unfolding lines_of lines filled front
field-lines = refl

-- 0 and 1 stand in them once, and nothing else does
named : (v : ℕ) → times v (vertices_of field) ≡ indicator (eqb 0 v) + indicator (eqb 1 v)
unfolding times flatten
named v = rw field-lines (omega arith)

alone : (k j : ℕ) → suc j < length (get_or (lines_of field) k []) → ⊥
alone k j = rw field-lines (go k)
  where
    go : (k : ℕ) → suc j < length (get_or apart k []) → ⊥
    go zero h = omega arith
    go (suc zero) h = omega arith
    go (suc (suc k)) h = omega arith

parted_sound : Sound parted
unfolding parted
parted_sound =
    edge_sound true field
    (λ _ v h. named v ∙ ap₂ ◌+◌ (ap indicator (ne_eqb 0 v (λ e. omega arith))) (ap indicator (ne_eqb 1 v (λ e. omega arith))))
    (λ _ v. rw (named v) (once v)) (λ _ k j h. absurd (alone k j h))
  where
    once : (v : ℕ) → indicator (eqb 0 v) + indicator (eqb 1 v) ≤ 1
    once zero = omega arith
    once (suc v) = omega (arith, ap indicator (ne_eqb 0 (suc v) (λ e. omega arith)), indicator-le (eqb 1 (suc v)))

-- the part of 0 has 0 alone
parted_broad : Crowded parted
unfolding parted given_lines has
parted_broad parts part d w =
    needs parted 32 (omega arith) parts part d (λ u v hu hv e r. let a = the_route r in absurd (true≢false (sym (whole u v a e))))
  where
    whole : (u v : ℕ) → (u ≡ 0) × (v ≡ 1) → part u ≡ part v → false ≡ true
    whole u v a e =
        let q : part 0 ≡ part 1 = ap part (sym a.0) ∙ e ∙ ap part a.1 in
        let x : Whole 32 apart part = rw (← field-lines) w in
        (x.exact 0 0 1 (omega arith) refl (omega arith)).0 q

abbrev parted_fields : Fields
parted_fields = lined_fields 32 7 1 12 4

parted-laid : layout_of parted_record ≡ Good parted_fields
unfolding layout_of with_vertices with_edges after_edges with_lines after_lines lined field_at size_at parted_record
parted-laid = refl

parted_says : content_of parted_record parted_fields ≡ parted
unfolding content_of tails_of heads_of alternate parted_record parted
parted_says = refl

pub by_given : TooBroad parted_record parted
by_given = too_broad parted_record parted_fields parted parted-laid parted_says parted_sound parted_broad

-- ---- the largest: of the vertices below 64 none leads to another

full_broad : Crowded full
unfolding full
full_broad parts part d w =
    let k = needs full 64 (omega arith) parts part d (λ u v hu hv e r. let a = full_up r in omega arith) in omega arith

pub full_too_broad : TooBroad (record_with 128) full
unfolding full
full_too_broad =
    too_broad (record_with 128) (full_fields 128) full (full-laid_out 128) (full_says 128) (accepted_sound full full-accepted) full_broad
