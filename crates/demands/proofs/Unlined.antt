-- An empty field of given channels counts as none (SPECIFICATION.md, 1.4): what is handed over goes by the given channels alone, not by
-- whether a field has them, and is as for the record without the field. Assumes nothing.
use Rattle.counting.proofs.Prelude.{◌≡◌, refl, sym, ap, ◌∙◌, ◌↔◌, Bool, true, false, List, [], ℕ, arith}
use mathlib.Core.List.{map, flatten}
use Rattle.specification.specs.Channels.{lines_of, given_lines, every, unknown?, repeats?, broken?}
use Rattle.specification.specs.Checks.{content, size?, floor?, stranger?, double?, ring?, repeated?, unled?, loose_checks, later_checks}
use Rattle.specification.specs.Checks.{first_of}
use Rattle.specification.specs.Checks.{content_of}
use Rattle.specification.specs.Writing.{line_bytes, channel_field, field, written, Writable, fields_of}
use Rattle.specification.specs.Chart.{leads?, channels_of}
use Rattle.specification.specs.Drawn.{broad?, chart_checks, chart_refusal, judged, record_drawn}
use Rattle.specification.specs.declared.ChartCounts.{ChartCounts}
use Rattle.specification.proofs.Written.{written-length, written_reads_back}
use Rattle.chart_numbers.specs.Chart.{HandedFlat}
use Rattle.demands.specs.Demands.{unlined}
use Rattle.demands.proofs.Alike.{left-same}
use Rattle.demands.proofs.Drafts.{drawn-written}

-- ---- no given channel: no check of them fails

module _ (n : ℕ) (tails heads f k : List ℕ) (none : lines_of f ≡ []) where
  empty-refusal : chart_refusal (content n tails heads true f false []) ≡ chart_refusal (content n tails heads false k false [])
  unfolding chart_refusal first_of loose_checks later_checks chart_checks size? floor? stranger? double? ring? repeated? unled? broad?
      unknown?
      repeats? broken? every flatten channels_of leads? given_lines
  empty-refusal = rw none refl

module _ (n : ℕ) (edges : List (ℕ × ℕ)) (w : Writable (unlined n edges true)) where
  abbrev tails : List ℕ
  tails = map (λ e. e.0) edges

  abbrev heads : List ℕ
  heads = map (λ e. e.1) edges

  -- it is shorter without the field
  bare_writable : Writable (unlined n edges false)
  unfolding channel_field field line_bytes
  bare_writable = record {
    vertices = w.vertices;
    edges = w.edges;
    channels = w.channels;
    bare = λ _. refl;
    floors = w.floors;
    floorless = λ _. refl;
    short = omega (arith, w.short, written-length (unlined n edges true), written-length (unlined n edges false));
  }

  -- the bytes of the field of either
  abbrev field_in : Bool → List ℕ
  field_in g = (content_of (written (unlined n edges g)) (fields_of (unlined n edges g))).field

  abbrev number : ℕ
  number = chart_refusal (content n tails heads true (field_in true) false [])

  no_lines : lines_of (field_in true) ≡ []
  no_lines = (written_reads_back (unlined n edges true) w).channels

  drawn-empty : record_drawn (written (unlined n edges true)) ≡ judged number (content n tails heads true (field_in true) false [])
  drawn-empty = drawn-written (unlined n edges true) w

  drawn-bare : record_drawn (written (unlined n edges false)) ≡ judged number (content n tails heads false (field_in false) false [])
  drawn-bare =
      drawn-written (unlined n edges false) bare_writable
      ∙ ap (λ k. judged k (content n tails heads false (field_in false) false []))
      (sym (empty-refusal n tails heads (field_in true) (field_in false) no_lines))

  none_either : given_lines true (field_in true) ≡ given_lines false (field_in false)
  unfolding given_lines
  none_either = no_lines

  -- the record with an empty field, and the one without it, are answered alike
  pub empty_as_none : (ws es bs : List ℕ) (r : ChartCounts) (ws' es' bs' : List ℕ)
      → HandedFlat (written (unlined n edges true)) ws es bs r ws' es' bs'
      ↔ HandedFlat (written (unlined n edges false)) ws es bs r ws' es' bs'
  empty_as_none ws es bs r ws' es' bs' = (
    (λ a. rw drawn-bare (left-same n tails heads true false _ _ false false [] [] none_either (λ v. refl) ws es bs r ws' es' bs' number _
        _ _ (rw (← drawn-empty) a))),
    λ a. rw drawn-empty
        (left-same n tails heads false true _ _ false false [] [] (sym none_either) (λ v. refl) ws es bs r ws' es' bs' number _ _ _
        (rw (← drawn-bare) a)),
  )
