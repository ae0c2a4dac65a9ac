-- What a chart's counts and entries are made of, or why there is none. Assumes nothing.
use Rattle.std.specs.Prelude.{List, ℕ, Result, Ok, Err, replicate}
use Rattle.specification.specs.declared.Refusal.{Refusal}
use Rattle.specification.specs.Refusals.{refusal_number}
use Rattle.chart_entries.specs.declared.Sheet as told

-- a refusal, or 0, and the tables
pub record Sheet : Type 0 where
  pub refusal : ℕ
  pub vertices : ℕ
  pub edges : ℕ
  pub bundles : ℕ
  pub rows : ℕ
  pub channels : ℕ
  pub width : ℕ
  pub tracks : List ℕ
  pub places : List ℕ
  pub column : List ℕ
  pub longer : List ℕ
  pub below : List ℕ
  pub left : List ℕ
  pub number : List ℕ
  pub spans : List ℕ

-- a refusal, with no entry
abbrev pub blank_of : ℕ → Sheet
blank_of k = record {
  refusal = k;
  vertices = 0;
  edges = 0;
  bundles = 0;
  rows = 0;
  channels = 0;
  width = 0;
  tracks = replicate 128 0;
  places = replicate 512 0;
  column = replicate 128 0;
  longer = replicate 256 0;
  below = replicate 512 0;
  left = replicate 258 0;
  number = replicate 256 0;
  spans = replicate 1024 0;
}

-- the tables that are made
abbrev pub sheet_told : told.Sheet → Sheet
sheet_told d = record {
  refusal = 0;
  vertices = d.vertices;
  edges = d.edges;
  bundles = d.bundles;
  rows = d.rows;
  channels = d.channels;
  width = d.width;
  tracks = d.tracks;
  places = d.places;
  column = d.column;
  longer = d.longer;
  below = d.below;
  left = d.left;
  number = d.number;
  spans = d.spans;
}

-- .. or why there are none
abbrev pub sheet_in : Result told.Sheet Refusal → Sheet
sheet_in (Ok d) = sheet_told d
sheet_in (Err k) = blank_of (refusal_number k)
