-- The proof table (SPECIFICATION.md, 16), by computation. Assumes nothing.
use mathlib.Core.Path.{◌≡◌, refl}
use mathlib.Core.Bool.{Bool, true, false, ◌||◌}
use lib.Dec.{ltb}
use mathlib.Core.List.{flatten}
use Rattle.specification.specs.Count.{sum, count, some, above}
use Rattle.specification.specs.Graph.{edge?, reaches?, outsized?, strange?, verdict, refusal, reachable?, alternate, tails_of, heads_of}
use Rattle.specification.specs.Graph.{alike?, duplicate?, unsized?}
use Rattle.specification.specs.Planning.{predecessor_of, none?, is?, candidate, marked, taken, answered, freed, scan, augment, asks}
use Rattle.specification.specs.Planning.{matching_to, successor_from, successor, chain, begins, begun, planned_to, planned}
use Rattle.specification.specs.Channels.{has, place_from, linked, every, channel_from, channel_of, position_of, front, lines, filled}
use Rattle.specification.specs.Channels.{lines_of, given_lines, unknown?, repeats?, broken?}
use Rattle.specification.specs.Layout.{size_at, field_at, lined, with_floors, after_lines, with_lines, after_edges, with_edges}
use Rattle.specification.specs.Layout.{with_vertices, layout_of}
use Rattle.specification.specs.Checks.{Content, edges_of, connection_in, size?, unfloored?, floor?, stranger?, double?, ring?}
use Rattle.specification.specs.Checks.{repeated?, unled?, loose_checks, later_checks, first_of, refusal_of, content_of, record_refusal}
use Rattle.specification.specs.Checks.{said}
use Rattle.specification.specs.Given.{held_in, masked, unheld, without, beside, with_given}
use Rattle.specification.specs.Rows.{row_within}
use Rattle.specification.specs.Connection.{longer?, connects}
use Rattle.specification.specs.Marks.{transitive?, reduced_count}
use Rattle.specification.specs.Bundles.{alike, gathers, takes, bundle_of, joined, waits, waits_at, load, before, best, made, rounds}
use Rattle.specification.specs.Bundles.{bundles, adjacent?, apart?, side?, bundles_of}
use Rattle.specification.specs.Tracks.{lowest_free, earlier, meet, blocks, busy, placed, in_row, in_rows, tracks}
use Rattle.specification.specs.Geometry.{is_hit, is_blocked, block_start, own_column, bend_beside, course_of}
use Rattle.specification.specs.Chart.{leads?, descendants_of, floor_of, row_of, row_count, transitive_edge?, reduced_edges, channels_of}
use Rattle.specification.specs.Chart.{tracked}
use Rattle.specification.specs.Chart.{bundled, plan_of, tracks_in, column_in, width_of, kind_between, vertex_entry, edge_entry}
use Rattle.specification.specs.Chart.{bundle_entry}
use Rattle.specification.specs.Chart.{polyline_of}
use Rattle.specification.specs.Table.{graph1, graph5, housed, graph6, graph7, graph8, chain3, graph11, graph12, moving, meeting}
use Rattle.specification.specs.Numbers.{code_of, arrow_number}
use Rattle.specification.specs.Pairs.{passing, pairs_to}
use Rattle.specification.specs.Writing.{field, end_bytes, line_bytes, channel_field, floor_field, written}
use Rattle.specification.specs.Fixed.{raised?, fixed_form, rewritten, output_of, record_output}
use Rattle.specification.specs.Pass.{stored, next, after}
use Rattle.specification.specs.Table.{touching, detour, early, alone, early_after, record1, record5, record6, record7, record8}
use Rattle.specification.specs.Table.{record9, record10, record11, chained, lifted, raised, Table}
use Rattle.specification.specs.Bundles as bundling

-- ---- too many

or_right : (a b : Bool) → b ≡ true → (a || b) ≡ true
or_right true b e = refl
or_right false b e = e

outsized_refused : (c : Content) → size? c ≡ true → refusal_of c ≡ 2
unfolding refusal_of first_of loose_checks
outsized_refused c h = rw h

more_words : (c : Content) → c.vertices ≡ 129 → refusal_of c ≡ 2
unfolding size? outsized? unsized?
more_words c n = outsized_refused c (rw n)

more_arrows : (c : Content) → edges_of c ≡ 4097 → refusal_of c ≡ 2
unfolding size? outsized?
more_arrows c m = outsized_refused c (or_right (unsized? c.vertices) (ltb 4096 (edges_of c)) (rw m))

-- ---- the table

pub table : Table
unfolding leads? descendants_of floor_of row_of row_count transitive_edge? reduced_edges channels_of tracked bundled plan_of tracks_in
    column_in
    width_of
    kind_between vertex_entry edge_entry bundle_entry polyline_of graph1 graph5 housed graph6 graph7 graph8 chain3 graph11 graph12 lifted
    raised moving meeting
    touching detour early alone early_after after next stored code_of arrow_number record1 record5 record6 record7 record8 record9 record10
    record11 chained longer? connects connection_in sum count some edge? reaches? outsized? unsized?
    strange? verdict refusal reachable? predecessor_of none? is? candidate marked taken answered freed scan augment asks matching_to
    successor_from successor chain begins begun planned_to planned has place_from linked every channel_from channel_of position_of front
    lines
    filled lines_of unknown? repeats? broken? flatten given_lines held_in masked unheld without beside with_given size_at field_at lined
    with_floors after_lines with_lines after_edges with_edges with_vertices layout_of alternate tails_of heads_of alike? duplicate? size?
    unfloored? floor? stranger? double? ring?
    repeated? unled? loose_checks later_checks first_of refusal_of content_of record_refusal said above row_within transitive?
    reduced_count alike
    gathers takes bundling.taken bundle_of joined waits waits_at load before best made rounds bundles adjacent? apart? side? bundles_of
    lowest_free earlier meet blocks busy placed in_row in_rows tracks is_hit is_blocked block_start own_column bend_beside course_of
    passing pairs_to field end_bytes line_bytes channel_field floor_field written raised? fixed_form rewritten output_of record_output
table = record {
  p1 = (refl, refl, refl, refl);
  p1_only = refl;
  p1_how = (refl, refl, refl, refl, refl);
  p1_record = (refl, refl);
  p2 = refl;
  p3 = (refl, refl, refl, refl, refl);
  p3_used = refl;
  p4 = (refl, refl, refl, refl, refl, refl);
  p4_firm = refl;
  p5_record = (refl, refl);
  p5_line = refl;
  p5_bundles = refl;
  p5_tracks = (refl, refl);
  p5_own = (refl, refl, refl, refl);
  p5_counts = (refl, refl);
  p5_arrows = ((refl, refl, refl), (refl, refl, refl), (refl, refl, refl), (refl, refl, refl), (refl, refl, refl), (refl, refl, refl));
  p5_drawn = (refl, refl);
  p6_record = (refl, refl);
  p6_lines = refl;
  p6 = (refl, refl, refl);
  p6_drawn = refl;
  p7_record = (refl, refl);
  p7_lines = refl;
  p7 = (refl, refl, refl);
  p7_drawn = refl;
  p8_record = (refl, refl);
  p8 = (refl, refl);
  p9 = (refl, refl);
  p10 = (refl, refl);
  stranger_first = (refl, refl);
  named_first = (refl, refl);
  double_first = (refl, refl);
  repeated_first = (refl, refl);
  lacking_broken = (refl, refl);
  header = (refl, refl, refl, refl, refl, refl, refl);
  words = (refl, refl, refl, refl, refl);
  arrows = ((refl, refl, refl), (refl, refl, refl), (refl, refl, refl), (refl, refl, refl), (refl, refl, refl), (refl, refl, refl));
  beside_record = (refl, refl);
  beside_lines = refl;
  beside_how = refl;
  longer_led = (refl, refl);
  edge_led = (refl, refl);
  unreached_unled = (refl, refl);
  floor_record = (refl, refl);
  floor_rows = (refl, refl, refl, refl);
  floor_words = (refl, refl, refl);
  floors_short = (refl, refl);
  floors_long = (refl, refl);
  floors_none = (refl, refl);
  floor_over = (refl, refl);
  floor_most = refl;
  size_first = (refl, refl);
  floor_first = (refl, refl);
  floors_last = (refl, refl);
  floors_before = (refl, refl);
  no_arrows_field = (refl, refl);
  empty_lines_field = (refl, refl);
  empty_lines_planned = refl;
  more_words = more_words;
  more_arrows = more_arrows;
  moved = refl;
  by_routes = refl;
  shared = (refl, refl, refl);
  longer = (refl, refl, refl);
  whole_graph = (refl, refl);
  one_more = refl;
  at_last = refl;
  fixed_order = (refl, refl);
  fixed_lines = (refl, refl);
  fixed_empty_lines = (refl, refl);
  fixed_flat = (refl, refl);
  fixed_floors = (refl, refl);
  fixed_room = refl;
  fixed_short = refl;
  fixed_ring = refl;
}
