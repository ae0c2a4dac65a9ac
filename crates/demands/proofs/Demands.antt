-- THE DEMANDS, proved of the chart that the definitions give of every sound graph, and of what every call leaves. Of a call nothing is
-- asked but its promise. The statements are in specs/Demands.antt and specs/Refusals.antt, and in specification's specs/Lawful.antt.
-- Assumes nothing.
use Rattle.counting.proofs.Prelude.{◌≡◌, sym, ◌∙◌, subst, ◌≢◌, ◌↔◌, Bool, true, false, List, ℕ, suc, ◌/◌, ◌≤◌, ◌<◌, arith, length, ltb-true}
use Rattle.counting.proofs.Prelude.{lt-ltb, eq-eqb, eqb-true}
use Rattle.specification.specs.Limits.{most_channels}
use Rattle.specification.specs.Channels.{given_lines}
use Rattle.specification.specs.Given.{Whole}
use Rattle.specification.specs.Writing.{Draft, written, Writable}
use Rattle.specification.specs.Numbers.{word_numbers, arrow_numbers, bundle_numbers}
use Rattle.rows.specs.Levels.{level, levels_used}
use Rattle.specification.specs.Checks.{Content, edges_of, Sized, Floored, Distinct, Acyclic, Once, Led, Sound, SoundRecord, content_of}
use Rattle.specification.specs.Checks.{said, given_of}
use Rattle.matching.proofs.Beside.{none_whole}
use Rattle.specification.specs.Chart.{tail_of, head_of, floor_of, row_of, channels_of, plan_of, row_count, reduced_edges, tracks_in}
use Rattle.specification.specs.declared.VertexEntry.{VertexEntry}
use Rattle.specification.specs.declared.EdgeEntry.{EdgeEntry}
use Rattle.specification.specs.declared.BundleEntry.{BundleEntry}
use Rattle.specification.specs.Drawn.{broad?, chart_refusal, judged, record_drawn, graph_content, graph_drawn, lent}
use Rattle.chart_plan.proofs.Refusals.{record_sound, graph_sound}
use Rattle.specification.specs.Pass.{as_numbers, as_entries}
use Rattle.lists.specs.Marking.{Marking}
use Rattle.chart_entries.specs.Promise.{HandedOver}
use Rattle.chart_entries.proofs.Refusals.{refused_untouched, Refused}
use Rattle.chart_lists.specs.Chart.{Left}
use Rattle.chart_numbers.specs.Chart.{HandedFlat}
use Rattle.ceviloneth.proofs.Refusing as flat
use Rattle.ceviloneth.specs.State.{state_numbers, Tells}
use Rattle.ceviloneth.specs.Calls.{LentCall, LentAnswer, Calls, Life, life_run, Lived, Short}
use Rattle.ceviloneth.proofs.Sequences.{every_life, every-answer, every-short}
use Rattle.specification.specs.Graph.{Edge, edge?}
use Rattle.specification.specs.Connection.{connection_number}
use Rattle.specification.specs.Machine.{Graph, Call, Answer, run, fresh}
use Rattle.specification.specs.Asked.{leading_of, asked}
use Rattle.specification.specs.Asked.{Reply}
use Rattle.specification.specs.declared.Leading.{Leading}
use Rattle.editing.specs.declared.Session.{Session}
use Rattle.editing.specs.Promise.{Changed, StartPromise, LeadsPromise}
use Rattle.editing.specs.Histories.{History}
use Rattle.editing.specs.Meaning as session
use Rattle.editing.proofs.Sequences as value
use Rattle.demands.specs.Leading.{Asks}
use Rattle.demands.proofs.Asking.{reply-asks, leads-asks}
use Rattle.demands.specs.Demands.{Entries, entries_in, entries_of, ours_of, seen, Faithful, Roomy, Ample, unlined, Smallest, Counted}
use Rattle.demands.specs.Demands.{Carried, Flat, floorless}
use Rattle.demands.specs.Numbers.{number_at, vertex_from, edge_from, entries_from}
use Rattle.demands.specs.Refusals.{Known, Broad, Answered, AnsweredRecord, Told, Narrow}
use Rattle.demands.proofs.Agreeing.{defined_shown, ours_agrees}
use Rattle.demands.proofs.Least.{agreed_smallest, agreed_counted}
use Rattle.demands.proofs.Showing.{shown_faithful}
use Rattle.demands.proofs.Accepting.{Handed}
use Rattle.demands.proofs.Answering as answering
use Rattle.demands.proofs.Answering.{sound_parts, broad_decided, roomy_most}
use Rattle.demands.proofs.Records.{said-fields, said-ends, said-answered, said-told, said_narrow, said-drawn, said-clear, said-least}
use Rattle.demands.proofs.Handing.{handed-lists, handed-numbers}
use Rattle.demands.proofs.Marking as marked
use Rattle.demands.proofs.Unlined.{empty_as_none}
use Rattle.demands.proofs.Flat.{flat_rows, flat-count, flat_as_none}
use Rattle.specification.specs.declared.ChartCounts.{ChartCounts}

-- ---- the chart of a sound graph

module _ (c : Content) (s : Sound c) where
  -- no lawful chart is smaller, and the counts are those handed over (SPECIFICATION.md, 10.4 and 10.5)
  pub chart_smallest : Smallest c (ours_of c) × Counted c (ours_of c) (row_count c) (length (channels_of c)) (reduced_edges c)
      (length (plan_of c).bundles) (tracks_in (plan_of c))
  chart_smallest = (agreed_smallest c s (ours_of c) (ours_agrees c), agreed_counted c s (ours_of c) (ours_agrees c))

  -- reduced edges reach what all edges do, and lines are clear (15.3)
  pub chart_faithful : Faithful c (entries_of c)
  chart_faithful = shown_faithful c s (entries_of c) (defined_shown c)

-- the graph of a sound record is what its fields say
pub record_says : (b : List ℕ) (s : SoundRecord b) → said b ≡ content_of b s.0
record_says = said-fields

-- sound is what fails no check (13.3)
pub sound_passes : (c : Content) → Sound c ↔ (Sized c × Floored c × Known c × Distinct c × Acyclic c × Once c × Led c)
sound_passes = sound_parts

-- without given channels every division has them whole, so that no lawful chart at all has fewer parts than ours then (10.5)
pub bare-whole : (c : Content) → c.given ≡ false → (part : ℕ → ℕ) → Whole c.vertices (given_of c) part
unfolding given_lines
bare-whole c g part = rw g (none_whole c.vertices part)

-- a broad graph is one whose every division that has the given channels whole has more than 31 parts, and ours is one of them: the count of
-- our channels tells it (13.1)
pub broad_exactly : (c : Content) → Sound c → Broad c ↔ (most_channels < length (channels_of c))
unfolding broad?
broad_exactly c s =
    let d = broad_decided c s in
    ((λ b. ltb-true most_channels (length (channels_of c)) (d.1 b)), λ l. d.0 (lt-ltb most_channels (length (channels_of c)) l))

-- ---- how one word leads to another

-- the exported call of a record, `ceviloneth_leads`: which questions are answered, and what the four numbers mean (2.4, 14.4)
pub exported-leads : (b : List ℕ) (u v : ℕ) (a : Leading) → a ≡ leading_of (asked b u v) → Asks b u v a.refusal a.leads
exported-leads b u v = leads-asks b u v

-- the same by value, `record::reading::ask`
pub record_leads : (b : List ℕ) (u v : ℕ) (r : Reply) → r ≡ asked b u v → Asks b u v r.refusal (connection_number r.connection)
record_leads b u v = reply-asks b u v

-- a session by value, `editing::Session::leads`, after every list of calls (11.3, 11.4)
pub session_leads : (n : ℕ) (r : Changed) → StartPromise n r → {cs : List Call} {out : List Answer} {z : Session}
    → History r.session cs out z → (u v : ℕ) (a : Reply) → LeadsPromise z u v a
    → session.Asks (run (fresh n) cs) u v a.refusal (connection_number a.connection)
session_leads = value.every-answer

-- ---- every call: the lists vs, es and bs are lent, r is the answer, and vs', es' and bs' are the lists afterwards

module _ (vs vs' : List VertexEntry) (es es' : List EdgeEntry) (bs bs' : List BundleEntry) (r : ChartCounts) where
  -- what the caller has then
  abbrev entries : Entries
  entries = entries_in vs' es' bs'

  -- every list has room
  abbrev lists_room : Content → Type 0
  lists_room c = Roomy c (length vs) (length es) (length bs)

  -- of a record b
  module _ (b : List ℕ) (h : HandedOver (record_drawn b) vs es bs r vs' es' bs') where
    abbrev of_record : Handed (length vs) (length es) (length bs) (record_drawn b) r entries
    of_record = handed-lists _ vs vs' es es' bs bs' r h

    -- 0, 11 and 8, each exactly where it is so (13.1, 15.2)
    pub record_told : Told (SoundRecord b) (Broad (said b)) (lists_room (said b)) r.refusal
    record_told = said-told b _ _ _ r entries of_record

    -- and every number, exactly where its check is the first that fails (13.1)
    pub record_answered_exactly : (k : ℕ) → (r.refusal ≡ k) ↔ AnsweredRecord b lists_room k
    record_answered_exactly = said-answered b _ _ _ r entries of_record

    -- a refusal changes no list, and every count is 0 then (9.3)
    pub record_refused : (r.refusal ≡ 0 → ⊥) → Refused vs es bs r vs' es' bs'
    record_refused = refused_untouched (record_drawn b) (record_sound b) vs vs' es es' bs bs' r h

    -- no more than 31 lines (9.1)
    pub record_narrow : Narrow r
    record_narrow = said_narrow b _ _ _ r entries of_record

    -- the entries, by 15.3
    pub record_faithful : r.refusal ≡ 0 → Faithful (said b) entries
    record_faithful = said-clear b _ _ _ r entries of_record

    -- the entries, by 10.4 and 10.5
    pub record_smallest : r.refusal ≡ 0 → Smallest (said b) (seen (said b) r entries) × Carried (said b) (seen (said b) r entries) r
    record_smallest = said-least b _ _ _ r entries of_record

    -- the list of edges and the count as states of one pass, edge by edge (5.2)
    pub record_marking : r.refusal ≡ 0 → Marking as_entries (said b) (plan_of (said b)) es es' r.firm
    record_marking z = marked.entries_marking (record_drawn b) vs vs' es es' bs bs' r (said b) h z
        (said-drawn b _ _ _ r entries of_record z)

  -- of a graph: n vertices, the bytes of the edges' ends, those of the given channels, if any are given, and the floors, if there are any
  module _ (n : ℕ) (ends : List ℕ) (given : Bool) (field : List ℕ) (floored : Bool) (floors : List ℕ)
      (h : HandedOver (graph_drawn n ends given field floored floors) vs es bs r vs' es' bs') where
    abbrev c : Content
    c = graph_content n ends given field floored floors

    of_graph : Handed (length vs) (length es) (length bs) (judged (chart_refusal c) c) r entries
    unfolding graph_drawn
    of_graph = handed-lists _ vs vs' es es' bs bs' r h

    pub graph_told : Told (Sound c) (Broad c) (lists_room c) r.refusal
    graph_told = answering.graph_told c _ _ _ r entries of_graph

    pub graph_answered_exactly : (k : ℕ) → (r.refusal ≡ k) ↔ Answered c lists_room k
    graph_answered_exactly = answering.graph_answered c _ _ _ r entries of_graph

    pub graph_refused : (r.refusal ≡ 0 → ⊥) → Refused vs es bs r vs' es' bs'
    graph_refused =
        refused_untouched (graph_drawn n ends given field floored floors) (graph_sound n ends given field floored floors) vs vs' es es' bs
        bs'
        r h

    pub graph_narrow : Narrow r
    graph_narrow = answering.graph_narrow c _ _ _ r entries of_graph

    pub graph_faithful : r.refusal ≡ 0 → Faithful c entries
    graph_faithful = answering.graph_clear c _ _ _ r entries of_graph

    pub graph_smallest : r.refusal ≡ 0 → Smallest c (seen c r entries) × Carried c (seen c r entries) r
    graph_smallest = answering.graph_least c _ _ _ r entries of_graph

    pub graph_marking : r.refusal ≡ 0 → Marking as_entries c (plan_of c) es es' r.firm
    unfolding graph_drawn
    graph_marking z = marked.entries_marking _ vs vs' es es' bs bs' r c h z (answering.graph-drawn c _ _ _ r entries of_graph z)

-- ---- the calls on numbers: the lists ws, es and bs of numbers are lent, and ws', es' and bs' are these afterwards

module _ (ws ws' es es' bs bs' : List ℕ) (r : ChartCounts) where
  -- every list has room, by how many numbers an entry has
  abbrev room : Content → Type 0
  room c = Roomy c (length ws / word_numbers) (length es / arrow_numbers) (length bs / bundle_numbers)

  -- what the caller reads then
  abbrev read : Entries
  read = entries_from ws' es' bs'

  -- the exported call of a record b, `ceviloneth_chart`
  module _ (b : List ℕ) (h : HandedFlat b ws es bs r ws' es' bs') where
    abbrev exported : Handed (length ws / word_numbers) (length es / arrow_numbers) (length bs / bundle_numbers) (record_drawn b) r read
    exported = handed-numbers (record_drawn b) ws ws' es es' bs bs' r h

    -- accepted are the sound records that are not broad, with room in every list (15.2); 11 and 8 are answered exactly where it is so
    pub exported-told : Told (SoundRecord b) (Broad (said b)) (room (said b)) r.refusal
    exported-told = said-told b _ _ _ r read exported

    -- and every number is answered exactly where its check is the first that fails (13.1)
    pub exported-answered_exactly : (k : ℕ) → (r.refusal ≡ k) ↔ AnsweredRecord b room k
    exported-answered_exactly = said-answered b _ _ _ r read exported

    -- lists of the lengths that the header names hold every chart: 8 is not answered
    pub exported_never_short : Ample ws es bs → r.refusal ≢ 8
    exported_never_short m p =
        let q = exported-told.short_exactly.0 p in
        q.2 (subst room (sym (said-fields b q.0)) (roomy_most _ q.0.2 _ _ _ (omega (arith, m.words)) (omega (arith, m.arrows))
        (omega (arith, m.bundles))))

    -- a refusal changes no list, and every count is 0 then (9.3)
    pub exported-refused : (r.refusal ≡ 0 → ⊥) → flat.Refused ws es bs r ws' es' bs'
    exported-refused = flat.refused_untouched (record_drawn b) (record_sound b) ws ws' es es' bs bs' r h

    -- whatever is answered, there are no more than 31 lines, and the side columns of others are 0 (9.1)
    pub exported_narrow : Narrow r
    exported_narrow = said_narrow b _ _ _ r read exported

    -- the numbers, by 15.3
    pub exported_faithful : r.refusal ≡ 0 → Faithful (said b) read
    exported_faithful = said-clear b _ _ _ r read exported

    -- the numbers, by 10.4 and 10.5
    pub exported_smallest : r.refusal ≡ 0 → Smallest (said b) (seen (said b) r read) × Carried (said b) (seen (said b) r read) r
    exported_smallest = said-least b _ _ _ r read exported

    -- the numbers of the arrows and the count of firm ones as states of one pass, arrow by arrow (5.2)
    pub exported_marking : r.refusal ≡ 0 → Marking as_numbers (said b) (plan_of (said b)) es es' r.firm
    exported_marking z = marked.numbers_marking (record_drawn b) ws ws' es es' bs bs' r (said b) h z (said-drawn b _ _ _ r read exported z)

    -- an arrow's mark is 1 exactly where its ends, asked of the same record, answer 3 'by both' (5.1)
    pub exported-implied : r.refusal ≡ 0 → (e : ℕ) → e < edges_of (said b) → (a : Leading)
        → a ≡ leading_of (asked b (tail_of (said b) e) (head_of (said b) e)) → (number_at arrow_numbers es' e 4 ≡ 1) ↔ (a.leads ≡ 3)
    unfolding edge_from
    exported-implied z e l a q =
        let s = (exported-told.accepted_exactly.0 z).0 in
        let t = exported-leads b _ _ a q in
        let h = t.told (t.known.1 (s, said-ends b s e l)) in
        let f = (exported_faithful z).both e l in
        ((λ x. h ∙ f.0 (eq-eqb _ 1 x)), λ x. eqb-true _ 1 (f.1 (sym h ∙ x)))

    -- words next to each other in a line, the editor's or a planned one, never answer 0 'not at all', and 2 'by longer routes only' where
    -- no arrow goes from one to the next (15.5)
    pub exported_neighbours : r.refusal ≡ 0 → (u v : ℕ) → u < (said b).vertices → v < (said b).vertices
        → number_at word_numbers ws' u 0 ≡ number_at word_numbers ws' v 0
        → number_at word_numbers ws' v 1 ≡ suc (number_at word_numbers ws' u 1)
        → (a : Leading) → a ≡ leading_of (asked b u v)
        → (a.leads ≢ 0) × ((Edge (said b).tails (said b).heads u v → ⊥) → a.leads ≡ 2)
    unfolding vertex_from
    exported_neighbours z u v hu hv together next a q =
        let t = exported-leads b u v a q in
        let h = t.told (t.known.1 ((exported-told.accepted_exactly.0 z).0, (hu, hv))) in
        let f = exported_faithful z in
        ((λ x. f.led u v hu hv (together, next) (sym h ∙ x)), λ none. h ∙ f.apart u v hu hv (together, next) none)

  -- the same of a graph, `chart_numbers::of_graph`
  module _ (n : ℕ) (ends : List ℕ) (given : Bool) (field : List ℕ) (floored : Bool) (floors : List ℕ)
      (h : Left (lent (length ws / word_numbers) (length es / arrow_numbers) (length bs / bundle_numbers)
      (graph_drawn n ends given field floored floors)) ws es bs r ws' es' bs') where
    abbrev drawn : Content
    drawn = graph_content n ends given field floored floors

    numbers : Handed (length ws / word_numbers) (length es / arrow_numbers) (length bs / bundle_numbers)
        (judged (chart_refusal drawn) drawn)
        r read
    unfolding graph_drawn
    numbers = handed-numbers (graph_drawn n ends given field floored floors) ws ws' es es' bs bs' r h

    pub numbers-told : Told (Sound drawn) (Broad drawn) (room drawn) r.refusal
    numbers-told = answering.graph_told drawn _ _ _ r read numbers

    pub numbers-answered_exactly : (k : ℕ) → (r.refusal ≡ k) ↔ Answered drawn room k
    numbers-answered_exactly = answering.graph_answered drawn _ _ _ r read numbers

    pub numbers-refused : (r.refusal ≡ 0 → ⊥) → flat.Refused ws es bs r ws' es' bs'
    numbers-refused =
        flat.refused_untouched (graph_drawn n ends given field floored floors) (graph_sound n ends given field floored floors) ws ws' es
        es' bs bs' r h

    pub numbers_narrow : Narrow r
    numbers_narrow = answering.graph_narrow drawn _ _ _ r read numbers

    pub numbers_faithful : r.refusal ≡ 0 → Faithful drawn read
    numbers_faithful = answering.graph_clear drawn _ _ _ r read numbers

    pub numbers_smallest : r.refusal ≡ 0 → Smallest drawn (seen drawn r read) × Carried drawn (seen drawn r read) r
    numbers_smallest = answering.graph_least drawn _ _ _ r read numbers

    pub numbers_marking : r.refusal ≡ 0 → Marking as_numbers drawn (plan_of drawn) es es' r.firm
    unfolding graph_drawn
    numbers_marking z = marked.numbers_marking _ ws ws' es es' bs bs' r drawn h z (answering.graph-drawn drawn _ _ _ r read numbers z)

-- ---- the exported calls of a session in a lent list, `ceviloneth_session_start`, `_add` and `_leads`: calls cs in any order, each by a
-- result that meets its promise, answer out, and is is the list was afterwards

module _ {was is : List ℕ} {cs : List LentCall} {out : List LentAnswer} (h : Calls was cs out is) where
  -- whatever the numbers are: from the first accepted start on every answer is the machine's, and the list spells its graph; a refused
  -- start leaves the earlier machine (11.4, 11.5)
  pub exported_sessions : state_numbers ≤ length was → Lived Life.unstarted was cs out is
  exported_sessions long = every_life long h

  -- how one word leads to another: where a machine is running the answer is what its arrows say, one of four (11.3)
  pub exported_session_leads : state_numbers ≤ length was → (g : Graph) → life_run Life.unstarted cs ≡ Life.running g
      → (u v : ℕ) (a : Leading) → Tells is u v a → session.Asks g u v a.refusal a.leads
  exported_session_leads long = every-answer long h

  -- a list that is too short for a session: each call is refused with 8, and nothing changes
  pub exported_sessions_short : length was < state_numbers → Short was cs out is
  exported_sessions_short few = every-short few h

-- ---- floors

-- with floors all 0, or none, rows are what they are by the edges alone: 0 where no edge enters, else one more than the highest of the
-- tails (4.2), and so is their number
pub rows-flat : (c : Content) → ((v : ℕ) → v < c.vertices → floor_of c v ≡ 0)
    → ((v : ℕ) → v < c.vertices → row_of c v ≡ level (edge? c.tails c.heads) c.vertices v)
    × (row_count c ≡ levels_used (edge? c.tails c.heads) c.vertices)
rows-flat c none = (flat_rows c none, flat-count c none)

-- a record with floors of 0 is answered as the one without floors, in every number (4.2)
pub exported-flat_as_none : (x : Draft) → Writable x → Flat x → (ws es bs : List ℕ) (r : ChartCounts) (ws' es' bs' : List ℕ)
    → HandedFlat (written x) ws es bs r ws' es' bs' ↔ HandedFlat (written (floorless x)) ws es bs r ws' es' bs'
exported-flat_as_none = flat_as_none

-- ---- given channels

-- a record with an empty field of given channels is answered as the one without it, in every number (1.4)
pub exported-empty_as_none : (n : ℕ) (edges : List (ℕ × ℕ)) → Writable (unlined n edges true)
    → (ws es bs : List ℕ) (r : ChartCounts) (ws' es' bs' : List ℕ)
    → HandedFlat (written (unlined n edges true)) ws es bs r ws' es' bs'
    ↔ HandedFlat (written (unlined n edges false)) ws es bs r ws' es' bs'
exported-empty_as_none = empty_as_none
