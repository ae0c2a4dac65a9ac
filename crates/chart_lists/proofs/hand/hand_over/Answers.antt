use Rattle.counting.proofs.Prelude.{◌≡◌, refl, sym, ap, ◌∙◌, arith, length, take}
use Rattle.std.specs.Prelude.{Ok}
use lib.Seq.{length-take-le}
use Rattle.specification.specs.Parts.{present?, bytes_of}
use Rattle.chart_plan.specs.Laid.{plan_told}
use Rattle.chart_plan.specs.Laid.{Lists, lists}
use Rattle.chart_lists.specs.Chart.{no_counts}
use Rattle.specification.proofs.Cases.{refusal_numbered}
use Rattle.chart_lists.proofs.Charted.{passed, charted}
use Rattle.chart_lists.proofs.Leaving.{zeros_cut, told-refused, call_refused, call_left}
use Rattle.chart_lists.proofs.Handing.{told_room, words_ready, arrows_ready, bundles_ready}
use Rattle.chart_lists.proofs.hand.hand_over.Goals as goal

pub returns-in-Err : goal.returns-in-Err
returns-in-Err c =
    let a = c.args in let g = a.g.now in
    let told = rw c.in-Err.is at c.accepted.ensures.refusal in
    let cleared = c.fill.ensures.after (λ _ e. e) in
    record {
      drawn = λ given field q.
          call_refused g.vertices g.ends.now given field (present? g.floors) (bytes_of g.floors) (plan_told a.planned)
          (lists q.edges a.below.now q.table a.longer.now a.places.now a.spans.now a.number.now a.used.now a.column.now) q.answer
          q.laid a.words.now a.arrows.now a.bundles.now _ told (refusal_numbered c.in-Err.refusal) _ _ refl
          (ap (take 128) cleared ∙ zeros_cut 128 (length a.used.now) q.columns);
      refused = λ ne. (
        ap no_counts (told-refused _ _ _ _ _ _ _ _ told ne),
        refl,
        refl,
        refl,
        refl,
        cleared,
      );
    }

pub put_words-requires : goal.put_words-requires
put_words-requires c =
    let f = words_ready _ _ _ _ _ _ _ _ _ _ _ _ _ _ _ _ _ c.requires c.accepted.ensures _ c.in-Ok.is in
    (omega (arith, f.0), f.1, f.2, f.3)

pub slice_bounds-put_arrows-end : goal.slice_bounds-put_arrows-end
slice_bounds-put_arrows-end c =
    let f = words_ready _ _ _ _ _ _ _ _ _ _ _ _ _ _ _ _ _ c.requires c.accepted.ensures _ c.in-Ok.is in
    sym (length-take-le _ _ f.3)

pub put_arrows-firm-requires : goal.put_arrows-firm-requires
put_arrows-firm-requires c =
    let f = arrows_ready _ _ _ _ _ _ _ _ _ _ _ _ _ _ _ _ _ c.requires c.accepted.ensures _ c.in-Ok.is _ in
    (omega (arith, f.0), f.1)

pub put_bundles-requires : goal.put_bundles-requires
put_bundles-requires c =
    let f = bundles_ready _ _ _ _ _ _ _ _ _ _ _ _ _ _ _ _ _ c.requires c.accepted.ensures _ c.in-Ok.is in
    (f.1, omega (arith, f.0), f.2)

pub returns : goal.returns
returns c =
    let a = c.args in let g = a.g.now in let plan = c.in-Ok.plan in
    let same : a.planned ≡ Ok plan = c.accepted.ensures.same _ c.in-Ok.is in
    let fits = arrows_ready _ _ _ _ _ _ _ _ _ _ _ _ _ _ _ _ _ c.requires c.accepted.ensures _ c.in-Ok.is c.make_left.new.left in
    let told = told_room _ _ _ _ _ _ _ c.accepted.ensures _ c.in-Ok.is in
    let need = rw same at c.requires in
    rw same (record {
      refused = λ ne. absurd (ne refl);
      drawn = λ given field q.
          let t : Lists =
          lists q.edges a.below.now q.table a.longer.now a.places.now a.spans.now a.number.now a.used.now a.column.now in
          call_left g.vertices g.ends.now given field (present? g.floors) (bytes_of g.floors) (plan_told (Ok plan)) t q.answer q.laid
          a.words.now a.arrows.now a.bundles.now _ told refl _ _ _ _ refl
          (charted g.vertices g.ends.now given field (present? g.floors) (bytes_of g.floors) (plan_told (Ok plan)) t (q.laid refl) _
          (length a.left.now) (need.left_room refl) c.make_left.ensures.0 a.words.now a.arrows.now a.bundles.now _ _ _ _ q.columns
          c.put_words.ensures
          (passed g.vertices g.ends.now given field (present? g.floors) (bytes_of g.floors) (plan_told (Ok plan)) t (q.laid refl) _
          (length a.left.now) (need.left_room refl) c.make_left.ensures.0 a.arrows.now _ _
          (omega (arith, fits.0)) c.put_arrows-firm.ensures) c.put_bundles.ensures);
    })
