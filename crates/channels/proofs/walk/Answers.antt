use Rattle.std.proofs.lemmas.Result.{err_from_is_err_and}
use Rattle.counting.proofs.Prelude.{refl, sym, ap, ◌∙◌, arith}
use Rattle.specification.specs.Refusals.{number_in}
use Rattle.planning.proofs.Laying.{kept_same, kept_on}
use Rattle.specification.proofs.Cases.{refusal_numbered}
use Rattle.channels.proofs.Walking.{walking_none, walking_length, walked_unknown, walking_more, walked_all}
use Rattle.channels.proofs.Tabling.{tabling_none, tabling_length, tabling_more, walks_refused, walks_all}
use Rattle.channels.proofs.walk.Goals as goal
use Rattle.channels.proofs.walk.Goals.{then-left-eq0, else-left-eq0+else-n-v}

pub loop-byte-init : goal.loop-byte-init
loop-byte-init c = (walking_none _ _ _, tabling_none _ _ _ c.requires.3, kept_same _ _)

pub returns-then-n-v : goal.returns-then-n-v
returns-then-n-v c =
    let l = c.loop-byte in
    let i = l.invariant in
    walks_refused _ _ _ _ _ i.2 _ (λ z. omega arith)
    (sym (walked_unknown _ _ _ _ (omega arith) l.left l.last l.seen l.vertices _ i.0 _ refl c.if-left-eq0.false c.requires.0 c.requires.1
    c.if-n-v.true))

pub loop-byte-preserved : goal.loop-byte-preserved
loop-byte-preserved c =
    let l = c.loop-byte in
    let i = l.invariant in
    let here = c.loop-byte-test.true in
    elim c.if-left-eq0.branch [
      | then-left-eq0 w ↦
          rw (w.left-is, w.last-is, w.seen-is, w.vertices-is, w.found-is, w.p-is, w.count-is, w.places-is) (
            walking_length _ _ _ _ here l.left l.last l.seen l.vertices _ i.0 _ refl w.if-left-eq0.true,
            tabling_length _ _ _ here l.left l.p l.vertices _ _ i.1 _ refl w.if-left-eq0.true,
            i.2,
          )
      | else-left-eq0+else-n-v w ↦
          rw (w.left-is, w.last-is, w.seen-is, w.vertices-is, w.found-is, w.p-is, w.count-is, w.places-is) (
            walking_more _ _ _ _ here l.left l.last l.seen l.vertices _ i.0 _ refl w.if-left-eq0.false (c.type_inv.field _).fits _
                w.weigh-found.ensures.1 w.if-n-v.false (w.weigh-found.auto.seen ∙ i.0.masks) _ w.weigh-found.ensures.0,
            tabling_more _ _ _ here l.left l.p l.vertices _ _ i.1 _ refl i.0.counted w.if-left-eq0.false
                (omega (arith, c.requires.2, i.2.long)) _ _ w.lay-count.ensures,
            kept_on _ _ _ i.2 _ (w.lay-count.ensures.kept _ w.if-n-v.false),
          )
    ]

pub returns-in_err-found : goal.returns-in_err-found
returns-in_err-found c =
    let p = err_from_is_err_and c.from_residual.result c.from_residual.ensures.1 in
    let l = c.loop-byte in
    rw (p.1, p.2) (walks_refused _ _ _ _ _ l.invariant.2 _ (refusal_numbered c.in_err-found.field-0.0)
    (sym (ap (λ x. number_in x) c.in_err-found.was)
    ∙ walked_all _ _ _ _ l.left l.last l.seen l.vertices _ l.invariant.0 (omega arith) c.requires.0 c.requires.1))

pub returns : goal.returns
returns c =
    let l = c.loop-byte in
    walks_all _ _ _ _ _ l.invariant.2 _ c.requires.0 c.requires.1 _ l.left l.p l.last (omega arith)
    (rw c.in_ok-found.was at l.invariant.0) l.invariant.1
