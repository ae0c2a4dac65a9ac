use Rattle.counting.proofs.Prelude.{refl, sym, ◌∙◌}
use Rattle.descent.proofs.Answering.{fits_sized, descends_misfit, descends_ends, descends_ready, descends_ranked}
use Rattle.specification.proofs.Cases.{refusal_numbered}
use Rattle.std.proofs.lemmas.Result.{err_from_is_err_and}
use Rattle.descent.proofs.descend.Goals as goal

pub returns-then-not-is_fit : goal.returns-then-not-is_fit
returns-then-not-is_fit c =
    let a = c.args in
    descends_misfit a.n a.ends.now a.edges.now a.below.now a.table.now a.longer.now a.places.now _ _
    c.is_fit.ensures c.if-not-is_fit.true refl

pub returns-in_err-scanned : goal.returns-in_err-scanned
returns-in_err-scanned c =
    let a = c.args in
    let p = err_from_is_err_and c.from_residual.result c.from_residual.ensures.1 in
    rw (p.1, p.2)
    (descends_ends a.n a.ends.now a.edges.now a.below.now a.table.now a.longer.now a.places.now
    (fits_sized _ _ _ _ _ _ (sym c.is_fit.ensures ∙ c.if-not-is_fit.false)) _ _ c.in_err-scanned.ensures _ refl
    (refusal_numbered c.in_err-scanned.field-0.0))

pub ranked-requires : goal.ranked-requires
ranked-requires c =
    let a = c.args in
    descends_ready a.n a.ends.now a.edges.now a.below.now a.table.now a.longer.now a.places.now
    (fits_sized _ _ _ _ _ _ (sym c.is_fit.ensures ∙ c.if-not-is_fit.false)) 0 _ c.in_ok-scanned.ensures refl

pub returns : goal.returns
returns c =
    let a = c.args in
    descends_ranked a.n a.ends.now a.edges.now a.below.now a.table.now a.longer.now a.places.now
    (fits_sized _ _ _ _ _ _ (sym c.is_fit.ensures ∙ c.if-not-is_fit.false))
    0 _ c.in_ok-scanned.ensures refl _ _ _ _ _ c.ranked.ensures (
      c.scanned.auto.edges,
      c.ranked.auto.below,
      c.ranked.auto.table,
      c.ranked.auto.longer,
      c.ranked.auto.places,
    )
