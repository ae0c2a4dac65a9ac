use Rattle.counting.proofs.Prelude.{refl, sym, ◌∙◌, arith}
use Rattle.editing.proofs.Detours.{detour_by, detour-second}
use Rattle.editing.proofs.detour.Goals as goal

pub returns-then-passes : goal.returns-then-passes
returns-then-passes c =
    c.if-passes.true
    ∙ sym (detour_by 2 _ _ _ _ 0 0 _ (omega arith) refl c.mask_at.ensures (sym c.passes.ensures ∙ c.if-passes.true))

pub returns-else-passes : goal.returns-else-passes
returns-else-passes c =
    c.passes-else-passes.ensures
    ∙ sym
    (detour-second _ _ _ _ _ _ c.mask_at.ensures c.mask_at-else-passes.ensures
    (sym c.passes.ensures ∙ c.if-passes.false))
