use Rattle.counting.proofs.Prelude.{◌≡◌, refl, ap, ◌∙◌, Bool, true, false}
use mir.Val.{bool_byte}
use Rattle.specification.specs.Count.{indicator}
use Rattle.specification.specs.Connection.{both?}
use Rattle.specification.specs.declared.Connection.{Connection}
use Rattle.reduction.proofs.Marks.{mark-read}
use Rattle.reduction.proofs.mark_in.Goals as goal

-- a flag as a number
flag : (b : Bool) → bool_byte b ≡ indicator b
flag true = refl
flag false = refl

-- `reduction::mark_in` meets its contract, by the law of a mask's bit (`Marks.antt`). Assumes nothing.
pub returns : goal.returns
returns c =
    c.from.ensures ∙ flag c.is_both.result
    ∙ ap indicator (c.is_both.ensures ∙ ap (λ (x : Connection). both? x) c.connected.ensures.case ∙ mark-read c.args.mask c.args.v)
