use Rattle.counting.proofs.Prelude.{sym, arith}
use Rattle.counting.proofs.Sizes.{none_unsized, many_unsized, size-refused, size-taken, sized}
use Rattle.channels.proofs.sized.Goals as goal
use Rattle.channels.proofs.sized.Goals.{then-n-eq0-via-then-n-eq0, then-n-eq0-via-else-n-eq0+then-n-gt-MOST}

-- `channels::sized` meets its contract, return by return. Assumes nothing.
pub returns-then-n-eq0 : goal.returns-then-n-eq0
returns-then-n-eq0 c = record {
  short = λ l. absurd (omega arith);
  size = λ _.
      elim c.then-n-eq0.branch [
        | then-n-eq0-via-then-n-eq0 w ↦ sym (size-refused _ (none_unsized _ w.if-n-eq0.true))
        | then-n-eq0-via-else-n-eq0+then-n-gt-MOST w ↦ sym (size-refused _ (many_unsized _ w.if-n-gt-MOST.true))
      ];
  fits = λ z. absurd (omega arith);
}

pub returns : goal.returns
returns c =
    let some = c.if-n-eq0.false in
    let few = c.if-n-gt-MOST.false in record {
      short = λ l. absurd (omega arith);
      size = λ _. sym (size-taken _ (sized _ some few));
      fits = λ _. (some, few, omega arith);
    }
