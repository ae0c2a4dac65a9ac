use Rattle.counting.proofs.Prelude.{refl, sym, arith}
use Rattle.channels.proofs.Checks.{known_none, known_length, known_found, known_more, known_all}
use Rattle.channels.proofs.unknown.Goals as goal
use Rattle.channels.proofs.unknown.Goals.{then-left-eq0, else-left-eq0+else-n-byte}

pub loop-byte-init : goal.loop-byte-init
loop-byte-init c = known_none _ _

pub returns-then-n-byte : goal.returns-then-n-byte
returns-then-n-byte c =
    sym (known_found _ _ _ (omega arith) _ c.loop-byte.invariant _ refl c.if-left-eq0.false c.if-n-byte.true)

pub loop-byte-preserved : goal.loop-byte-preserved
loop-byte-preserved c =
    let g = c.loop-byte.invariant in
    elim c.if-left-eq0.branch [
      | then-left-eq0 w ↦ rw w.left-is (known_length _ _ _ (omega arith) _ g _ refl w.if-left-eq0.true)
      | else-left-eq0+else-n-byte w ↦
          rw w.left-is (known_more _ _ _ (omega arith) _ g _ refl w.if-left-eq0.false w.if-n-byte.false)
    ]

pub returns : goal.returns
returns c = sym (known_all _ _ _ _ c.loop-byte.invariant (omega arith))
