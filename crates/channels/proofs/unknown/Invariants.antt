use Rattle.channels.proofs.Checks.{Known}
use Rattle.channels.proofs.unknown.Given as goal

abbrev pub invariant-loop-byte : goal.invariant-loop-byte
invariant-loop-byte l = Known l.n l.field l.byte-index l.left
