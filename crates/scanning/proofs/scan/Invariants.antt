use Rattle.counting.proofs.Prelude.{◌≡◌, length}
use Rattle.scanning.proofs.Scanning.{Scanning}
use Rattle.scanning.proofs.scan.Given as goal

abbrev pub invariant-loop-i : goal.invariant-loop-i
invariant-loop-i l = (length l.edges ≡ length l.initial.edges) × Scanning l.n l.ends l.i l.edges l.double
