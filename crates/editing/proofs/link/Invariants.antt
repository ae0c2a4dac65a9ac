use Rattle.counting.proofs.Prelude.{◌≡◌, ◌≤◌, length}
use Rattle.editing.specs.Promise.{Linked}
use Rattle.editing.proofs.Linking.{Target}
use Rattle.editing.proofs.link.Given as goal

abbrev pub invariant-loop-u : goal.invariant-loop-u
invariant-loop-u l =
    (l.u ≤ 128) × (length l.reach ≡ 256) × (length l.row ≡ 2) × Target 2 l.initial.reach l.head l.row
    × Linked 2 l.initial.reach l.tail l.head l.u l.reach
