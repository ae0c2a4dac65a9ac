use Rattle.counting.proofs.Prelude.{◌≡◌, sym, true, rules}
use Rattle.specification.specs.Channels.{vertices_of, unknown?}
use Rattle.record.proofs.checks.first_of.Goals as goal

pub returns-in-Double-Some : goal.returns-in-Double-Some
returns-in-Double-Some c =
    let u : unknown? c.args.g.now.vertices (vertices_of c.in-Double-Some.lines.now) ≡ true = sym c.if-unknown.ensures in search rules
