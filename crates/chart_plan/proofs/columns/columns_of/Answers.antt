use Rattle.counting.proofs.Prelude.{refl, ◌≤◌, arith, length}
use Rattle.chart_plan.proofs.Owning.{start_part, owns_part}
use Rattle.chart_plan.proofs.Tabling.{tabled_part}
use Rattle.chart_plan.proofs.columns.columns_of.Goals as goal

pub own_columns-width-requires : goal.own_columns-width-requires
own_columns-width-requires c =
    let p = c.requires in
    let room : c.args.channels ≤ length c.args.tracks.now = omega (arith, p.few_channels, p.sizes.1) in
    (omega (arith, p.few_channels, (start_part _ _ room).0), refl, omega (arith, (start_part _ _ room).1, p.page))

pub returns : goal.returns
returns c =
    let p = c.requires in
    let room : c.args.channels ≤ length c.args.tracks.now = omega (arith, p.few_channels, p.sizes.1) in
    record {
      own = c.own_columns-width.new.own;
      owns = owns_part _ _ room c.own_columns-width.ensures;
      standing = tabled_part p.sizes.2 c.vertex_columns.ensures;
    }
