use Rattle.counting.proofs.Prelude.{refl, ◌∙◌, ◌+◌, ◌*◌, arith}
use lib.Bits.{or_lt}
use Rattle.counting.proofs.Quads.{quad-same, quad_other}
use Rattle.descent.proofs.Descending.{stored_law, long_law, nested_law, vertex_law}
use Rattle.descent.proofs.close_vertex.Goals as goal

pub reached-far-requires : goal.reached-far-requires
reached-far-requires c =
    let a = c.args in
    let room = long_law a.edges.now a.table.now a.u _ _ c.requires.0 refl refl c.requires.5 in
    (room.0, room.1, nested_law a.edges.now a.table.now a.u _ _ c.requires.0 refl refl c.requires.6)

pub returns : goal.returns
returns c =
    let a = c.args in
    let pre = c.requires in
    let far = c.reached-far in
    vertex_law a.edges.now a.table.now a.longer.now a.places.now a.u _ _ far.result.low far.result.high
    pre.0 refl refl far.ensures pre.6 _ _ _ (stored_law a.table.now a.u _ _ (omega arith))
    (stored_law a.longer.now a.u _ _ (omega arith))
    (quad-same a.places.now a.u 3 _ (omega arith) ∙ c.members.ensures)
    (λ i v h o. quad_other a.places.now v i a.u 3 _ h (omega arith) (λ e f. o f e))
    (or_lt 64 _ _ (c.type_inv.edges (2 * a.u)).fits (omega arith))
    (or_lt 64 _ _ (c.type_inv.edges (2 * a.u + 1)).fits (omega arith))
