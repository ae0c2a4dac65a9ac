-- Worked examples of the machine, by computation. Assumes nothing.
use Rattle.std.specs.Prelude.{◌≡◌, refl, List, [], ◌∷◌, ℕ, zero, suc}
use Rattle.specification.specs.Count.{some}
use Rattle.specification.specs.Graph.{reaches?, size_refusal, unsized?}
use Rattle.specification.specs.Connection.{longer?, connects}
use Rattle.specification.specs.declared.Connection.TheVariants.{Unreached, EdgeOnly, LongerOnly, Both}
use Rattle.specification.specs.Machine.{Edge, Graph, contains, unknown?, reached?, cyclic?, full?, verdict, refusal, insert, change}
use Rattle.specification.specs.Machine.{reply, connected, step, run, answers, start_vertices, fresh}
use Rattle.specification.specs.Machine.Edge.{edge}
use Rattle.specification.specs.Machine.Call.{add, leads}
use Rattle.specification.specs.Machine.Answer.{refused, added, told}
use Rattle.specification.specs.Machine as machine

-- a list of k edges, for the order of the tests: it stands for a full set, and is none that the machine comes to
unfoldable pub copies : ℕ → List Edge
copies zero = []
copies (suc k) = edge 0 1 ∷ copies k

unfoldable pub crowded : Graph
crowded = record { vertices = 4; edges = copies 4096 }

pub record Worked : Type 0 where
  -- P9 and P10 (SPECIFICATION.md, 16.1)
  pub p9 : answers (fresh 1) (add 0 0 ∷ []) ≡ refused 5 ∷ []
  pub p10 : answers (fresh 2) (add 0 1 ∷ add 0 1 ∷ []) ≡ added ∷ refused 4 ∷ []
  -- a refused start: no vertex is known
  pub none : size_refusal 0 ≡ 2
  pub many : size_refusal 129 ≡ 2
  pub most : size_refusal 128 ≡ 0
  pub empty : answers (fresh 129) (add 0 1 ∷ leads 0 0 ∷ []) ≡ refused 3 ∷ refused 3 ∷ []
  -- a refused edge changes nothing
  pub session : answers (fresh 3) (add 0 1 ∷ add 1 2 ∷ leads 0 2 ∷ add 2 0 ∷ leads 2 0 ∷ add 0 3 ∷ leads 3 0 ∷ add 0 2 ∷ [])
      ≡ added ∷ added ∷ told LongerOnly ∷ refused 5 ∷ told Unreached ∷ refused 3 ∷ refused 3 ∷ added ∷ []
  -- an edge beside a longer route
  pub beside : answers (fresh 3) (add 0 1 ∷ add 1 2 ∷ leads 0 1 ∷ add 0 2 ∷ leads 0 2 ∷ leads 0 0 ∷ [])
      ≡ added ∷ added ∷ told EdgeOnly ∷ added ∷ told Both ∷ told Unreached ∷ []
  -- the order of the refusals: 3, 4, 5, 9
  pub strange : refusal crowded 0 4 ≡ 3
  pub duplicate : refusal crowded 0 1 ≡ 4
  pub loop : refusal crowded 2 2 ≡ 5
  pub full : refusal crowded 2 3 ≡ 9

pub worked : Worked
unfolding answers run step change reply insert refusal verdict unknown? reached? connected longer? connects some cyclic? full? contains
    reaches? fresh machine.empty size_refusal unsized? start_vertices crowded copies
worked = record {
  p9 = refl;
  p10 = refl;
  none = refl;
  many = refl;
  most = refl;
  empty = refl;
  session = refl;
  beside = refl;
  strange = refl;
  duplicate = refl;
  loop = refl;
  full = refl;
}
