-- Of a list of 128 side columns the first 128 are all. Assumes nothing.
use Rattle.counting.proofs.Prelude.{◌≡◌, sym, subst, ◌∙◌, List, ℕ, arith, length, take}
use lib.Seq.{get_or-take, length-take-le, ext_get_or}
use Rattle.specification.specs.Drawn.{Drawn}
use Rattle.chart_lists.specs.Chart.{Counts, Left, whole}

pub left-whole : (d : Drawn) (ws es bs : List ℕ) (r : Counts) (used ws' es' bs' : List ℕ) → length used ≡ 128
    → Left d ws es bs (whole r (take 128 used)) ws' es' bs' → Left d ws es bs (whole r used) ws' es' bs'
left-whole d ws es bs r used ws' es' bs' e = subst (λ (x : List ℕ). Left d ws es bs (whole r x) ws' es' bs') all
  where
    long : length (take 128 used) ≡ 128
    long = length-take-le 128 used (omega (arith, e))

    all : take 128 used ≡ used
    all = ext_get_or 0 (take 128 used) used (long ∙ sym e) (λ i h. get_or-take 128 used i 0 (omega (arith, h, long)))
