use Rattle.counting.proofs.Prelude.{◌≡◌, sym, ap, ◌∙◌, ℕ, List, arith, length, get_or, replicate, rules}
use Rattle.counting.proofs.Sizes.{outsized_back}
use Rattle.counting.proofs.Zeros.{zeros}
use Rattle.scanning.proofs.Scanning.{scans_outsized, scans_checked}
use Rattle.scanning.proofs.scanned.Goals as goal

pub returns-then-is_outsized : goal.returns-then-is_outsized
returns-then-is_outsized c =
    let a = c.args in
    scans_outsized a.n a.ends.now a.edges.now (omega (arith, c.min.ensures)) (sym c.if-is_outsized.ensures)

pub scan-requires : goal.scan-requires
scan-requires c =
    let small = (outsized_back _ _ (sym c.if-is_outsized.ensures)).1 in
    let whole : c.fill.new.self ≡ replicate (length c.args.edges.now) 0 = search rules in (
      small,
      omega (arith, c.min.ensures, c.fill.ensures.len),
      record { zero = λ i. ap (λ (t : List ℕ). get_or t i 0) whole ∙ zeros (length c.args.edges.now) i },
    )

pub returns : goal.returns
returns c =
    let a = c.args in
    scans_checked a.n a.ends.now a.edges.now (omega (arith, c.min.ensures)) (sym c.if-is_outsized.ensures) _ _ c.scan.ensures
    (c.scan.auto.edges ∙ c.fill.auto.self)
