-- What it means that a graph is not refused. Assumes nothing.
use Rattle.counting.proofs.Prelude.{◌≡◌, refl, sym, ◌∙◌, ⊎_elim, Bool, true, false, true≢false, ◌||◌, List, ℕ, ◌≤◌, ◌<◌, arith, leb, get_or}
use Rattle.counting.proofs.Prelude.{leb-false}
use Rattle.specification.specs.Count.{some}
use Rattle.specification.specs.Graph.{edge_count, outsized?, strange?, verdict, refusal}
use Rattle.counting.proofs.Truth.{true_or_false, or_neither}
use Rattle.counting.proofs.Somes.{some_found}
use Rattle.counting.proofs.Sizes.{outsized_back}
use Rattle.reach.specs.Steps.{Within}

verdict_none : (a b : Bool) → verdict a b ≡ 0 → (a ≡ false) × (b ≡ false)
unfolding verdict
verdict_none true b e = absurd (let z : ◌≡◌ {A = ℕ} 2 0 = e in omega arith)
verdict_none false true e = absurd (let z : ◌≡◌ {A = ℕ} 3 0 = e in omega arith)
verdict_none false false e = (refl, refl)

-- an accepted graph has at most 128 vertices and every end among them
pub accepted-within : (n : ℕ) (tails heads : List ℕ) → refusal n tails heads ≡ 0 → Within n (edge_count tails heads) tails heads × (n ≤ 128)
unfolding refusal strange?
accepted-within n tails heads e =
    let v = verdict_none (outsized? n (edge_count tails heads)) (some (edge_count tails heads) (strange? n tails heads)) e in (
      record {
        tail = λ i l. leb-false n (get_or tails i 0) (known i l v.1).0;
        head = λ i l. leb-false n (get_or heads i 0) (known i l v.1).1;
      },
      (outsized_back n (edge_count tails heads) v.0).1,
    )
  where
    known : (i : ℕ) → i < edge_count tails heads → some (edge_count tails heads) (strange? n tails heads) ≡ false
        → (leb n (get_or tails i 0) ≡ false) × (leb n (get_or heads i 0) ≡ false)
    known i l none =
        or_neither (leb n (get_or tails i 0)) (leb n (get_or heads i 0))
        (⊎_elim
        (λ t. absurd (true≢false (sym (some_found (edge_count tails heads) (strange? n tails heads) i l t) ∙ none)))
        (λ f. f)
        (true_or_false (leb n (get_or tails i 0) || leb n (get_or heads i 0))))
