use Rattle.counting.proofs.Prelude.{◌≡◌, refl, List, ℕ, ◌+◌, ◌≤◌, arith, rules, length}
use Rattle.std.proofs.lemmas.Grind.{common_steps}
use Rattle.std.proofs.lemmas.List.{places}
use borrow.Rule.Slice.PartMut.{put_mid}
use Rattle.text.specs.Text.{Puts}
use Rattle.text.proofs.put.Goals as goal

-- the text stands in the part that it was copied to
placed : (was text ys : List ℕ) (used k : ℕ) → used + length text ≤ length was → k ≡ length text → ys ≡ text
    → Puts was used text (used + length text) (put_mid used k was ys)
placed was text ys used k room whole copied = record {
  whole = λ _. (
    refl,
    record {
      as_long = grind (arith, common_steps);
      made = search (rules, places);
      before = search (rules, places);
      after = search (rules, places);
    },
  );
  none = λ short. absurd (omega arith);
}

pub returns-clause-puts : goal.returns-clause-puts
returns-clause-puts c = placed _ _ _ _ _ (omega arith) (omega arith) c.copy_from_slice.ensures.after
