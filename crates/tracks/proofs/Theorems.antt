-- What a caller knows of the tracks. Assumes nothing.
use Rattle.counting.proofs.Prelude.{◌≡◌, refl, ap, ◌∙◌, List, ℕ, ◌≤◌, arith}
use Rattle.counting.proofs.Above.{above_ext}
use Rattle.counting.specs.Quads.{quad}
use Rattle.specification.specs.Tracks.{tracks}
use Rattle.specification.specs.Limits.{most_bundles}
use Rattle.tracks.specs.Order.{Rising}
use Rattle.tracks.specs.Steps.Ends.{nth, Assigned}
use Rattle.tracks.specs.Promise.{tracks_of, Tracked}
use Rattle.tracks.proofs.Placing.{placed_all}
use Rattle.tracks.proofs.Extension.{tracks_ext}

-- past the last bundle stands 0
pub track_past : (n : ℕ) (channel first last : ℕ → ℕ) → n ≤ most_bundles → (b : ℕ) → n ≤ b → nth (tracks n channel first last) b ≡ 0
track_past n channel first last small b l = (placed_all n channel first last small).past b l

-- of bundles that end no lower than they begin, the call's answer is of their own last rows
pub tracked_rising : (n : ℕ) (spans used₀ : List ℕ) (r : ℕ) (spans' s : List ℕ) → Tracked n spans used₀ r spans' s
    → Rising r (quad 1 spans) (quad 2 spans) → Assigned r (quad 0 spans) (quad 1 spans) (quad 2 spans) (quad 3 spans') s
tracked_rising n spans used₀ r spans' s a up = record {
  track = λ b l. a.track b l ∙ same b;
  used = λ c l. a.used c (omega (arith, a.long.1)) ∙ above_ext r _ _ _ _ (λ b _. refl) (λ b _ _. same b);
}
  where
    same : (b : ℕ) → nth (tracks_of r spans) b ≡ nth (tracks r (quad 0 spans) (quad 1 spans) (quad 2 spans)) b
    same b = ap (λ (x : List ℕ). nth x b) (tracks_ext r _ _ _ _ _ _ (λ _ _. refl) (λ _ _. refl) (λ k l. let u = up k l in omega arith))
