-- The loops that store for each member of a mask. Assumes nothing.
use Rattle.counting.proofs.Prelude.{◌≡◌, refl, sym, ap, ◌∙◌, subst, ◌≢◌, List, ℕ, ◌+◌, ◌*◌, ◌^◌, ◌<◌, arith, length, set}
use native.Mathlib.Decide.{ℕ_discrete}
use lib.Count.{count_trailing_zeros}
use Rattle.counting.specs.Quads.{quad}
use Rattle.counting.proofs.Quads.{quad-same, quad_other}
use Rattle.specification.specs.Sets.{bit}
use Rattle.masks.proofs.Clearing.{clear}
use Rattle.masks.proofs.Visiting.{Visited, visited_none, visited_all, visited_more, lowest-lt, lowest_in}
use Rattle.descent.specs.Steps.Members.{Written}
use Rattle.descent.specs.Steps.Closed.{Ample, Finished, Same, Vertex, Row}
use Rattle.descent.proofs.Descending.{finished-same, same_refl, same_trans}

-- v is no member of a mask that begins at vertex `base`
abbrev pub Out : ℕ → ℕ → ℕ → Type 0
Out mask base v = (j : ℕ) → j < 64 → bit mask j ≡ 1 → v ≢ base + j

-- ---- a row for each member

pub record Writing (mask base r : ℕ) (p p' : List ℕ) (x : ℕ) : Type 0 where
  pub members : Visited mask x (λ j. quad 2 p' (base + j) ≡ r)
  pub others : (k v : ℕ) → k < 4 → (k ≡ 2 → Out mask base v) → quad k p' v ≡ quad k p v

module _ (mask base r : ℕ) (p : List ℕ) where
  pub writing_none : mask < 2 ^ 64 → Writing mask base r p p mask
  writing_none h = record { members = visited_none mask (λ j. quad 2 p (base + j) ≡ r) h; others = λ k v l o. refl }

  pub writing_more : (s : List ℕ) (x v : ℕ) → Writing mask base r p s x → x ≢ 0 → v ≡ base + count_trailing_zeros 64 x
      → 4 * v + 2 < length s
      → Writing mask base r p (set s (4 * v + 2) r) (clear x)
  writing_more s x v g ne ev hv = record {
    members = visited_more mask x (λ j. quad 2 s (base + j) ≡ r) g.members ne (λ j. quad 2 (set s (4 * v + 2) r) (base + j) ≡ r)
        (λ j e. kept (base + j) e (ℕ_discrete (base + j) v))
        (ap (quad 2 (set s (4 * v + 2) r)) (sym ev) ∙ quad-same s v 2 r hv);
    others = λ k w l o. quad_other s w k v 2 r l (omega arith)
        (λ e f. o f (count_trailing_zeros 64 x) (lowest-lt mask x _ g.members ne) (lowest_in mask x _ g.members ne) (e ∙ ev))
        ∙ g.others k w l o;
  }
    where
      kept : (i : ℕ) → quad 2 s i ≡ r → Dec (i ≡ v) → quad 2 (set s (4 * v + 2) r) i ≡ r
      kept i e (yes q) = ap (quad 2 (set s (4 * v + 2) r)) q ∙ quad-same s v 2 r hv
      kept i e (no d) = quad_other s i 2 v 2 r (omega arith) (omega arith) (λ q _. d q) ∙ e

  pub writing_all : (s : List ℕ) (x : ℕ) → Writing mask base r p s x → x ≡ 0 → Written mask base r p s
  writing_all s x g z = record { done = λ j h e. visited_all mask x (λ i. quad 2 s (base + i) ≡ r) g.members z j e; others = g.others }

-- ---- the sets of each member

-- a table as long has the same room
pub ample_same : (e t t' : List ℕ) → length t' ≡ length t → Ample e t → Ample e t'
ample_same e t t' q a = record { room = λ u v arc. let k = a.room u v arc in omega arith }

pub record Closing (e : List ℕ) (mask base : ℕ) (t l p t' l' p' : List ℕ) (x : ℕ) : Type 0 where
  pub members : Visited mask x (λ j. Finished e t' l' p' (base + j))
  pub kept : (w : ℕ) → Finished e t l p w → Finished e t' l' p' w
  pub others : (w : ℕ) → Out mask base w → Same w t l t' l'
  pub rest : (k v : ℕ) → k < 4 → (k ≡ 3 → Out mask base v) → quad k p' v ≡ quad k p v

module _ (e : List ℕ) (mask base : ℕ) (t l p : List ℕ) where
  pub closing_none : mask < 2 ^ 64 → Closing e mask base t l p t l p mask
  closing_none h = record {
    members = visited_none mask (λ j. Finished e t l p (base + j)) h;
    kept = λ w f. f;
    others = λ w o. same_refl w t l;
    rest = λ k v h o. refl;
  }

  pub closing_more : (t' l' p' : List ℕ) (x u : ℕ) (t'' l'' p'' : List ℕ) → Closing e mask base t l p t' l' p' x → x ≢ 0
      → u ≡ base + count_trailing_zeros 64 x
      → Vertex e u t' l' p' t'' l'' p'' → Closing e mask base t l p t'' l'' p'' (clear x)
  closing_more t' l' p' x u t'' l'' p'' g ne eu f = record {
    members = visited_more mask x (λ j. Finished e t' l' p' (base + j)) g.members ne (λ j. Finished e t'' l'' p'' (base + j))
        (λ j d. stays (base + j) d (ℕ_discrete (base + j) u))
        (subst (λ (i : ℕ). Finished e t'' l'' p'' i) eu f.own);
    kept = λ w d. stays w (g.kept w d) (ℕ_discrete w u);
    others = λ w o. same_trans w t l t' l' t'' l'' (g.others w o) (f.others w (outside w o));
    rest = λ k v h o. f.rest k v h (λ q. outside v (o q)) ∙ g.rest k v h o;
  }
    where
      outside : (w : ℕ) → Out mask base w → w ≢ u
      outside w o q = o (count_trailing_zeros 64 x) (lowest-lt mask x _ g.members ne) (lowest_in mask x _ g.members ne) (q ∙ eu)

      stays : (w : ℕ) → Finished e t' l' p' w → Dec (w ≡ u) → Finished e t'' l'' p'' w
      stays w d (yes q) = subst (λ (i : ℕ). Finished e t'' l'' p'' i) (sym q) f.own
      stays w d (no q) = finished-same e w t' l' p' t'' l'' p'' (f.others w q) (f.rest 3 w (omega arith) (λ _. q)) d

  pub closing_all : (t' l' p' : List ℕ) (x : ℕ) → Closing e mask base t l p t' l' p' x → x ≡ 0 → Row e mask base t l p t' l' p'
  closing_all t' l' p' x g z = record {
    done = λ j h i. visited_all mask x (λ k. Finished e t' l' p' (base + k)) g.members z j i;
    kept = g.kept;
    others = g.others;
    rest = g.rest;
  }
