-- Reachability with one edge more, vertex by vertex over a table with w masks a vertex, for any w. Assumes nothing.
use Rattle.counting.proofs.Prelude.{◌≡◌, refl, sym, ap, ◌∙◌, subst, ◌≢◌, true, false, ◌||◌, ◌&&◌, List, ℕ, ◌+◌, ◌*◌, ◌<◌, max, arith, eqb}
use Rattle.counting.proofs.Prelude.{length, eq-eqb, ne_eqb}
use native.Mathlib.Nat.{not-suc-le-zero, le_refl, mul-zero}
use native.Mathlib.Decide.{ℕ_discrete}
use borrow.Author.Count.{below_more}
use Rattle.counting.proofs.Falsity.{or-false, max-test}
use Rattle.specification.specs.Sets.{member, at, has?, inserted}
use Rattle.masks.proofs.Sets.{member-lt}
use Rattle.masks.proofs.Tables.{at_lt, Put, put_law, Row, row-member, Absorbed}
use Rattle.editing.specs.Promise.{across?, Linked}

module _ (w : ℕ) (t : List ℕ) where
  -- the set o has the head, and all that the head has
  pub record Target (head : ℕ) (o : List ℕ) : Type 0 where
    pub holds : (y : ℕ) → y < w * 64 → eqb (member o 0 y) 1 ≡ (eqb y head || has? w t head y)

  -- the head's masks, with the head put in
  pub target_law : (head : ℕ) (o : List ℕ) → head < w * 64 → length o ≡ w → Row w t head o → Target head (inserted o 0 head)
  unfolding at has?
  target_law head o hh size same = record { holds = λ y hy. go y hy (ℕ_discrete y head) }
    where
      put : Put w o 0 head (inserted o 0 head)
      put =
          subst (λ (first : ℕ). Put w o 0 head (inserted o first head)) (mul-zero w) (put_law w o 0 head hh (rw (mul-zero w) (omega arith)))

      read : (y : ℕ) → member (inserted o 0 head) 0 y ≡ at w (inserted o 0 head) 0 y
      read y = ap (λ (first : ℕ). member (inserted o 0 head) first y) (sym (mul-zero w))

      go : (y : ℕ) → y < w * 64 → Dec (y ≡ head) → eqb (member (inserted o 0 head) 0 y) 1 ≡ (eqb y head || has? w t head y)
      go y hy (yes e) =
          subst (λ (z : ℕ). eqb (member (inserted o 0 head) 0 z) 1 ≡ (eqb z head || has? w t head z)) (sym e)
          (eq-eqb _ _ (read head ∙ put.here) ∙ rw (eq-eqb head head refl))
      go y hy (no d) =
          ap (λ (b : ℕ). eqb b 1)
          (read y ∙ put.other 0 y hy (λ _ e. d e) ∙ ap (λ (first : ℕ). member o first y) (mul-zero w)
          ∙ row-member w t head o same y hy)
          ∙ rw (ne_eqb y head d)

  module _ (tail head : ℕ) where
    pub linked_none : Linked w t tail head 0 t
    linked_none = record { below = λ x y l h. absurd (not-suc-le-zero l); above = λ x y l h. refl }

    module _ (n : ℕ) (s : List ℕ) (k : Linked w t tail head n s) where
      -- vertex n is done, and no other changes
      more : (r : List ℕ) → ((y : ℕ) → y < w * 64 → has? w r n y ≡ (has? w t n y || across? w t tail head n y))
          → ((x y : ℕ) → y < w * 64 → x ≢ n → at w r x y ≡ at w s x y) → Linked w t tail head (n + 1) r
      unfolding has?
      more r here other = record {
        below = λ x y l h. below_more (λ (x : ℕ). has? w r x y ≡ (has? w t x y || across? w t tail head x y)) n
            (λ x l'. ap (λ (b : ℕ). eqb b 1) (other x y h (λ e. omega arith)) ∙ k.below x y l' h) (here y h) x l;
        above = λ x y l h. other x y h (λ e. omega arith) ∙ k.above x y (omega arith) h;
      }

      -- vertex n is as it was
      same : (y : ℕ) → y < w * 64 → at w s n y ≡ at w t n y
      same y h = k.above n y (le_refl n) h

      -- whether it is the tail or has it
      comes_same : tail < w * 64 → (eqb n tail || has? w s n tail) ≡ (eqb n tail || has? w t n tail)
      unfolding has?
      comes_same ht = ap (λ (b : ℕ). eqb n tail || eqb b 1) (same tail ht)

      -- it is or has: it gets the target
      pub linked_set : (r o : List ℕ) → (eqb n tail || has? w s n tail) ≡ true → tail < w * 64 → Target head o → Absorbed w s n o r
          → Linked w t tail head (n + 1) r
      unfolding across? has?
      linked_set r o comes ht target a = more r (λ y h. here y h) a.other
        where
          here : (y : ℕ) → y < w * 64 → has? w r n y
              ≡ (has? w t n y || ((eqb n tail || has? w t n tail) && (eqb y head || has? w t head y)))
          here y h =
              ap (λ (b : ℕ). eqb b 1) (a.here y h ∙ ap (λ (b : ℕ). max b (member o 0 y)) (same y h))
              ∙ max-test (at w t n y) (member o 0 y) (at_lt w t n y) (member-lt o 0 y) ∙ rw (target.holds y h, sym (comes_same ht) ∙ comes)

      -- it is not and has not: it stays as it is
      pub linked_clear : (eqb n tail || has? w s n tail) ≡ false → tail < w * 64 → Linked w t tail head (n + 1) s
      unfolding across? has?
      linked_clear apart ht = more s (λ y h. here y h) (λ x y h ne. refl)
        where
          here : (y : ℕ) → y < w * 64 → has? w s n y
              ≡ (has? w t n y || ((eqb n tail || has? w t n tail) && (eqb y head || has? w t head y)))
          here y h = ap (λ (b : ℕ). eqb b 1) (same y h) ∙ rw (sym (comes_same ht) ∙ apart) (sym (or-false (has? w t n y)))
