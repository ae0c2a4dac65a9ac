-- The answers of the public calls, case by case. Assumes nothing.
use Rattle.counting.proofs.Prelude.{◌≡◌, refl, sym, ap, ◌∙◌, subst, ◌≢◌, Bool, true, false, true≢false, List, [], ℕ, ◌*◌, ◌≤◌, min, arith}
use Rattle.counting.proofs.Prelude.{length}
use Rattle.planning.proofs.Laying.{kept_same}
use Rattle.specification.specs.Count.{choose}
use Rattle.counting.proofs.Sizes.{size-taken}
use Rattle.specification.specs.Planning.{planned}
use Rattle.specification.specs.declared.Connection.{Connection}
use Rattle.specification.specs.Channels.{lines_of, vertices_of, unknown?, repeats?, broken?}
use Rattle.specification.specs.Sets.{has?}
use Rattle.specification.specs.Graph.{size_refusal, unsized?}
use Rattle.planning.specs.Arranged.{Arranged, Kept}
use Rattle.planning.specs.Promise.{Channels, Chained}
use Rattle.channels.specs.Promise.{Answers, Plans, given_refusal}
use Rattle.channels.specs.Steps.Sized.{Sized}

-- room for the vertices: the refusal, or the channels
module _ (n refusal : ℕ) (ls : List (List ℕ)) (p : List ℕ) (r : Channels) (p' : List ℕ) where
  pub answers-made : 4 * n ≤ length p → unsized? n ≡ false → r.refusal ≡ refusal → (r.refusal ≢ 0 → r.count ≡ 0)
      → (r.refusal ≡ 0 → Arranged n ls r.count p') → (r.refusal ≢ 0 → Arranged n [] 0 p') → Kept n p p'
      → Answers n refusal ls p r p'
  answers-made h size e none a c g = record {
    refused = λ _. e;
    short = λ l. absurd (omega arith);
    none = none;
    unsized = λ z. absurd (true≢false (sym z ∙ size));
    arranged = a;
    cleared = λ d _ _. c d;
    kept = g;
  }

-- refused by size alone
pub answers-sized : (n refusal : ℕ) (ls : List (List ℕ)) (p : List ℕ) (r : Channels) (k : ℕ)
    → (size_refusal n ≢ 0 → refusal ≡ size_refusal n)
    → Sized n (length p) k → k ≢ 0 → r ≡ record { refusal = k; count = 0 } → Answers n refusal ls p r p
answers-sized n refusal ls p r k same z d e =
    let k-refused : r.refusal ≡ k = ap (λ (x : Channels). x.refusal) e in
    record {
      refused = λ h. k-refused ∙ z.size h ∙ sym (same (λ q. d (z.size h ∙ q)));
      short = λ h. (k-refused ∙ z.short h, refl);
      none = λ _. ap (λ (x : Channels). x.count) e;
      unsized = λ _. refl;
      arranged = λ q. absurd (d (sym k-refused ∙ q));
      cleared = λ _ h s. absurd (d (z.size h ∙ size-taken n s));
      kept = kept_same n p;
    }

-- as many vertices as are asked for
pub plan-answers : (n : ℕ) (table p : List ℕ) (r : Channels) (p' : List ℕ) → n ≤ 128 → unsized? n ≡ false → 4 * n ≤ length p
    → Chained n table p r p' → Plans n table p r p'
plan-answers n table p r p' l e h c =
    let q : min n 128 ≡ n = omega arith in
    answers-made n (size_refusal n) (planned (has? 2 table) n) p r p' h e (c.refused (omega arith) ∙ sym (size-taken n e)) c.none
    (λ z. subst (λ x. Arranged x (planned (has? 2 table) x) r.count p') q (c.arranged z)) (λ d. absurd (d (c.refused (omega arith))))
    (subst (λ x. Kept x p p') q c.kept)

-- ---- given channels

module _ (ask : ℕ → ℕ → Connection) (n : ℕ) (field : List ℕ) where
  -- by size they are refused as planned ones are
  pub given-sized : size_refusal n ≢ 0 → given_refusal ask n field ≡ size_refusal n
  unfolding given_refusal size_refusal
  given-sized = go (unsized? n) (choose (unknown? n (vertices_of field)) (λ _. 3) (λ _.
      choose (repeats? (vertices_of field)) (λ _. 6) (λ _.
      choose (broken? ask (lines_of field)) (λ _. 7) (λ _. 0))))
    where
      go : (b : Bool) (k : ℕ) → ◌≢◌ {A = ℕ} (choose b (λ _. 2) (λ _. 0)) 0
          → ◌≡◌ {A = ℕ} (choose b (λ _. 2) (λ _. k)) (choose b (λ _. 2) (λ _. 0))
      go true k d = refl
      go false k d = absurd (d refl)

  module _ (e : unsized? n ≡ false) where
    pub given-unknown : unknown? n (vertices_of field) ≡ true → given_refusal ask n field ≡ 3
    unfolding given_refusal
    given-unknown u = rw (e, u)

    module _ (u : unknown? n (vertices_of field) ≡ false) where
      pub given_repeats : repeats? (vertices_of field) ≡ true → given_refusal ask n field ≡ 6
      unfolding given_refusal
      given_repeats p = rw (e, u, p)

      module _ (p : repeats? (vertices_of field) ≡ false) where
        pub given_broken : broken? ask (lines_of field) ≡ true → given_refusal ask n field ≡ 7
        unfolding given_refusal
        given_broken b = rw (e, u, p, b)

        pub given-taken : broken? ask (lines_of field) ≡ false → given_refusal ask n field ≡ 0
        unfolding given_refusal
        given-taken b = rw (e, u, p, b)
