-- The sets by key while they are filled. Assumes nothing.
use Rattle.counting.proofs.Prelude.{◌≡◌, refl, sym, ap, ap₂, ◌∙◌, ◌≢◌, ◌⊎◌, inl, inr, ⊎_elim, List, [], ◌∷◌, ℕ, ◌+◌, ◌-◌, ◌*◌, ◌/◌, ◌%◌}
use Rattle.counting.proofs.Prelude.{◌++◌, ◌≤◌, ◌<◌, min, max, arith, length, get_or, set, length-set, get_or-eq_default, replicate, drop}
use Rattle.counting.proofs.Prelude.{length-append, length-replicate, length-drop, get_or-append, get_or-replicate}
use Rattle.std.proofs.lemmas.List.{get_or-append_right, get_or-drop}
use native.Mathlib.Nat.{mul-le-mul_left}
use native.Mathlib.Decide.{ℕ_discrete}
use lib.Bits.{bit_or}
use lib.Seq.{get_or-set_other}
use Rattle.counting.proofs.Truth.{lt-or-le}
use Rattle.specification.specs.Lent.{Filled, KeptFrom}
use Rattle.specification.specs.Sets.{bit, member, at, inserted, United}
use Rattle.masks.proofs.Bits.{bit_of_zero}
use Rattle.masks.proofs.Sets.{united_none, united_more}
use Rattle.masks.proofs.Tables.{at_lt, Put, put_law, Absorbed, absorbed_law, Row, pair_row, row-member}
use Rattle.masks.proofs.Members.{length_inserted}
use Rattle.prefixes.specs.Prefixes.{Prefixes}
use Rattle.prefixes.specs.Steps.{Stage}

-- a vertex is put into one mask
inserted_other : (s : List ℕ) (first v i : ℕ) → i ≢ first + v / 64 → get_or (inserted s first v) i 0 ≡ get_or s i 0
unfolding inserted
inserted_other s first v i ne = get_or-set_other s (first + v / 64) i _ 0 ne

module _ (w : ℕ) (key : ℕ → ℕ) (top : ℕ) where
  -- the masks of the sets 0 to top are 0
  stage_none : (s : List ℕ) → (0 < top → w * top + w ≤ length s) → ((i : ℕ) → i < w * top + w → get_or s i 0 ≡ 0) → Stage w 0 key top 0 s
  unfolding at member
  stage_none s h z = record {
    room = h;
    here = λ k v l lv lt e. absurd (omega arith);
    has = λ k v l lv lt e i. absurd (omega arith);
    only = λ k v l lv e. absurd (let o = none k v l lv in omega arith);
  }
    where
      none : (k v : ℕ) → k ≤ top → v < w * 64 → at w s k v ≡ 0
      none k v l lv =
          let a = mul-le-mul_left w l in
          let b : v / 64 < w = omega arith in
          ap (λ (x : ℕ). bit x (v % 64)) (z (w * k + v / 64) (omega arith)) ∙ bit_of_zero (v % 64)

  -- one vertex more, whose key has a set
  stage_put : (n : ℕ) (s : List ℕ) → n < w * 64 → key n < top → Stage w n key top 0 s
      → Stage w (n + 1) key top 0 (inserted s (w * (key n + 1)) n)
  stage_put n s hn low g = record {
    room = rw (length_inserted s (w * u) n) g.room;
    here = λ k v l lv lt e. put-here k v l lv lt e (ℕ_discrete v n);
    has = λ k v l lv lt e z. absurd (omega arith);
    only = λ k v l lv e. put_only k v l lv e (ℕ_discrete v n) (ℕ_discrete k u);
  }
    where
      u : ℕ
      u = key n + 1

      s' : List ℕ
      s' = inserted s (w * u) n

      put : Put w s u n s'
      put =
          put_law w s u n hn
          (let a = mul-le-mul_left w (let h : u ≤ top = omega arith in h) in
          let b : n / 64 < w = omega arith in
          omega (arith, g.room (omega arith)))

      put-here : (k v : ℕ) → k ≤ top → v < w * 64 → v < n + 1 → key v + 1 ≡ k → Dec (v ≡ n) → at w s' k v ≡ 1
      put-here k v l lv lt e (yes q) = ap₂ (λ a b. at w s' a b) (sym e ∙ ap (λ x. key x + 1) q) q ∙ put.here
      put-here k v l lv lt e (no q) = put.other k v lv (λ _. q) ∙ g.here k v l lv (omega arith) e

      put_only : (k v : ℕ) → k ≤ top → v < w * 64 → at w s' k v ≡ 1 → Dec (v ≡ n) → Dec (k ≡ u)
          → (v < n + 1) × (key v < k) × (0 < k → key v + 1 ≡ k)
      put_only k v l lv e (yes q) (yes r) =
          let kv : key v + 1 ≡ k = ap (λ x. key x + 1) q ∙ sym r in
          (omega arith, omega arith, λ _. kv)
      put_only k v l lv e (yes q) (no r) =
          absurd (let o = (g.only k v l lv (sym (put.other k v lv (λ z. absurd (r z))) ∙ e)).0 in omega arith)
      put_only k v l lv e (no q) d =
          let o = g.only k v l lv (sym (put.other k v lv (λ _. q)) ∙ e) in (omega (arith, o.0), o.1, o.2)

  -- one more, whose key has none
  stage_past : (n : ℕ) (s : List ℕ) → top ≤ key n → Stage w n key top 0 s → Stage w (n + 1) key top 0 s
  stage_past n s high g = record {
    room = g.room;
    here = λ k v l lv lt e. g.here k v l lv (before k v l lt e (ℕ_discrete v n)) e;
    has = λ k v l lv lt e z. absurd (omega arith);
    only = λ k v l lv e. let o = g.only k v l lv e in (omega (arith, o.0), o.1, o.2);
  }
    where
      before : (k v : ℕ) → k ≤ top → v < n + 1 → key v + 1 ≡ k → Dec (v ≡ n) → v < n
      before k v l lt e (yes q) = absurd (let z = ap key q in omega arith)
      before k v l lt e (no q) = omega arith

  -- one set more is complete
  stage_join : (n j : ℕ) (s o s' : List ℕ) → j < top → length s' ≡ length s → Row w s j o → Absorbed w s (j + 1) o s'
      → Stage w n key top j s → Stage w n key top (j + 1) s'
  stage_join n j s o s' h size row a g = record {
    room = rw size g.room;
    here = λ k v l lv lt e. join-here k v l lv lt e (ℕ_discrete k (j + 1));
    has = λ k v l lv lt e z. join-has k v l lv lt e z (ℕ_discrete k (j + 1));
    only = λ k v l lv e. join_only k v l lv e (ℕ_discrete k (j + 1));
  }
    where
      new : (k v : ℕ) → v < w * 64 → k ≡ j + 1 → at w s' k v ≡ max (at w s (j + 1) v) (at w s j v)
      new k v lv e = ap (λ x. at w s' x v) e ∙ a.here v lv ∙ ap (λ x. max (at w s (j + 1) v) x) (row-member w s j o row v lv)

      first : (k v : ℕ) → v < w * 64 → k ≡ j + 1 → at w s (j + 1) v ≡ 1 → at w s' k v ≡ 1
      first k v lv e q = new k v lv e ∙ (let b = at_lt w s j v in omega arith)

      second : (k v : ℕ) → v < w * 64 → k ≡ j + 1 → at w s j v ≡ 1 → at w s' k v ≡ 1
      second k v lv e q = new k v lv e ∙ (let b = at_lt w s (j + 1) v in omega arith)

      join-here : (k v : ℕ) → k ≤ top → v < w * 64 → v < n → key v + 1 ≡ k → Dec (k ≡ j + 1) → at w s' k v ≡ 1
      join-here k v l lv lt e (yes q) = first k v lv q (g.here (j + 1) v (omega arith) lv lt (e ∙ q))
      join-here k v l lv lt e (no q) = a.other k v lv q ∙ g.here k v l lv lt e

      join-has : (k v : ℕ) → k ≤ top → v < w * 64 → v < n → key v < k → k ≤ j + 1 → Dec (k ≡ j + 1) → at w s' k v ≡ 1
      join-has k v l lv lt e z (yes q) = ⊎_elim
          (λ b. second k v lv q (g.has j v (omega arith) lv lt b (omega arith)))
          (λ b. first k v lv q (g.here (j + 1) v (omega arith) lv lt (omega arith)))
          (lt-or-le (key v) j)
      join-has k v l lv lt e z (no q) = a.other k v lv q ∙ g.has k v l lv lt e (omega arith)

      join_only : (k v : ℕ) → k ≤ top → v < w * 64 → at w s' k v ≡ 1 → Dec (k ≡ j + 1)
          → (v < n) × (key v < k) × (j + 1 < k → key v + 1 ≡ k)
      join_only k v h' lv e (yes q) = either (lt-or-le (at w s j v) 1)
        where
          either : (at w s j v < 1) ⊎ (1 ≤ at w s j v) → (v < n) × (key v < k) × (j + 1 < k → key v + 1 ≡ k)
          either (inl b) =
              let m = new k v lv q in
              let c = at_lt w s (j + 1) v in
              let r = g.only (j + 1) v (omega arith) lv (omega arith) in
              (r.0, omega (arith, r.1), λ t. absurd (omega arith))
          either (inr b) =
              let c = at_lt w s j v in
              let r = g.only j v (omega arith) lv (omega arith) in
              (r.0, omega (arith, r.1), λ t. absurd (omega arith))
      join_only k v h' lv e (no q) = let r = g.only k v h' lv (sym (a.other k v lv q) ∙ e) in (r.0, r.1, λ t. r.2 (omega arith))

  pub stage_all : (n : ℕ) (s : List ℕ) → Stage w n key top top s → Prefixes w n key top s
  stage_all n s g = record {
    sets_by_key = λ k v l lv. ((λ e. let r = g.only k v l lv e in (r.0, r.1)), λ p. g.has k v l lv p.0 p.1 l);
  }

-- ---- two masks a set, as the code stores them

-- two masks are put into those at p and q
abbrev pub twice : List ℕ → ℕ → ℕ → ℕ → ℕ → List ℕ
twice s p q a b = set (set s p (bit_or (get_or s p 0) a)) q (bit_or (get_or (set s p (bit_or (get_or s p 0) a)) q 0) b)

pub twice-length : (s : List ℕ) (p q a b : ℕ) → length (twice s p q a b) ≡ length s
twice-length s p q a b = simp length-set

pair_united : (s : List ℕ) (f p q a b : ℕ) → p ≡ f + 0 → q ≡ f + 1 → f + 2 ≤ length s → United s f (a ∷ b ∷ []) 2 (twice s p q a b)
pair_united s f p q a b ep eq l =
    rw (ep, eq)
    (united_more s f (a ∷ b ∷ []) 1 _ (rw (length-set s (f + 0) (bit_or (get_or s (f + 0) 0) a)) (omega arith))
    (united_more s f (a ∷ b ∷ []) 0 s (omega arith) (united_none s f (a ∷ b ∷ []))))

-- set j is put into set j + 1
pub stage_pair : (key : ℕ → ℕ) (top n j i : ℕ) (s : List ℕ) → j < top → i ≡ 2 * j → Stage 2 n key top j s
    → Stage 2 n key top (j + 1) (twice s (i + 2) (i + 3) (get_or s i 0) (get_or s (i + 1) 0))
stage_pair key top n j i s h e g =
    stage_join 2 key top n j s _ _ h
    (twice-length s (i + 2) (i + 3) (get_or s i 0) (get_or s (i + 1) 0))
    (pair_row s j (get_or s i 0) (get_or s (i + 1) 0) (ap (λ x. get_or s x 0) (omega arith)) (ap (λ x. get_or s x 0) (omega arith)))
    (absorbed_law 2 s (j + 1) _ _
    (pair_united s (2 * (j + 1)) (i + 2) (i + 3) (get_or s i 0) (get_or s (i + 1) 0) (omega arith) (omega arith)
    (omega (arith, g.room (omega arith)))))
    g

-- past both masks the list stays
pub twice-kept : (s : List ℕ) (p q a b i : ℕ) → i ≢ p → i ≢ q → get_or (twice s p q a b) i 0 ≡ get_or s i 0
twice-kept s p q a b i np nq =
    let one : List ℕ = set s p (bit_or (get_or s p 0) a) in
    get_or-set_other one q i (bit_or (get_or one q 0) b) 0 nq ∙ get_or-set_other s p i (bit_or (get_or s p 0) a) 0 np

-- ---- the walk over the vertices

-- a list whose first `top` entries are set to x, as the code does it
pub filled_part : (x : ℕ) (was part : List ℕ) (top : ℕ) → top ≤ length was → part ≡ replicate top x
    → Filled was (λ i. x) top (part ++ drop top was)
filled_part x was part top h e =
    let size : length part ≡ top = ap length e ∙ length-replicate {A = ℕ} top x in
    record {
      as_long = length-append part (drop top was) ∙ omega (arith, size, length-drop top was, h);
      made = λ k d l. get_or-append part (drop top was) d k (omega (arith, size, l)) ∙ ap (λ (t : List ℕ). get_or t k d) e
          ∙ get_or-replicate top k x d l;
      kept = λ k d l. get_or-append_right part (drop top was) top k d size l ∙ get_or-drop top was (k - top) d
          ∙ ap (λ (i : ℕ). get_or was i d) (omega (arith, l));
    }

-- `was` is the list with its sets cleared: the vertices below n are put in, and past the sets nothing has changed
pub record Putting (key : ℕ → ℕ) (top n : ℕ) (was is : List ℕ) : Type 0 where
  pub long : length is ≡ length was
  pub stage : Stage 2 n key top 0 is
  pub kept : KeptFrom (2 * top + 2) was is

-- cleared as far as there are masks
pub put_none : (key : ℕ → ℕ) (top : ℕ) (lent was : List ℕ) → top ≤ length lent / 2 - 1
    → Filled lent (λ i. 0) (min (2 * top + 2) (length lent)) was → Putting key top 0 was was
put_none key top lent was l f = record {
  long = refl;
  stage = stage_none 2 key top was (λ p. omega (arith, f.as_long)) clear;
  kept = λ i h. refl;
}
  where
    clear : (i : ℕ) → i < 2 * top + 2 → get_or was i 0 ≡ 0
    clear i h = ⊎_elim (λ b. f.made i 0 (omega arith)) (λ b. get_or-eq_default was 0 (omega (arith, f.as_long)))
        (lt-or-le i (length lent))

module _ (key : ℕ → ℕ) (top n k : ℕ) (was is : List ℕ) (few : n < 128) (e : k ≡ key n) (g : Putting key top n was is) where
  -- the next vertex is put in; the code reads its key into k
  pub put-more : (is' : List ℕ) → k < top → is' ≡ inserted is (2 * (k + 1)) n → Putting key top (n + 1) was is'
  put-more is' low q = record {
    long = ap length q ∙ length_inserted is (2 * (k + 1)) n ∙ g.long;
    stage = rw (q, e) (stage_put 2 key top n is few (omega arith) g.stage);
    kept = λ i h. ap (λ (x : List ℕ). get_or x i 0) q ∙ inserted_other is (2 * (k + 1)) n i (λ z. omega arith) ∙ g.kept i h;
  }

  pub put_past : top ≤ k → Putting key top (n + 1) was is
  put_past high = record { long = g.long; stage = stage_past 2 key top n is (omega arith) g.stage; kept = g.kept }
