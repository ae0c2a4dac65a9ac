-- Places stored vertex by vertex: what each step of the code makes of them and of an arrangement. Assumes nothing.
use Rattle.counting.proofs.Prelude.{◌≡◌, refl, sym, ap, ◌∙◌, ◌≢◌, List, [], ◌∷◌, ◌++◌, flatten, ℕ, ◌+◌, ◌-◌, ◌*◌, ◌≤◌, ◌<◌, arith, length}
use Rattle.counting.proofs.Prelude.{set, length-append, length-set}
use native.Mathlib.Decide.{ℕ_discrete}
use Rattle.counting.specs.Quads.{quad}
use Rattle.counting.proofs.Quads.{quad-same, quad_other}
use Rattle.specification.specs.Channels.{times, channel_from, channel_of, position_of}
use Rattle.matching.proofs.Lists.{channel-kept, position-kept, channel-new, position-new, channel-opened, position-opened}
use Rattle.planning.specs.Arranged.{Arranged, Kept}
use Rattle.planning.specs.Steps.{placed}

-- ---- what two stores change

module _ (v c q : ℕ) (p : List ℕ) where
  pub placed_other : (k u : ℕ) → k < 4 → (u ≡ v → 2 ≤ k) → quad k (placed v c q p) u ≡ quad k p u
  placed_other k u l o =
      quad_other (set p (4 * v) c) u k v 1 q l (omega arith) (λ e f. let h = o e in omega arith)
      ∙ quad_other p u k v 0 c l (omega arith) (λ e f. let h = o e in omega arith)

  pub placed-channel : 4 * v + 1 < length p → quad 0 (placed v c q p) v ≡ c
  placed-channel h = quad_other (set p (4 * v) c) v 0 v 1 q (omega arith) (omega arith) (λ _ f. omega arith)
      ∙ quad-same p v 0 c (omega arith)

  pub placed-position : 4 * v + 1 < length p → quad 1 (placed v c q p) v ≡ q
  placed-position h = quad-same (set p (4 * v) c) v 1 q (omega (arith, length-set p (4 * v) c))

  -- a number of v, or of another vertex
  pub placed_at : (k u x : ℕ) → k < 4 → (u ≡ v → quad k (placed v c q p) v ≡ x) → (u ≢ v → quad k p u ≡ x)
      → quad k (placed v c q p) u ≡ x
  placed_at k u x b z o = go (ℕ_discrete u v)
    where
      go : Dec (u ≡ v) → quad k (placed v c q p) u ≡ x
      go (yes e) = ap (quad k (placed v c q p)) e ∙ z e
      go (no d) = placed_other k u b (λ e. absurd (d e)) ∙ o d

  -- channels that have v so, and the other vertices as they stand
  placed_arranged : (n : ℕ) (ls : List (List ℕ)) (count : ℕ) → (v < n → 4 * v + 1 < length p) → count ≡ length ls
      → c ≡ channel_of ls v → q ≡ position_of ls v
      → ((u : ℕ) → u < n → u ≢ v → (quad 0 p u ≡ channel_of ls u) × (quad 1 p u ≡ position_of ls u)) → Arranged n ls count (placed v c q p)
  placed_arranged n ls count h e ec eq o = record {
    counted = e;
    channel = λ u m. placed_at 0 u (channel_of ls u) (omega arith)
        (λ x. placed-channel (h (omega arith)) ∙ ec ∙ ap (channel_of ls) (sym x)) (λ d. (o u m d).0);
    position = λ u m. placed_at 1 u (position_of ls u) (omega arith)
        (λ x. placed-position (h (omega arith)) ∙ eq ∙ ap (position_of ls) (sym x)) (λ d. (o u m d).1);
  }

module _ (n : ℕ) where
  pub kept_same : (p : List ℕ) → Kept n p p
  kept_same p = record { kept = λ k v l m. refl; past = λ k v l m. refl; long = refl }

  module _ (p p' : List ℕ) (g : Kept n p p') where
    pub kept_wider : (m : ℕ) → n ≤ m → Kept m p p'
    kept_wider m h = record { kept = g.kept; past = λ k v l i. g.past k v l (omega arith); long = g.long }

    pub kept_on : (s : List ℕ) → Kept n p' s → Kept n p s
    kept_on s h = record {
      kept = λ k v l m. h.kept k v l m ∙ g.kept k v l m;
      past = λ k v l m. h.past k v l m ∙ g.past k v l m;
      long = h.long ∙ g.long;
    }

    pub kept-placed : (v c q : ℕ) → v < n → Kept n p (placed v c q p')
    kept-placed v c q b = kept_on (placed v c q p') (record {
      kept = λ k u l m. placed_other v c q p' k u m (λ _. l);
      past = λ k u l m. placed_other v c q p' k u l (λ e. absurd (omega arith));
      long = length-set (set p' (4 * v) c) (4 * v + 1) q ∙ length-set p' (4 * v) c;
    })

-- ---- no channel, of one vertex after the other

module _ (v : ℕ) (p : List ℕ) where
  pub none_more : 4 * v + 1 < length p → Arranged v [] 0 p → Arranged (v + 1) [] 0 (placed v 0 0 p)
  unfolding channel_of channel_from position_of
  none_more h a =
      placed_arranged v 0 0 p (v + 1) [] 0 (λ _. h) refl refl refl
      (λ u m d. (a.channel u (omega arith), a.position u (omega arith)))

  pub none_upto : (n : ℕ) → n ≤ v → Arranged v [] 0 p → Arranged n [] 0 p
  none_upto n h a = record { counted = refl; channel = λ u m. a.channel u (omega arith); position = λ u m. a.position u (omega arith) }

-- ---- a channel opened, and a vertex more in the last

module _ (n : ℕ) (ls : List (List ℕ)) (count : ℕ) (p : List ℕ) where
  pub arranged_opened : Arranged n ls count p → Arranged n (ls ++ ([] ∷ [])) (count + 1) p
  unfolding channel_of
  arranged_opened a = record {
    counted = omega (arith, a.counted, length-append ls ([] ∷ []));
    channel = λ v m. a.channel v m ∙ sym (channel-opened 0 ls v);
    position = λ v m. a.position v m ∙ sym (position-opened ls v);
  }

  -- v comes next, behind the channels ls and the vertices l of the last: it is new
  pub arranged_extended : 4 * n ≤ length p → (l : List ℕ) (v c : ℕ) → times v (flatten ls) + times v l ≡ 0 → c ≡ count - 1
      → Arranged n (ls ++ (l ∷ [])) count p → Arranged n (ls ++ ((l ++ (v ∷ [])) ∷ [])) count (placed v c (length l) p)
  unfolding channel_of
  arranged_extended h l v c new e a =
      let last : count ≡ length ls + 1 = a.counted ∙ length-append ls (l ∷ []) in
      placed_arranged v c (length l) p n (ls ++ ((l ++ (v ∷ [])) ∷ [])) count (λ m. omega arith)
      (last ∙ sym (length-append ls ((l ++ (v ∷ [])) ∷ [])))
      ((let q : c ≡ 0 + length ls = omega arith in q) ∙ sym (channel-new l v 0 ls (omega arith)))
      (sym (position-new l v ls (omega arith) (omega arith)))
      (λ u m d. (a.channel u m ∙ sym (channel-kept l v 0 ls u d), a.position u m ∙ sym (position-kept l v ls u d)))
