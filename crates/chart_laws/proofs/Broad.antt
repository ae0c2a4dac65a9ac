-- When a chart is broad: by the count of its channels just where every division that has the given ones whole has too many parts, and what
-- number it then gets. Assumes nothing.
use Rattle.counting.proofs.Prelude.{◌≡◌, refl, ◌∙◌, ◌↔◌, ◌⊎◌, inl, inr, ⊎_elim, Bool, true, false, ℕ, ◌<◌, arith, eqb, length, eq-eqb}
use Rattle.counting.proofs.Prelude.{ne_eqb, ltb-true, lt-ltb}
use Rattle.specification.specs.Limits.{most_channels}
use Rattle.specification.specs.Count.{choose}
use Rattle.specification.specs.Channels.{channel_of}
use Rattle.specification.specs.Given.{Whole}
use Rattle.specification.specs.Checks.{Content, size?, floor?, stranger?, double?, ring?, repeated?, unled?, loose_checks, later_checks}
use Rattle.specification.specs.Checks.{first_of, refusal_of, given_of, Leads, Sound}
use Rattle.specification.specs.Chart.{leads?, channels_of}
use Rattle.specification.specs.Drawn.{broad?, chart_checks, chart_refusal}
use Rattle.specification.specs.Lawful.{Divided}
use Rattle.matching.specs.Division.{Division}
use Rattle.chart_laws.proofs.Leading.{leads_decided}
use Rattle.chart_laws.proofs.Channels.{channels_divide, channels-whole, channels-least}

-- every division that has the given channels whole has more parts than a chart may have channels
abbrev pub Crowded : Content → Type 0
Crowded c = (m : ℕ) (part : ℕ → ℕ) → Divided c m part → Whole c.vertices (given_of c) part → most_channels < m

module _ (c : Content) (s : Sound c) where
  -- what leads where, by the table
  by_table : (u v : ℕ) → Leads c u v ⊎ Leads c v u → (leads? c u v ≡ true) ⊎ (leads? c v u ≡ true)
  by_table u v = ⊎_elim (λ r. inl ((leads_decided c s u v).1 r)) (λ r. inr ((leads_decided c s v u).1 r))

  from_table : (u v : ℕ) → (leads? c u v ≡ true) ⊎ (leads? c v u ≡ true) → Leads c u v ⊎ Leads c v u
  from_table u v = ⊎_elim (λ r. inl ((leads_decided c s u v).0 r)) (λ r. inr ((leads_decided c s v u).0 r))

  -- a division by routes is one by the table
  pub division_decided : (m : ℕ) (part : ℕ → ℕ) → Divided c m part ↔ Division (leads? c) c.vertices m part
  division_decided m part = (
    (λ d. record { below = d.below; related = λ u v hu hv ne e. by_table u v (d.related u v hu hv ne e) }),
    λ d. record { below = d.below; related = λ u v hu hv ne e. from_table u v (d.related u v hu hv ne e) },
  )

  -- ours
  pub ours_divided : Divided c (length (channels_of c)) (channel_of (channels_of c))
  ours_divided = (division_decided _ _).1 (channels_divide c s).division

  -- too many channels is too many parts of every such division
  pub too_many : broad? c ≡ true → Crowded c
  unfolding broad?
  too_many t m part d w =
      omega (arith, ltb-true most_channels (length (channels_of c)) t, channels-least c s m part ((division_decided m part).0 d) w)

  -- .. and the other way round, ours being one of them
  pub broad_so : Crowded c → broad? c ≡ true
  unfolding broad?
  broad_so b = lt-ltb most_channels (length (channels_of c)) (b _ _ ours_divided (channels-whole c s))

-- ---- the number: as the graph is refused, else 11 where it is broad

-- one check more, k, before those that give x, and y where `rest` follows them
next : (t : Bool) (k x y rest : ℕ) → 0 < k → y ≡ choose (eqb x 0) (λ _. rest) (λ _. x)
    → choose t (λ _. k) (λ _. y) ≡ choose (eqb (choose t (λ _. k) (λ _. x)) 0) (λ _. rest) (λ _. choose t (λ _. k) (λ _. x))
next true k x y rest l e = rw (ne_eqb k 0 (λ z. omega arith)) refl
next false k x y rest l e = e

module _ (c : Content) where
  chart_judged : chart_refusal c
      ≡ choose (eqb (refusal_of c) 0) (λ _. choose (broad? c) (λ _. 11) (λ _. 0)) (λ _. refusal_of c)
  unfolding chart_refusal refusal_of loose_checks later_checks chart_checks first_of
  chart_judged =
      next (size? c) 2 _ _ _ (omega arith) (
      next (floor? c) 12 _ _ _ (omega arith) (
      next (stranger? c) 3 _ _ _ (omega arith) (
      next (double? c) 4 _ _ _ (omega arith) (
      next (ring? c) 5 _ _ _ (omega arith) (
      next (repeated? c) 6 _ _ _ (omega arith) (
      next (unled? c) 7 0 _ _ (omega arith) refl))))))

  pub chart_refused : (refusal_of c ≡ 0 → ⊥) → chart_refusal c ≡ refusal_of c
  chart_refused ne = chart_judged ∙ rw (ne_eqb _ _ ne) refl

  pub chart_broad : refusal_of c ≡ 0 → broad? c ≡ true → chart_refusal c ≡ 11
  chart_broad z b = chart_judged ∙ rw (eq-eqb _ _ z, b) refl

  pub chart_whole : refusal_of c ≡ 0 → broad? c ≡ false → chart_refusal c ≡ 0
  chart_whole z b = chart_judged ∙ rw (eq-eqb _ _ z, b) refl
