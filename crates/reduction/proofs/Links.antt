-- No links with the graph's reachability are fewer than the reduced edges. Assumes nothing.
use Rattle.counting.proofs.Prelude.{◌≡◌, refl, sym, ap, ap₂, ◌∙◌, ◌↔◌, Bool, true, false, true≢false, not, List, ℕ, ◌≤◌, ◌<◌, arith, get_or}
use Rattle.counting.proofs.Truth.{and_intro, and_elim}
use Rattle.specification.specs.Graph.{Reaches, edge_count, Edge}
use Rattle.specification.specs.Graph.Reaches.{one, more}
use Rattle.reach.proofs.Decide.{edge_decided}
use Rattle.reach.proofs.Routes.{longer_between}
use Rattle.specification.specs.declared.Connection.{Connection}
use Rattle.specification.specs.Marks.{transitive?, reduced_count, Linked, link_count, reduced_link}
use Rattle.reduction.specs.Reduction.{Reduced, SameClosure, Fewest, Dag}
use Rattle.reduction.proofs.Pairs.{pairs-le, pairs-eq}
use Rattle.reduction.proofs.Transitive.{reaches_map, route_begins, route_ends, transitive_longer, reduced_reaches}

not-holds : (b : Bool) → not b ≡ true → b ≡ false
not-holds true e = sym e
not-holds false e = refl

module _ (ask : ℕ → ℕ → Connection) (n : ℕ) (tails heads : List ℕ) where
  -- the computed links are the reduced edges
  pub link_decided : (u v : ℕ) → Reduced ask tails heads u v ↔ (reduced_link ask tails heads u v ≡ true)
  unfolding reduced_link
  link_decided u v = (
    (λ r. and_intro _ _ ((edge_decided tails heads u v).0 r.0) (ap not r.1)),
    λ e. let b = and_elim _ _ e in
        ((edge_decided tails heads u v).1 b.0, not-holds _ b.1),
  )

  module _ (d : Dag ask n tails heads) where
    -- every set of links with the graph's reachability has the reduced edges: nothing lies between their ends
    pub reduced_linked : (link : ℕ → ℕ → Bool) → SameClosure n tails heads link → (u v : ℕ) → Reduced ask tails heads u v
        → link u v ≡ true
    reduced_linked link same u v r = go ((same u v).1 (one r.0))
      where
        go : Reaches (Linked n link) u v → link u v ≡ true
        go (one a) = a.2
        go (more a q) =
            let l = longer_between.1 (_, (same u _).0 (one a), (same _ v).0 q) in
            absurd (true≢false (sym ((transitive_longer ask n tails heads d u v r.0).0 l) ∙ r.1))

    -- the edges as numbers
    reduced_number : (i : ℕ) → i < edge_count tails heads → not (transitive? ask (get_or tails i 0) (get_or heads i 0)) ≡ true
        → Reduced ask tails heads (get_or tails i 0) (get_or heads i 0)
    unfolding Edge
    reduced_number i l e = ((i, l, refl, refl), not-holds (transitive? ask (get_or tails i 0) (get_or heads i 0)) e)

    -- NO FEWER LINKS have the graph's descent than there are firm arrows
    pub links_least : (link : ℕ → ℕ → Bool) → SameClosure n tails heads link
        → reduced_count ask (edge_count tails heads) tails heads ≤ link_count n link
    unfolding reduced_count link_count
    links_least link same =
        pairs-le (edge_count tails heads) n (λ e. not (transitive? ask (get_or tails e 0) (get_or heads e 0))) (λ e. get_or tails e 0)
        (λ e. get_or heads e 0)
        d.ends d.distinct link (λ i l e. reduced_linked link same (get_or tails i 0) (get_or heads i 0) (reduced_number i l e))

    -- THE FIRM ARROWS AS LINKS have the graph's descent
    pub reduced_links : SameClosure n tails heads (reduced_link ask tails heads)
    reduced_links u v = (
      (λ p. (reduced_reaches ask n tails heads d u v).0 (reaches_map (λ u v a. (link_decided u v).1 a.2) p)),
      λ p. reaches_map
          (λ u v r. (route_begins ask n tails heads d (one r.0), route_ends ask n tails heads d (one r.0), (link_decided u v).0 r))
          ((reduced_reaches ask n tails heads d u v).1 p),
    )

    -- and they are as many as the firm arrows
    pub reduced_link-count : link_count n (reduced_link ask tails heads) ≡ reduced_count ask (edge_count tails heads) tails heads
    unfolding Edge reduced_count link_count
    reduced_link-count =
        sym
        (pairs-eq (edge_count tails heads) n (λ e. not (transitive? ask (get_or tails e 0) (get_or heads e 0))) (λ e. get_or tails e 0)
        (λ e. get_or heads e 0)
        d.ends d.distinct (reduced_link ask tails heads)
        (λ i l e. (link_decided (get_or tails i 0) (get_or heads i 0)).0 (reduced_number i l e))
        (λ u v hu hv e. number u v ((link_decided u v).1 e)))
      where
        number : (u v : ℕ) → Reduced ask tails heads u v
            → (i : ℕ) × (i < edge_count tails heads) × (not (transitive? ask (get_or tails i 0) (get_or heads i 0)) ≡ true)
            × (get_or tails i 0 ≡ u) × (get_or heads i 0 ≡ v)
        number u v r = (r.0.0, r.0.1, ap not (ap₂ (transitive? ask) r.0.2 r.0.3 ∙ r.1), r.0.2, r.0.3)

    -- so they are the fewest
    pub reduced_fewest : Fewest n tails heads (reduced_link ask tails heads)
    reduced_fewest = record { same = reduced_links; least = λ other same. omega (arith, reduced_link-count, links_least other same) }
