-- The channels of a sound graph, given and planned: they cover the vertices and divide them, have the given ones whole, and are the
-- fewest of all that do. Assumes nothing.
use Rattle.counting.proofs.Prelude.{◌≡◌, sym, ap, ◌∙◌, ⊎_elim, true, ◌&&◌, List, [], ℕ, ◌≤◌, ◌<◌, arith, eqb, get_or}
use Rattle.counting.proofs.Prelude.{length, eq-eqb}
use Rattle.specification.specs.Count.{indicator, sum, count, some}
use Rattle.specification.specs.Graph.{strange?}
use Rattle.specification.specs.Channels.{has, channel_of, position_of, vertices_of, given_lines, unknown?}
use Rattle.specification.specs.Given.{Whole}
use Rattle.specification.specs.Checks.{Content, edges_of, given_of, connection_in, stranger?, repeated?, unled?, Sound}
use Rattle.specification.specs.Chart.{leads?, channels_of}
use Rattle.counting.proofs.Truth.{true_or_false, lt-or-le, or_neither}
use Rattle.matching.proofs.Without.{line_in}
use Rattle.counting.proofs.Classes.{sum_one, sum_term, count_classes}
use Rattle.matching.specs.Division.{Division, Covers, Channelled}
use Rattle.matching.proofs.Ordered.{channelled}
use Rattle.matching.specs.Given.{Given}
use Rattle.matching.proofs.Beside.{none_given, given_covers, given-whole}
use Rattle.matching.proofs.Fewest.{given-least}
use Rattle.channels.proofs.Checks.{passed-given}
use Rattle.record.proofs.Soundness.{given-passes, accepted-passes, sound_accepted}
use Rattle.geometry.proofs.Blocks.{channels-bound}
use Rattle.chart_laws.proofs.Leading.{answer-leads, leads-order}

-- ---- the channels

-- how many vertices channel l has
abbrev pub size_of : Content → ℕ → ℕ
size_of c l = count c.vertices (λ v. eqb (channel_of (channels_of c) v) l)

module _ (c : Content) (s : Sound c) where
  abbrev n : ℕ
  n = c.vertices

  abbrev ls : List (List ℕ)
  ls = channels_of c

  pub vertices_small : n ≤ 128
  vertices_small = s.size.1

  -- the given channels pass the checks, if there are any
  pub lines-given : Given (leads? c) n (given_of c)
  unfolding given_lines stranger? repeated? unled? leads?
  lines-given = ⊎_elim
      (λ g.
      let p = accepted-passes c (sound_accepted c s) in
      let known = (or_neither (some (edges_of c) (strange? n c.tails c.heads)) (c.given && unknown? n (vertices_of c.field))
      p.stranger).1 in
      rw g
      (passed-given n c.field (given-passes c.given _ known g) (given-passes c.given _ p.repeated g)
      (connection_in c) (leads? c) (λ u v hu hv. answer-leads c s u v) (given-passes c.given _ p.unled g)))
      (λ g. rw g (none_given (leads? c) n))
      (true_or_false c.given)

  -- their vertices are vertices of the graph
  pub lines_below : (l v : ℕ) → l < length (given_of c) → has v (get_or (given_of c) l []) ≡ true → v < n
  lines_below l v k h = ⊎_elim
      (λ b. b)
      (λ b. absurd (omega (arith, line_in l (given_of c) v k h, lines-given.fits.only v b)))
      (lt-or-le v n)

  -- with those planned beside them they hold each vertex once, and each vertex leads to the next of its channel
  pub channels_cover : Covers (leads? c) n ls
  unfolding channels_of
  channels_cover = given_covers (leads? c) n (given_of c) lines-given (leads-order c s)

  pub channels_divide : Channelled (leads? c) n (length ls) (channel_of ls) (position_of ls)
  channels_divide = channelled (leads? c) n (leads-order c s) ls channels_cover

  pub channel_below : (v : ℕ) → v < n → channel_of ls v < length ls
  channel_below = channels_divide.division.below

  -- each given channel is whole
  pub channels-whole : Whole n (given_of c) (channel_of ls)
  unfolding channels_of
  channels-whole = given-whole (leads? c) n (given_of c) lines-given (leads-order c s)

  -- and no division that has them whole has fewer parts
  pub channels-least : (m : ℕ) (part : ℕ → ℕ) → Division (leads? c) n m part → Whole n (given_of c) part → length ls ≤ m
  unfolding channels_of
  channels-least m part d w = given-least (leads? c) n (given_of c) lines-given.fits m part d w

  -- ---- how many vertices each has

  pub sizes_sum : sum (length ls) (size_of c) ≡ n
  unfolding count
  sizes_sum = sym (count_classes n (length ls) (λ v. true) (channel_of ls) (λ v l e. channel_below v l)) ∙ sum_one n

  pub size_positive : (l : ℕ) → l < length ls → 0 < size_of c l
  unfolding count
  size_positive l h =
      let u = channels_divide.used l h in
      omega (
        arith,
        sum_term n (λ v. indicator (eqb (channel_of ls v) l)) u.0 u.1,
        ap indicator
            (eq-eqb (channel_of ls u.0) l u.2),
      )

  pub channels-few : length ls ≤ n
  channels-few = omega (arith, channels-bound (length ls) (size_of c) size_positive, sizes_sum)
