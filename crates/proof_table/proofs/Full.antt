-- A record of 128 vertices and 4,096 edges passes every check, and one with a vertex or an edge more does not. Assumes nothing.
use Rattle.counting.proofs.Prelude.{◌≡◌, refl, ap, ◌∙◌, true, false, ◌&&◌, List, [], ◌∷◌, ℕ, zero, suc, ◌+◌, ◌*◌, ◌/◌, ◌%◌, ◌≤◌, ◌<◌, arith}
use Rattle.counting.proofs.Prelude.{eqb, leb, length, get_or, take, drop, eqb-true, lt-leb}
use lib.Seq.{take-length}
use Rattle.specification.specs.Count.{some}
use Rattle.specification.specs.Graph.{Reaches, one, more, edge_count, Edge, outsized?, strange?, reachable?, alternate, tails_of, heads_of}
use Rattle.specification.specs.Graph.{alike?, duplicate?, unsized?}
use Rattle.specification.specs.Layout.{Fields}
use Rattle.specification.specs.Layout.{Good}
use Rattle.specification.specs.Layout.{bare_fields, size_at, field_at, after_lines, with_lines, after_edges, with_edges, with_vertices}
use Rattle.specification.specs.Layout.{layout_of}
use Rattle.specification.specs.Checks.{content, edges_of, size?, unfloored?, floor?, stranger?, double?, ring?, repeated?, unled?}
use Rattle.specification.specs.Checks.{loose_checks}
use Rattle.specification.specs.Checks.{later_checks, first_of, refusal_of, content_of, record_refusal, said}
use Rattle.counting.proofs.Somes.{some_none}
use Rattle.counting.proofs.Truth.{and_elim}
use Rattle.counting.proofs.Falsity.{not-true, neither}
use Rattle.reach.proofs.Decide.{reachable_decided}
use Rattle.specification.specs.Table.{Refused}
use Rattle.specification.proofs.Table.{table}
use Rattle.proof_table.specs.Table.{values, pairs, full_tail, full_head, full, record_with, record_with_one_more}

-- ---- its lists

module _ (f : ℕ → ℕ) where
  pub values_long : (n i : ℕ) → length (values f n i) ≡ n
  unfolding values
  values_long zero i = refl
  values_long (suc n) i = ap suc (values_long n (suc i))

  values-at : (n i j : ℕ) → j < n → get_or (values f n i) j 0 ≡ f (i + j)
  unfolding values
  values-at zero i j h = absurd (omega arith)
  values-at (suc n) i zero h = let e : i ≡ i + 0 = omega arith in ap f e
  values-at (suc n) i (suc j) h = let e : suc i + j ≡ i + suc j = omega arith in values-at n (suc i) j (omega arith) ∙ ap f e

  pub values_from_0 : (n j : ℕ) → j < n → get_or (values f n 0) j 0 ≡ f j
  values_from_0 n j h = let e : 0 + j ≡ j = omega arith in values-at n 0 j h ∙ ap f e

module _ (f g : ℕ → ℕ) where
  pairs_long : (n i : ℕ) → length (pairs f g n i) ≡ 2 * n
  unfolding pairs
  pairs_long zero i = refl
  pairs_long (suc n) i = omega (arith, pairs_long n (suc i))

  pub pairs-tails : (n i : ℕ) → alternate (pairs f g n i) ≡ values f n i
  unfolding pairs values alternate
  pairs-tails zero i = refl
  pairs-tails (suc n) i = ap (λ l. f i ∷ l) (pairs-tails n (suc i))

  after_one : (x n i : ℕ) → alternate (x ∷ pairs f g n i) ≡ x ∷ values g n i
  unfolding pairs values alternate
  after_one x zero i = refl
  after_one x (suc n) i = ap (λ l. x ∷ l) (after_one (g i) n (suc i))

  pub pairs-heads : (n i : ℕ) → alternate (drop 1 (pairs f g n i)) ≡ values g n i
  unfolding pairs values alternate
  pairs-heads zero i = refl
  pairs-heads (suc n) i = after_one (g i) n (suc i)

  pairs-whole : (n i : ℕ) → take (2 * n) (pairs f g n i) ≡ pairs f g n i
  pairs-whole n i = rw (← pairs_long n i) (take-length (pairs f g n i))

abbrev tails : List ℕ
tails = values full_tail 4096 0

abbrev heads : List ℕ
heads = values full_head 4096 0

edges : edge_count tails heads ≡ 4096
edges = rw (values_long full_tail 4096 0, values_long full_head 4096 0)

tail_at : (i : ℕ) → i < 4096 → get_or tails i 0 ≡ i / 64
tail_at = values_from_0 full_tail 4096

head_at : (i : ℕ) → i < 4096 → get_or heads i 0 ≡ 64 + i % 64
head_at = values_from_0 full_head 4096

-- ---- the checks

known : (i : ℕ) → i < 4096 → strange? 128 tails heads i ≡ false
unfolding strange?
known i h =
    rw (tail_at i h, head_at i h) (
    neither (leb 128 (i / 64)) (leb 128 (64 + i % 64)) (lt-leb 128 (i / 64) (omega arith)) (lt-leb 128 (64 + i % 64) (omega arith))
    )

unlike : (i : ℕ) → i < 4096 → (j : ℕ) → j < i → alike? tails heads i j ≡ false
unfolding alike?
unlike i h j l = rw (tail_at i h, head_at i h, tail_at j (omega arith), head_at j (omega arith)) (not-true _ differ)
  where
    differ : (eqb (j / 64) (i / 64) && eqb (64 + j % 64) (64 + i % 64)) ≡ true → ⊥
    differ e =
        let b = and_elim (eqb (j / 64) (i / 64)) (eqb (64 + j % 64) (64 + i % 64)) e in
        omega (arith, eqb-true (j / 64) (i / 64) b.0, eqb-true (64 + j % 64) (64 + i % 64) b.1)

-- edges go from below 64 to 64 or more, so that no two follow each other
edge_up : {u v : ℕ} → Edge tails heads u v → (u < 64) × (64 ≤ v)
unfolding Edge
edge_up (i, h, t, d) = let l : i < 4096 = rw edges at h in (omega (arith, tail_at i l), omega (arith, head_at i l))

pub full_up : {u v : ℕ} → Reaches (Edge tails heads) u v → (u < 64) × (64 ≤ v)
full_up (one e) = edge_up e
full_up (more e r) = let a = edge_up e in let b = full_up r in absurd (omega arith)

no_loop : (u : ℕ) → reachable? 128 tails heads u u ≡ false
no_loop u = not-true (reachable? 128 tails heads u u) (λ e. let a = full_up ((reachable_decided 128 tails heads u u).1 e).1 in omega arith)

size : size? full ≡ false
unfolding size? outsized? unsized? full
size = rw edges

stranger : stranger? full ≡ false
unfolding stranger? full
stranger = rw (edges, some_none 4096 (strange? 128 tails heads) known)

double : double? full ≡ false
unfolding double? duplicate? full
double = rw edges (some_none 4096 (λ i. some i (alike? tails heads i)) (λ i h. some_none i (alike? tails heads i) (unlike i h)))

ring : ring? full ≡ false
unfolding ring? full
ring = some_none 128 (λ u. reachable? 128 tails heads u u) (λ u h. no_loop u)

pub full-accepted : refusal_of full ≡ 0
unfolding refusal_of first_of loose_checks later_checks unfloored? floor? repeated? unled? full
full-accepted = rw (size, stranger, double, ring)

-- ---- the records

abbrev bytes : List ℕ
bytes = pairs full_tail full_head 4096 0

-- 4,096 edges of n vertices, whatever n is
abbrev pub full_fields : ℕ → Fields
full_fields n = bare_fields n 7 4096

laid_out_with : (n : ℕ) (s : List ℕ) → length s ≡ 8192 → layout_of (1 ∷ 0 ∷ 1 ∷ n ∷ 2 ∷ 32 ∷ 0 ∷ s) ≡ Good (full_fields n)
unfolding layout_of with_vertices with_edges after_edges with_lines after_lines field_at size_at
laid_out_with n s h = simp h

pub full-laid_out : (n : ℕ) → layout_of (record_with n) ≡ Good (full_fields n)
unfolding record_with
full-laid_out n = laid_out_with n bytes (pairs_long full_tail full_head 4096 0)

pub full_says : (n : ℕ) → content_of (record_with n) (full_fields n) ≡ content n tails heads false [] false []
unfolding content_of tails_of heads_of record_with
full_says n = rw (pairs-whole full_tail full_head 4096 0, pairs-tails full_tail full_head 4096 0, pairs-heads full_tail full_head 4096 0)

pub full-edges : edges_of full ≡ 4096
unfolding full
full-edges = edges

pub full-passes : record_refusal (record_with 128) ≡ 0
unfolding record_refusal full
full-passes = rw (full-laid_out 128, full_says 128) full-accepted

pub full-said : said (record_with 128) ≡ full
unfolding said full
full-said = rw (full-passes, full-laid_out 128) (full_says 128)

-- ---- one more

-- the fields stand as they must, and what they say is too large
refused-size : (b : List ℕ) (f : Fields) → layout_of b ≡ Good f → refusal_of (content_of b f) ≡ 2 → Refused b 2
unfolding record_refusal said
refused-size b f l r = (rw l r, rw (l, r))

pub more_words : Refused (record_with 129) 2
more_words = refused-size (record_with 129) (full_fields 129) (full-laid_out 129) (rw (full_says 129) (table.more_words _ refl))

abbrev fields_more : Fields
fields_more = bare_fields 128 7 4097

laid_out_more : (s : List ℕ) → length s ≡ 8194 → layout_of (1 ∷ 0 ∷ 1 ∷ 128 ∷ 2 ∷ 32 ∷ 2 ∷ s) ≡ Good fields_more
unfolding layout_of with_vertices with_edges after_edges with_lines after_lines field_at size_at
laid_out_more s h = simp h

-- two bytes and 4,096 edges are 4,097
one_more : edges_of (content_of record_with_one_more fields_more) ≡ 4097
unfolding content_of tails_of heads_of record_with_one_more alternate
one_more =
    rw (pairs-whole full_tail full_head 4096 0, pairs-tails full_tail full_head 4096 0, after_one full_tail full_head 1 4096 0)
    (rw (values_long full_tail 4096 0, values_long full_head 4096 0))

pub more_arrows : Refused record_with_one_more 2
unfolding record_with_one_more
more_arrows =
    refused-size record_with_one_more fields_more
    (laid_out_more (0 ∷ 1 ∷ bytes) (ap (λ k. suc (suc k)) (pairs_long full_tail full_head 4096 0)))
    (table.more_arrows _ one_more)
