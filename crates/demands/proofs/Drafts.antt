-- What is drawn of a record that is written. Assumes nothing.
use Rattle.counting.proofs.Prelude.{◌≡◌, refl, ap, ◌∙◌, Bool, List, ℕ}
use mathlib.Core.List.{map}
use Rattle.specification.specs.Checks.{Content, content, content_of, content_in, refusal_in}
use Rattle.specification.specs.Layout.{Layout}
use Rattle.specification.specs.Writing.{Draft, written, Writable, fields_of}
use Rattle.specification.specs.Drawn.{chart_refusal, judged, record_drawn}
use Rattle.specification.proofs.Written.{written_reads_back}

same-content : (c : Content) (n : ℕ) (tails heads : List ℕ) (g : Bool) (p : Bool) (x : List ℕ) → c.vertices ≡ n → c.tails ≡ tails
    → c.heads ≡ heads → c.given ≡ g → c.floored ≡ p → c.floors ≡ x → c ≡ content n tails heads g c.field p x
same-content c n tails heads g p x a b d e f h = rw (← a, ← b, ← d, ← e, ← f, ← h) refl

module _ (x : Draft) (w : Writable x) where
  abbrev pub meant : Content
  meant = content_of (written x) (fields_of x)

  drawn-meant : record_drawn (written x) ≡ judged (chart_refusal meant) meant
  unfolding record_drawn
  drawn-meant =
      ap (λ (l : Layout). judged (refusal_in chart_refusal (written x) l) (content_in (written x) l)) (written_reads_back x w).laid

  -- all but the bytes of the given channels are the draft's
  abbrev pub draft_content : Content
  draft_content =
      content x.vertices (map (λ e. e.0) x.edges) (map (λ e. e.1) x.edges) x.given meant.field x.floored x.floors

  meant_is : meant ≡ draft_content
  meant_is =
      let r = written_reads_back x w in
      same-content meant _ _ _ _ _ _ r.vertices r.tails r.heads r.given r.floored r.floors

  pub drawn-written : record_drawn (written x) ≡ judged (chart_refusal draft_content) draft_content
  drawn-written = drawn-meant ∙ ap (λ c. judged (chart_refusal c) c) meant_is
