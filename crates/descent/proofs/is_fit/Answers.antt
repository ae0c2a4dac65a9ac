use Rattle.counting.proofs.Prelude.{◌≡◌, refl, sym, ap, ap₂, ◌∙◌, Bool, true, false, ◌&&◌, ℕ, ◌+◌, ◌*◌, min, arith, leb, le-leb, lt-leb}
use Rattle.descent.specs.Steps.Closed.{fits?}
use Rattle.descent.proofs.is_fit.Goals as goal
use Rattle.descent.proofs.is_fit.Goals.{then-room-edges, else-room-edges, then-room-below, else-room-below}
use Rattle.descent.proofs.is_fit.Goals.{then-room-table, else-room-table}

-- v is a && b, where b is asked only if a holds
asked : (a b v : Bool) → a ≡ true → v ≡ b → v ≡ (a && b)
asked a b v t e = e ∙ sym (ap (λ (x : Bool). x && b) t)

unasked : (a b v : Bool) → a ≡ false → v ≡ a → v ≡ (a && b)
unasked a b v f e = e ∙ f ∙ sym (ap (λ (x : Bool). x && b) f)

in_turn : (a b c d e : Bool) → ((((a && b) && c) && d) && e) ≡ (a && (b && (c && (d && e))))
in_turn false b c d e = refl
in_turn true false c d e = refl
in_turn true true false d e = refl
in_turn true true true false e = refl
in_turn true true true true e = refl

-- one list after the other, as the code asks
fit : (n k e b t l p : ℕ) (x y z r : Bool) → k ≡ 2 * min n 128 → x ≡ (leb k e && leb (k + 2) b) → y ≡ (x && leb k t) → z ≡ (y && leb k l)
    → r ≡ (z && leb (2 * k) p) → r ≡ fits? n e b t l p
unfolding fits?
fit n k e b t l p x y z r q ex ey ez er =
    let four : 2 * k ≡ 4 * min n 128 = omega (arith, q) in
    er ∙ ap (λ (v : Bool). v && leb (2 * k) p) (ez ∙ ap (λ (v : Bool). v && leb k l) (ey ∙ ap (λ (v : Bool). v && leb k t) ex))
    ∙ in_turn (leb k e) (leb (k + 2) b) (leb k t) (leb k l) (leb (2 * k) p)
    ∙ ap₂ (λ (i j : ℕ). leb i e && (leb (i + 2) b && (leb i t && (leb i l && leb j p)))) q four

pub returns-then-room-longer : goal.returns-then-room-longer
returns-then-room-longer c =
    let a = c.args in
    let k : ℕ = 2 * c.min-room.result in
    let first : c.if-room-edges.value ≡ (leb k a.edges && leb (k + 2) a.below) = elim c.if-room-edges.branch [
      | then-room-edges w ↦ asked _ _ _ (le-leb _ _ w.if-room-edges.true) w.value-is
      | else-room-edges w ↦ unasked _ _ _ (lt-leb _ _ w.if-room-edges.false) w.value-is
    ] in
    let second : c.if-room-below.value ≡ (c.if-room-edges.value && leb k a.table) = elim c.if-room-below.branch [
      | then-room-below w ↦ asked _ _ _ w.if-room-below.true w.value-is
      | else-room-below w ↦ unasked _ _ _ w.if-room-below.false w.value-is
    ] in
    let third : c.if-room-table.value ≡ (c.if-room-below.value && leb k a.longer) = elim c.if-room-table.branch [
      | then-room-table w ↦ asked _ _ _ w.if-room-table.true w.value-is
      | else-room-table w ↦ unasked _ _ _ w.if-room-table.false w.value-is
    ] in
    fit _ k _ _ _ _ _ _ _ _ _ (omega (arith, c.min-room.ensures)) first second third (asked _ _ _ c.if-room-longer.true refl)

pub returns-else-room-longer : goal.returns-else-room-longer
returns-else-room-longer c =
    let a = c.args in
    let k : ℕ = 2 * c.min-room.result in
    let first : c.if-room-edges.value ≡ (leb k a.edges && leb (k + 2) a.below) = elim c.if-room-edges.branch [
      | then-room-edges w ↦ asked _ _ _ (le-leb _ _ w.if-room-edges.true) w.value-is
      | else-room-edges w ↦ unasked _ _ _ (lt-leb _ _ w.if-room-edges.false) w.value-is
    ] in
    let second : c.if-room-below.value ≡ (c.if-room-edges.value && leb k a.table) = elim c.if-room-below.branch [
      | then-room-below w ↦ asked _ _ _ w.if-room-below.true w.value-is
      | else-room-below w ↦ unasked _ _ _ w.if-room-below.false w.value-is
    ] in
    let third : c.if-room-table.value ≡ (c.if-room-below.value && leb k a.longer) = elim c.if-room-table.branch [
      | then-room-table w ↦ asked _ _ _ w.if-room-table.true w.value-is
      | else-room-table w ↦ unasked _ _ _ w.if-room-table.false w.value-is
    ] in
    fit _ k _ _ _ _ _ _ _ _ _ (omega (arith, c.min-room.ensures)) first second third (unasked _ _ _ c.if-room-longer.false refl)
