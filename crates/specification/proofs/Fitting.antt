-- What is written fits in bytes. Assumes nothing.
use mathlib.Core.Path.{sym, subst}
use mathlib.Core.List.{List, [], ◌∷◌, ◌++◌}
use Prim.Native.Nat.{ℕ, zero, suc, ◌≤◌, ◌<◌}
use native.Mathlib.Omega.{arith}
use lib.ListN.{length, take, drop, take-append-drop}
use Rattle.specification.specs.Limits.{most_bytes}
use Rattle.specification.specs.Writing.{field, line_bytes, Bytes, Lines}
use Rattle.specification.specs.Writing.Lines.{more}

pub bytes_none : Bytes []
bytes_none i = omega arith

pub bytes-cons : (v : ℕ) (s : List ℕ) → v < 256 → Bytes s → Bytes (v ∷ s)
bytes-cons v s h k zero = h
bytes-cons v s h k (suc i) = k i

pub bytes_left : (s t : List ℕ) → Bytes (s ++ t) → Bytes s
bytes_left [] t h = bytes_none
bytes_left (v ∷ s) t h = bytes-cons v s (h 0) (bytes_left s t (λ j. h (suc j)))

bytes-right : (s t : List ℕ) → Bytes (s ++ t) → Bytes t
bytes-right [] t h = h
bytes-right (v ∷ s) t h = bytes-right s t (λ j. h (suc j))

pub bytes-append : (s t : List ℕ) → Bytes s → Bytes t → Bytes (s ++ t)
bytes-append [] t h k = k
bytes-append (v ∷ s) t h k = bytes-cons v (s ++ t) (h 0) (bytes-append s t (λ j. h (suc j)) k)

pub bytes-part : (b : List ℕ) (start size : ℕ) → Bytes b → Bytes (take size (drop start b))
bytes-part b start size h =
    let rest = bytes-right (take start b) (drop start b) (subst Bytes (sym (take-append-drop start b)) h) in
    let all = subst Bytes (sym (take-append-drop size (drop start b))) rest in
    bytes_left (take size (drop start b)) (drop size (drop start b)) all

pub bytes-field : (tag : ℕ) (s : List ℕ) → tag < 256 → length s ≤ most_bytes → Bytes s → Bytes (field tag s)
unfolding field
bytes-field tag s h k b zero = h
bytes-field tag s h k b (suc zero) = omega (arith, k)
bytes-field tag s h k b (suc (suc zero)) = omega (arith, k)
bytes-field tag s h k b (suc (suc (suc i))) = b i

pub bytes-lines : (ls : List (List ℕ)) → Lines ls → Bytes (line_bytes ls)
unfolding line_bytes
bytes-lines [] w = bytes_none
bytes-lines (l ∷ ls) (more some few bytes w) =
    bytes-cons (length l) (l ++ line_bytes ls) few (bytes-append l (line_bytes ls) bytes (bytes-lines ls w))
