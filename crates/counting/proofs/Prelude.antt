-- What most proofs take from the libraries, passed on under one name. Assumes nothing.
pub use mathlib.Core.Path.{◌∙◌, ◌≡◌, ap, ap₂, refl, subst, sym}
pub use mathlib.Core.Logic.{◌↔◌, ◌≢◌, ◌⊎◌, inl, inr, ⊎_elim}
pub use mathlib.Core.Bool.{Bool, ◌&&◌, ◌||◌, cond, false, false≢true, not, or_assoc, or-false, true, true≢false}
pub use mathlib.Core.List.{List, [], ◌++◌, ◌∷◌, append_assoc, append-nil, flatten, map}
pub use Prim.Native.Nat.{◌%◌, ◌*◌, ◌+◌, ◌-◌, ◌/◌, ◌<◌, ◌^◌, ◌≤◌, max, min, suc, suc-le-suc, zero, zero-le, ℕ}
pub use native.Mathlib.Omega.{arith}
pub use lib.Dec.{T, eqb, leb, le→leb, lit<, lit≤, ltb}
pub use lib.ListN.{get_or-append, get_or-eq_default, drop, drop_of_length-le, get_or, get_or-replicate, length, length-append}
pub use lib.ListN.{length-drop, length-replicate, length-set, replicate, set, take}
pub use borrow.Author.Tests.{eq-eqb, eqb-false, eqb-true, le-leb, le-ltb, leb-false, leb-true, lt-leb, lt-ltb, ltb-false, ltb-true, ne_eqb}
pub use borrow.Author.Tests.{not-false, not-true}
pub use borrow.Author.Rules.{rules}
