-- The number and the values tell the case: no two layouts, no two courses and no two answers have the same. Assumes nothing.
use mathlib.Core.Path.{◌≡◌, refl, sym, ap, ◌∙◌}
use lib.Dec.{eqb}
use Rattle.specification.specs.Count.{choose}
use Rattle.specification.specs.Layout.{Layout}
use Rattle.specification.specs.Layout.{Good, Bad}
use Rattle.specification.specs.declared.Course.{Course}
use Rattle.specification.specs.declared.Course.TheVariants.{Straight, Bent}
use Rattle.specification.specs.declared.Code.{Code}
use Rattle.specification.specs.declared.Connection.{Connection}
use Rattle.specification.specs.declared.Connection.TheVariants.{Unreached, EdgeOnly, LongerOnly, Both}
use Rattle.specification.specs.Connection.{connection_number, numbered}
use Rattle.specification.specs.Layout.{LayoutAnswer, layout_answer}
use Rattle.specification.specs.Numbers.{code_of, course_code}
use native.Mathlib.Nat.{suc-ne-zero}
use Rattle.std.specs.Prelude.{◌≢◌}
use Rattle.specification.specs.Refusals.{refusal_number}
use Rattle.specification.specs.declared.Refusal.{Refusal}
use Rattle.specification.specs.declared.Refusal.TheVariants as refusal

abbrev layout_by : LayoutAnswer → Layout
layout_by a = choose (eqb a.number 0) (λ _. Good a.fields) (λ _. Bad)

layout_told : (l : Layout) → layout_by (layout_answer l) ≡ l
layout_told (Good f) = refl
layout_told Bad = refl

pub same_layout : (l k : Layout) → layout_answer l ≡ layout_answer k → l ≡ k
same_layout l k e = sym (layout_told l) ∙ ap layout_by e ∙ layout_told k

-- l, which says what k says, is the case m
pub case_layout : (l k m : Layout) → layout_answer l ≡ layout_answer k → l ≡ m → k ≡ m
case_layout l k m e h = sym (same_layout l k e) ∙ h

abbrev course_by : Code → Course
course_by k = choose (eqb k.code 2) (λ _. Straight) (λ _. Bent k.value k.row)

course-told : (c : Course) → course_by (course_code c) ≡ c
unfolding code_of
course-told Straight = refl
course-told (Bent x y) = refl

pub same-course : (c d : Course) → course_code c ≡ course_code d → c ≡ d
same-course c d e = sym (course-told c) ∙ ap course_by e ∙ course-told d

pub connection-told : (a : Connection) → numbered (connection_number a) ≡ a
unfolding numbered
connection-told Unreached = refl
connection-told EdgeOnly = refl
connection-told LongerOnly = refl
connection-told Both = refl

pub same-connection : (a b : Connection) → connection_number a ≡ connection_number b → a ≡ b
same-connection a b e = sym (connection-told a) ∙ ap numbered e ∙ connection-told b

-- a refusal has a number above 0
pub refusal_numbered : (k : Refusal) → refusal_number k ≢ 0
refusal_numbered refusal.Layout = suc-ne-zero 0
refusal_numbered refusal.Size = suc-ne-zero 1
refusal_numbered refusal.Stranger = suc-ne-zero 2
refusal_numbered refusal.Double = suc-ne-zero 3
refusal_numbered refusal.Ring = suc-ne-zero 4
refusal_numbered refusal.Cover = suc-ne-zero 5
refusal_numbered refusal.Broken = suc-ne-zero 6
refusal_numbered refusal.Short = suc-ne-zero 7
refusal_numbered refusal.Full = suc-ne-zero 8
refusal_numbered refusal.OffPage = suc-ne-zero 9
refusal_numbered refusal.Broad = suc-ne-zero 10
refusal_numbered refusal.Floor = suc-ne-zero 11
