-- The class table's rule against the command list: one computed test over its 256 entries.
-- Assumes nothing.
use mathlib.Core.Path.{◌≡◌, refl, sym, ap, ◌∙◌}
use mathlib.Core.Bool.{Bool, true, false, ◌&&◌, ◌||◌}
use mathlib.Core.List.{List, [], ◌∷◌, map}
use Prim.Native.Nat.{ℕ, ◌<◌}
use native.Mathlib.Omega.{arith}
use lib.Dec.{eqb}
use borrow.Author.Tests.{eqb-true}
use lib.ListN.{get_or}
use Rattle.target.specs.Pick.{pick}
use Rattle.target.specs.Commands.{class_of, row_of, second_row, byte_of, first_commands, first_in, first_of, is_in, first_bytes, second_bytes, alone_bytes, is_first}
use Rattle.target.specs.declared.First.{First as Command}
use Rattle.target.specs.declared.commands.Class.{Class}
use Rattle.target.specs.declared.commands.Class.TheVariants.{First, Second, Both, Alone, Unknown}
use Rattle.target.proofs.Table.{at_place}
use Rattle.target.proofs.ClassList.{classes}
use Rattle.std.specs.Prelude.{Option, Some, is_some}

-- the number that stands in the table for a class
abbrev pub number_of_class : Class → ℕ
number_of_class Unknown = 0
number_of_class First = 1
number_of_class Second = 2
number_of_class Both = 3
number_of_class Alone = 4

right : ℕ → ℕ → Bool
right v x = eqb x (number_of_class (class_of v))

pub table-right : (v : ℕ) → v < 256 → get_or classes v 0 ≡ number_of_class (class_of v)
unfolding class_of row_of second_row right
table-right v h = eqb-true (get_or classes v 0) (number_of_class (class_of v)) (at_place right classes v h refl)

-- a class is told by its number
by_number : (c d : Class) → number_of_class c ≡ number_of_class d → c ≡ d
by_number First First e = refl
by_number First Second e = absurd (omega arith)
by_number First Both e = absurd (omega arith)
by_number First Alone e = absurd (omega arith)
by_number First Unknown e = absurd (omega arith)
by_number Second First e = absurd (omega arith)
by_number Second Second e = refl
by_number Second Both e = absurd (omega arith)
by_number Second Alone e = absurd (omega arith)
by_number Second Unknown e = absurd (omega arith)
by_number Both First e = absurd (omega arith)
by_number Both Second e = absurd (omega arith)
by_number Both Both e = refl
by_number Both Alone e = absurd (omega arith)
by_number Both Unknown e = absurd (omega arith)
by_number Alone First e = absurd (omega arith)
by_number Alone Second e = absurd (omega arith)
by_number Alone Both e = absurd (omega arith)
by_number Alone Alone e = refl
by_number Alone Unknown e = absurd (omega arith)
by_number Unknown First e = absurd (omega arith)
by_number Unknown Second e = absurd (omega arith)
by_number Unknown Both e = absurd (omega arith)
by_number Unknown Alone e = absurd (omega arith)
by_number Unknown Unknown e = refl

-- so an entry that is a class's number says the class
pub class-told : (v : ℕ) (d : Class) → v < 256 → get_or classes v 0 ≡ number_of_class d → d ≡ class_of v
class-told v d h e = by_number d (class_of v) (sym e ∙ table-right v h)

-- and one that is no other class's number says that there is none
unlisted : (c : Class) (n : ℕ) → n ≡ number_of_class c → (n ≡ 1 → ⊥) → (n ≡ 2 → ⊥) → (n ≡ 3 → ⊥) → (n ≡ 4 → ⊥) → Unknown ≡ c
unlisted First n e a b c d = absurd (a e)
unlisted Second n e a b c d = absurd (b e)
unlisted Both n e a b c d = absurd (c e)
unlisted Alone n e a b c d = absurd (d e)
unlisted Unknown n e a b c d = refl

pub unknown-told : (v : ℕ) → v < 256 → (get_or classes v 0 ≡ 1 → ⊥) → (get_or classes v 0 ≡ 2 → ⊥) → (get_or classes v 0 ≡ 3 → ⊥) → (get_or classes v 0 ≡ 4 → ⊥) → Unknown ≡ class_of v
unknown-told v h = unlisted (class_of v) (get_or classes v 0) (table-right v h)

-- The byte of a first command is found in the list just where its class says so.

found-or : (b : Bool) (f : Command) (k : Option Command) (c : Bool) → is_some k ≡ c → is_some (pick b (Some f) k) ≡ (b || c)
found-or true f k c h = refl
found-or false f k c h = h

found_in : (fs : List Command) (v : ℕ) → is_some (first_in fs v) ≡ is_in v (map byte_of fs)
found_in [] v = refl
found_in (f ∷ fs) v = found-or (eqb v (byte_of f)) f (first_in fs v) (is_in v (map byte_of fs)) (found_in fs v)

first-of-class : (a b c : Bool) → a ≡ is_first (pick (a && b) Both (pick a First (pick b Second (pick c Alone Unknown))))
first-of-class true true c = refl
first-of-class true false c = refl
first-of-class false true c = refl
first-of-class false false true = refl
first-of-class false false false = refl

pub found_class : (v : ℕ) (k : Option Command) → k ≡ first_of v → is_some k ≡ is_first (class_of v)
unfolding class_of first_of
found_class v k h = ap is_some h ∙ found_in first_commands v ∙ first-of-class (is_in v first_bytes) (is_in v second_bytes) (is_in v alone_bytes)
