-- The letters of a text, and the word `ok`, after which no value comes.
use Rattle.std.specs.Prelude.{ℕ, Bool, eqb, Option, Some, None}
use Rattle.nib_text.specs.declared.Kind.{Kind}
use Rattle.nib_text.specs.declared.Kind.TheVariants.{Command, Address, DataIn, DataOut, Finish, Protect, Raw, Bytes, Refusal, Accepted}

abbrev pub kind_number : Option Kind → ℕ
kind_number None = 0
kind_number (Some Command) = 1
kind_number (Some Address) = 2
kind_number (Some DataIn) = 3
kind_number (Some DataOut) = 4
kind_number (Some Finish) = 5
kind_number (Some Protect) = 6
kind_number (Some Raw) = 7
kind_number (Some Bytes) = 8
kind_number (Some Refusal) = 9
kind_number (Some Accepted) = 10

abbrev pub same_kind : Option Kind → Option Kind → Bool
same_kind a b = eqb (kind_number a) (kind_number b)
