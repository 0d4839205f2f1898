-- Bits of the feature word (bytes 6 and 7 of the parameter page) and of the optional-command word (bytes 8 and 9).
use Rattle.std.specs.Prelude.{ℕ, ◌/◌, ◌%◌, ◌^◌, Bool, eqb}
use Rattle.target.specs.declared.Words.{Words}

-- bit k of a number is 1
unfoldable pub bit_of : ℕ → ℕ → Bool
bit_of n k = eqb (n / 2 ^ k % 2) 1

abbrev pub has_feature : Words → ℕ → Bool
has_feature w k = bit_of w.features k

abbrev pub has_option : Words → ℕ → Bool
has_option w k = bit_of w.optional k
