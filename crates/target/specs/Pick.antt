-- A choice by a test.
use Rattle.std.specs.Prelude.{Bool, true, false, Err, Result}
use Rattle.target.specs.declared.Refusal.{Refusal}

-- the first where the test holds, else the second
abbrev pub pick : {A : Type 0} → Bool → A → A → A
pick true a b = a
pick false a b = b

-- the refusal where its rule holds, else what the later rules say
unfoldable pub or_else : Bool → Refusal → Result Unit Refusal → Result Unit Refusal
or_else b r v = pick b (Err r) v
