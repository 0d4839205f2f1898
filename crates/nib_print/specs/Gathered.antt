-- What a room of bytes holds.
use Rattle.std.specs.Prelude.{ℕ, List, take}
use Rattle.nib_print.specs.declared.bytes.Bytes.{Bytes}

-- the bytes at its front
abbrev pub gathered : {N : ℕ} → Bytes N → List ℕ
gathered b = take b.n b.room
