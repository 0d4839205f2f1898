-- A trace back as text.
use Rattle.std.specs.Prelude.{ℕ, Bool, false, ◌&&◌, ◌||◌, not, eqb, ltb, if◌then◌else◌, Option, Some, None}
use Rattle.nib_text.specs.Kinds.{same_kind}
use Rattle.nib_text.specs.Reading.{up}
use Rattle.nib_text.specs.declared.Kind.{Kind}
use Rattle.nib_text.specs.declared.Kind.TheVariants.{Command, Address, DataIn, DataOut, Finish, Protect, Raw}
use Rattle.nib_text.specs.declared.writing.Writing.{Writing}
use Rattle.nib_text.specs.declared.writing.Value.{Value}
use Rattle.nib_text.specs.declared.writing.Value.TheVariants as value
use Rattle.nib_text.specs.declared.writing.Piece.{Piece}
use Rattle.nib_text.specs.declared.writing.Wrote.{Wrote}

-- the letter for a record; one that no letter says goes as two bytes
abbrev pub record_kind : ℕ → ℕ → Option Kind
record_kind k v =
    if eqb k 0 then Some Command
    else (if eqb k 1 then Some Address
    else (if eqb k 2 then Some DataIn
    else (if eqb k 3 && eqb v 0 then Some DataOut
    else (if eqb k 4 then Some Finish
    else (if eqb k 5 then Some Protect
    else Some Raw)))))

abbrev pub record_value : Option Kind → ℕ → ℕ → Option Value
record_value (Some Command) k v = Some (value.Byte v)
record_value (Some Address) k v = Some (value.Byte v)
record_value (Some DataIn) k v = Some (value.Byte v)
record_value (Some Finish) k v = Some (value.Number v)
record_value (Some Protect) k v = Some (value.Number v)
record_value (Some Raw) k v = Some (value.Pair k v)
record_value _ k v = None

abbrev pub limit_of : Option Kind → ℕ
limit_of (Some Address) = 16
limit_of (Some DataIn) = 16
limit_of (Some DataOut) = 65535
limit_of _ = 1

abbrev pub goes_on : Writing → Option Kind → Bool
goes_on w k = same_kind w.line k && ltb w.many (limit_of k)

-- data outs are counted, and written when the count is known
abbrev pub is_pending : Writing → Bool
is_pending w = same_kind w.line (Some DataOut)

abbrev pub is_open : Writing → Bool
is_open w = not (same_kind w.line (Some DataOut)) && not (same_kind w.line None)

abbrev pub added : Writing → Option Kind → Option Value → Wrote
added w k v = record {
  writing = record { half = None; line = k; many = if goes_on w k then up w.many else 1 };
  piece = record {
    outs = if is_pending w && not (goes_on w k) then w.many else 0;
    close = is_open w && not (goes_on w k);
    letter = if goes_on w k || same_kind k (Some DataOut) then None else k;
    value = v;
  };
}

abbrev pub no_piece : Piece
no_piece = record { outs = 0; close = false; letter = None; value = None }

abbrev pub held : Writing → ℕ → Wrote
held w b = record {
  writing = record { half = Some b; line = w.line; many = w.many };
  piece = no_piece;
}

-- one byte of the trace: the first of a record waits for the second
abbrev pub whole : Writing → ℕ → ℕ → Wrote
whole w kind b = added w (record_kind kind b) (record_value (record_kind kind b) kind b)

abbrev pub next_by : Option ℕ → Writing → ℕ → Wrote
next_by (Some kind) w b = whole w kind b
next_by None w b = held w b

abbrev pub wrote_next : Writing → ℕ → Wrote
wrote_next w b = next_by w.half w b

-- an odd last byte goes as one byte
abbrev pub odd_by : Option ℕ → Writing → Wrote
odd_by (Some b) w = added w (Some Raw) (Some (value.Byte b))
odd_by None w = record { writing = w; piece = no_piece }

abbrev pub wrote_odd : Writing → Wrote
wrote_odd w = odd_by w.half w

abbrev pub wrote_end : Writing → Piece
wrote_end w = record { outs = if is_pending w then w.many else 0; close = is_open w; letter = None; value = None }

abbrev pub writing_begun : Writing
writing_begun = record { half = None; line = None; many = 0 }
