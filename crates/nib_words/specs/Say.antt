-- Events, replies and refusals in words.
use Rattle.std.specs.Prelude.{ℕ, Bool, false, ◌&&◌, List, [], ◌∷◌, ◌++◌, eqb, if◌then◌else◌}
use Rattle.nib_words.specs.Desk.{ascii, when, hexed, byte_words, decimal}

-- what a command byte asks for; 85h by whether a sequence is open where it comes
unfoldable pub command_name : ℕ → Bool → List ℕ
command_name v inside =
    if eqb v 0 then ascii "  read"
    else (if eqb v 5 then ascii "  change column"
    else (if eqb v 6 then ascii "  change LUN and column"
    else (if eqb v 16 then ascii "  start programming"
    else (if eqb v 48 then ascii "  start reading"
    else (if eqb v 53 then ascii "  start copyback read"
    else (if eqb v 96 then ascii "  erase"
    else (if eqb v 112 then ascii "  status"
    else (if eqb v 120 then ascii "  status of a LUN"
    else (if eqb v 128 then ascii "  program"
    else (if eqb v 133 && inside then ascii "  change column"
    else (if eqb v 133 then ascii "  copyback program"
    else (if eqb v 144 then ascii "  identify"
    else (if eqb v 208 then ascii "  start erasing"
    else (if eqb v 224 then ascii "  start output"
    else (if eqb v 236 then ascii "  parameter page"
    else (if eqb v 238 then ascii "  get feature"
    else (if eqb v 239 then ascii "  set feature"
    else (if eqb v 255 then ascii "  reset"
    else []))))))))))))))))))

unfoldable pub command_words : ℕ → Bool → List ℕ
command_words v inside = ascii "command " ++ (byte_words v ++ command_name v inside)

-- a record that is none, as its bytes
unfoldable pub bad_words : ℕ → ℕ → List ℕ
bad_words kind value = ascii "bytes " ++ (hexed kind false ++ ((32 ∷ []) ++ hexed value false))

-- a record in words; one byte alone is an odd byte
unfoldable pub event_words : Bool → ℕ → ℕ → Bool → List ℕ
event_words odd kind value inside =
    if odd then ascii "odd byte " ++ byte_words kind
    else (if eqb kind 0 then command_words value inside
    else (if eqb kind 1 then ascii "address " ++ byte_words value
    else (if eqb kind 2 then ascii "data in " ++ byte_words value
    else (if eqb kind 3 && eqb value 0 then ascii "data out"
    else (if eqb kind 4 then ascii "finish LUN " ++ decimal value
    else (if eqb kind 5 && eqb value 0 then ascii "protect line low"
    else (if eqb kind 5 && eqb value 1 then ascii "protect line high"
    else bad_words kind value)))))))

-- the words of a refusal's rule, those of power-on from 20 on, and none where no rule has the number
unfoldable pub rule_words : ℕ → List ℕ
rule_words n =
    if eqb n 1 then ascii "command byte not known, or not offered by this part"
    else (if eqb n 2 then ascii "bus cycle other than FFh before the first FFh"
    else (if eqb n 3 then ascii "known cycle that doesn't fit the place reached"
    else (if eqb n 4 then ascii "row, column, feature or identification address not in range"
    else (if eqb n 5 then ascii "the LUN is working"
    else (if eqb n 6 then ascii "a LUN is working; for 70h, one other than the selected LUN"
    else (if eqb n 7 then ascii "10h or D0h with the protect line low"
    else (if eqb n 8 then ascii "data in or out past the end"
    else (if eqb n 9 then ascii "feature byte not offered"
    else (if eqb n 10 then ascii "finish of a LUN that is not working or doesn't exist"
    else (if eqb n 11 then ascii "protect event while a LUN works or a sequence is open"
    else (if eqb n 12 then ascii "bad record"
    else (if eqb n 13 then ascii "target not powered, or a length or a number of the record that can't be"
    else (if eqb n 14 then ascii "no copyback is open there"
    else (if eqb n 16 then ascii "reply room too short"
    else (if eqb n 20 then ascii "the parameter bytes are not 256"
    else (if eqb n 21 then ascii "the parameter bytes don't start with ONFI"
    else (if eqb n 22 then ascii "the CRC is not that of the parameter bytes"
    else (if eqb n 23 then ascii "a field of the parameter bytes is outside its limits"
    else (if eqb n 24 then ascii "a buffer's length is not what the parameter bytes give"
    else (if eqb n 25 then ascii "a count above programs a page, or a flag above 1"
    else []))))))))))))))))))))

-- 'refused 5: the LUN is working'
unfoldable pub refused_words : ℕ → List ℕ
refused_words n = ascii "refused " ++ (decimal n ++ (ascii ": " ++ rule_words n))

-- refusal 5 names the LUN that is working
abbrev pub named_lun : ℕ → List ℕ
named_lun lun = (ascii " (LUN " ++ decimal lun) ++ (41 ∷ [])

unfoldable pub which_words : ℕ → ℕ → List ℕ
which_words n lun = when (eqb n 5) (named_lun lun)

-- a reply in words; lun is the LUN that its event is about
unfoldable pub reply_words : ℕ → ℕ → ℕ → List ℕ
reply_words first second lun =
    if eqb first 0 then ascii "accepted"
    else (if eqb first 1 then ascii "byte " ++ byte_words second
    else refused_words second ++ which_words second lun)
