-- Bytes put down one after the other.
use Rattle.std.specs.Prelude.{ℕ, ◌≡◌, ◌+◌, ◌/◌, ◌%◌, Bool, false, List, [], ◌∷◌, ◌++◌, ltb, length, set, if◌then◌else◌}
use Rattle.std.specs.List.{flat_map}
use Prim.Native.Char.{code}
use Prim.Native.String.{String, [] as String·[], ◌∷◌ as ◌String·∷◌}
use Rattle.nib_words.specs.declared.desk.Desk.{Desk as Lent}

-- a lent slice, and the place where the next byte goes
pub record Desk : Type 0 where
  pub room : List ℕ
  pub at : ℕ

-- one byte more, where there is room
abbrev pub down : Desk → ℕ → Desk
down d b = if ltb d.at (length d.room) then record { room = set d.room d.at b; at = d.at + 1 } else d

unfoldable pub wrote : Desk → List ℕ → Desk
wrote d [] = d
wrote d (b ∷ s) = wrote (down d b) s

-- what lies on a lent desk
abbrev pub lying : Lent → Desk
lying d = record { room = d.room.now; at = d.at }

-- a lent desk on which these bytes were put down: the slice is the one that was lent
pub record Writes (old new : Lent) (s : List ℕ) : Type 0 where
  pub same_room : new.room.ghost_name ≡ old.room.ghost_name
  pub lies : lying new ≡ wrote (lying old) s

-- the bytes of a text
abbrev pub ascii : String → List ℕ
ascii String·[] = []
ascii (c String·∷ s) = code c ∷ ascii s

-- words that are said in one case alone
abbrev pub when : Bool → List ℕ → List ℕ
when on s = if on then s else []

-- a hex digit: 0 to 9, then a to f or A to F
unfoldable pub glyph : ℕ → Bool → ℕ
glyph d small = if ltb (d % 16) 10 then 48 + d % 16 else (if small then 87 + d % 16 else 55 + d % 16)

-- a byte as two of them
unfoldable pub hexed : ℕ → Bool → List ℕ
hexed b small = glyph (b / 16) small ∷ glyph (b % 16) small ∷ []

-- a byte as 3Ch
unfoldable pub byte_words : ℕ → List ℕ
byte_words b = hexed b false ++ (104 ∷ [])

-- bytes, with a blank before each
abbrev pub spaced : ℕ → List ℕ
spaced b = 32 ∷ byte_words b

unfoldable pub listed : List ℕ → List ℕ
listed bytes = flat_map spaced bytes

-- the digit of a number at the place of a power of ten, where the number has it
abbrev pub placed : ℕ → ℕ → List ℕ
placed n power = if ltb n power then [] else (48 + n / power % 10) ∷ []

unfoldable pub high_places : ℕ → List ℕ
high_places n =
    placed n 10000000000000000000
    ++ (placed n 1000000000000000000
    ++ (placed n 100000000000000000
    ++ (placed n 10000000000000000
    ++ (placed n 1000000000000000
    ++ (placed n 100000000000000
    ++ (placed n 10000000000000
    ++ (placed n 1000000000000
    ++ (placed n 100000000000
    ++ placed n 10000000000))))))))

-- a number below 10^20 in decimal
unfoldable pub decimal : ℕ → List ℕ
decimal n =
    high_places n
    ++ (placed n 1000000000
    ++ (placed n 100000000
    ++ (placed n 10000000
    ++ (placed n 1000000
    ++ (placed n 100000
    ++ (placed n 10000
    ++ (placed n 1000
    ++ (placed n 100
    ++ (placed n 10
    ++ ((48 + n % 10) ∷ []))))))))))
