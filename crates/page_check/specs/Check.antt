-- The checker for other people's parameter pages (document 02, A8). Of the 768 bytes that a part answers to ECh, the first copy with
-- good signature and CRC is picked, and every broken rule listed in byte order; it also has block endurance.
use Rattle.std.specs.Prelude.{ℕ, zero, suc, ◌+◌, ◌*◌, ◌%◌, ◌^◌, Bool, true, false, ◌&&◌, ◌||◌, not, cond, List, [], ◌∷◌, eqb, leb, ltb, length, take, drop, set, Option, None, Some, Result, Ok, Err}
use Rattle.page.specs.Page.{field, signed, crc_good, data_bytes, pages_a_block, lun_count, programs_a_page}
use Rattle.page_check.specs.declared.Unchecked.{Unchecked}
use Rattle.page_check.specs.declared.Unchecked.TheVariants.{Length, NoGoodCopy}
use Rattle.page_check.specs.declared.Checked.{Checked}
use Rattle.page_check.specs.declared.page_rules.Broken.{Broken}

-- 105, and 106
unfoldable pub endurance_value : List ℕ → ℕ
endurance_value page = field page 105 1

unfoldable pub multiplier : List ℕ → ℕ
multiplier page = field page 106 1

-- copy k of an answer
abbrev pub copy : List ℕ → ℕ → List ℕ
copy answer k = take 256 (drop (256 * k) answer)

-- good signature and CRC, as at power-on
unfoldable pub good : List ℕ → Bool
good page = signed page && crc_good page

-- n is two to some power below k
unfoldable pub power_below : ℕ → ℕ → Bool
power_below zero n = false
power_below (suc k) n = eqb n (2 ^ k) || power_below k n

-- data bytes a power of two and at least 512; the field has 32 bits
unfoldable pub data_broken : List ℕ → Bool
data_broken page = not (power_below 32 (data_bytes page) && leb 512 (data_bytes page))

-- pages a block a multiple of 32
unfoldable pub pages_broken : List ℕ → Bool
pages_broken page = not (eqb (pages_a_block page % 32) 0)

-- zero LUNs
unfoldable pub luns_broken : List ℕ → Bool
luns_broken page = eqb (lun_count page) 0

-- a multiplier above 16
unfoldable pub multiplier_broken : List ℕ → Bool
multiplier_broken page = not (leb (multiplier page) 16)

-- zero programs a page
unfoldable pub programs_broken : List ℕ → Bool
programs_broken page = eqb (programs_a_page page) 0

-- a rule's byte, where it is broken, and the later ones
unfoldable pub listed : Bool → ℕ → List ℕ → List ℕ
listed true byte later = byte ∷ later
listed false byte later = later

-- every broken rule in byte order, each by its first byte
unfoldable pub broken_rules : List ℕ → List ℕ
broken_rules page =
    listed (data_broken page) 80
    (listed (pages_broken page) 92
    (listed (luns_broken page) 100
    (listed (multiplier_broken page) 106
    (listed (programs_broken page) 110 []))))

-- n places: the list, and then zeros
abbrev pub padded : ℕ → List ℕ → List ℕ
padded zero xs = []
padded (suc n) [] = 0 ∷ padded n []
padded (suc n) (x ∷ xs) = x ∷ padded n xs

-- a list of at most five bytes as it is held
abbrev pub laid : List ℕ → Broken
laid xs = record { count = length xs; bytes = padded 5 xs }

-- one byte more, if it is to be listed
unfoldable pub added : Broken → Bool → ℕ → Broken
added b broken byte =
    cond (broken && ltb b.count 5) (record { count = b.count + 1; bytes = set b.bytes b.count byte }) b

-- block endurance, value times ten to the multiplier; a multiplier above 16 has none
unfoldable pub endurance_of : List ℕ → Option ℕ
endurance_of page = cond (leb (multiplier page) 16) (Some (endurance_value page * 10 ^ multiplier page)) None

-- what there is to say of a copy
unfoldable pub on_copy : ℕ → List ℕ → Checked
on_copy k page = record { copy = k; broken = laid (broken_rules page); endurance = endurance_of page }

-- another length is answered as that; the first good copy is picked; no good copy is its own answer
unfoldable pub checked_of : List ℕ → Result Checked Unchecked
checked_of answer =
    cond (not (eqb (length answer) 768)) (Err Length)
    (cond (good (copy answer 0)) (Ok (on_copy 0 (copy answer 0)))
    (cond (good (copy answer 1)) (Ok (on_copy 1 (copy answer 1)))
    (cond (good (copy answer 2)) (Ok (on_copy 2 (copy answer 2)))
    (Err NoGoodCopy))))
