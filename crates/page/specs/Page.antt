-- The parameter page: its fields and the house limits (document 01, "Power-on and the parameter page").
use Rattle.std.specs.Prelude.{ℕ, zero, suc, ◌+◌, ◌*◌, Bool, ◌&&◌, ◌||◌, not, List, eqb, leb, get_or, take}
use Rattle.page.specs.Crc.{bit_at, crc_of}

-- n bytes from `at` on, least significant first; past the end of the page there are zeros
unfoldable pub field : List ℕ → ℕ → ℕ → ℕ
field page at zero = 0
field page at (suc n) = get_or page at 0 + 256 * field page (at + 1) n

-- bit k of a number is 1
unfoldable pub bit_of : ℕ → ℕ → Bool
bit_of n k = eqb (bit_at n k) 1

-- 0-3: "ONFI"
unfoldable pub signed : List ℕ → Bool
signed page = eqb (get_or page 0 0) 0x4f && eqb (get_or page 1 0) 0x4e && eqb (get_or page 2 0) 0x46 && eqb (get_or page 3 0) 0x49

-- 6-7
unfoldable pub features : List ℕ → ℕ
features page = field page 6 2

-- 8-9
unfoldable pub optional_commands : List ℕ → ℕ
optional_commands page = field page 8 2

-- 64
unfoldable pub maker_id : List ℕ → ℕ
maker_id page = field page 64 1

-- 80-83
unfoldable pub data_bytes : List ℕ → ℕ
data_bytes page = field page 80 4

-- 84-85
unfoldable pub spare_bytes : List ℕ → ℕ
spare_bytes page = field page 84 2

-- 92-95
unfoldable pub pages_a_block : List ℕ → ℕ
pages_a_block page = field page 92 4

-- 96-99
unfoldable pub blocks_a_lun : List ℕ → ℕ
blocks_a_lun page = field page 96 4

-- 100
unfoldable pub lun_count : List ℕ → ℕ
lun_count page = field page 100 1

-- 101
unfoldable pub address_cycles : List ℕ → ℕ
address_cycles page = field page 101 1

-- 110
unfoldable pub programs_a_page : List ℕ → ℕ
programs_a_page page = field page 110 1

-- 254-255
unfoldable pub stored_crc : List ℕ → ℕ
stored_crc page = field page 254 2

-- the CRC of bytes 0-253 is the one that the page has
unfoldable pub crc_good : List ℕ → Bool
crc_good page = eqb (crc_of (take 254 page)) (stored_crc page)

-- House limits. Data 16 to 16,384
unfoldable pub data_in_limits : List ℕ → Bool
data_in_limits page = leb 16 (data_bytes page) && leb (data_bytes page) 16384

-- spare 0 to 2,048
unfoldable pub spare_in_limits : List ℕ → Bool
spare_in_limits page = leb (spare_bytes page) 2048

-- pages a block 1 to 256
unfoldable pub pages_in_limits : List ℕ → Bool
pages_in_limits page = leb 1 (pages_a_block page) && leb (pages_a_block page) 256

-- blocks 1 to 4,096
unfoldable pub blocks_in_limits : List ℕ → Bool
blocks_in_limits page = leb 1 (blocks_a_lun page) && leb (blocks_a_lun page) 4096

-- LUNs 1 to 4
unfoldable pub luns_in_limits : List ℕ → Bool
luns_in_limits page = leb 1 (lun_count page) && leb (lun_count page) 4

-- more than 1 only if feature bit 1 is set
unfoldable pub luns_as_featured : List ℕ → Bool
luns_as_featured page = leb (lun_count page) 1 || bit_of (features page) 1

-- feature bit 0 (16-bit bus) clear
unfoldable pub narrow_bus : List ℕ → Bool
narrow_bus page = not (bit_of (features page) 0)

-- byte 101 is 23h (2 column, 3 row)
unfoldable pub cycles_as_house : List ℕ → Bool
cycles_as_house page = eqb (address_cycles page) 0x23

-- programs a page 1 to 8
unfoldable pub programs_in_limits : List ℕ → Bool
programs_in_limits page = leb 1 (programs_a_page page) && leb (programs_a_page page) 8

-- every field is within its limits
unfoldable pub fields_in_limits : List ℕ → Bool
fields_in_limits page =
    data_in_limits page
    && spare_in_limits page
    && pages_in_limits page
    && blocks_in_limits page
    && luns_in_limits page
    && luns_as_featured page
    && narrow_bus page
    && cycles_as_house page
    && programs_in_limits page
