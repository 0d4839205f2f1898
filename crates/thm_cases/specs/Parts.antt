-- Document 01's parts T1 and T2, from their parameter pages on: power-on makes their records, and a trace is run on
-- them.
use Rattle.std.specs.Prelude.{List, [], ◌∷◌, ◌++◌, ℕ, length, replicate}
use Rattle.power.specs.Power.{Powering, power_of}
use Rattle.step.specs.Step.{State}
use Rattle.trace.specs.Run.{Traced, trace_of}

-- the parameter page of a part of 512+16 bytes with 2 LUNs and 4 programs a page: feature bits 1 and 8, optional bits
-- 2, 3 and 6
abbrev pub page_with : ℕ → ℕ → ℕ → ℕ → List ℕ
page_with pages blocks crc_low crc_high =
    0x4f ∷ 0x4e ∷ 0x46 ∷ 0x49 ∷ 0 ∷ 0 ∷ 0x02 ∷ 0x01 ∷ 0x4c ∷ 0x00 ∷ (replicate 54 0
    ++ (0x2c ∷ (replicate 15 0
    ++ (0x00 ∷ 0x02 ∷ 0x00 ∷ 0x00 ∷ 0x10 ∷ 0x00 ∷ (replicate 6 0
    ++ (pages ∷ 0 ∷ 0 ∷ 0 ∷ blocks ∷ 0 ∷ 0 ∷ 0 ∷ 2 ∷ 0x23 ∷ (replicate 8 0
    ++ (4 ∷ (replicate 143 0
    ++ (crc_low ∷ crc_high ∷ []))))))))))

-- what is lent at power-on
pub record Part : Type 0 where
  pub params : List ℕ
  pub array : List ℕ
  pub registers : List ℕ
  pub counts : List ℕ
  pub flags : List ℕ

-- 4 pages, 8 blocks; the first page holds this byte all over, the rest is erased; the first block has this flag
abbrev pub t1_with : ℕ → ℕ → Part
t1_with byte flag = record {
  params = page_with 4 8 0xcf 0x10;
  array = replicate 528 byte ++ replicate 33264 0xff;
  registers = replicate 1056 0;
  counts = replicate 64 0;
  flags = flag ∷ replicate 15 0;
}

abbrev pub t1 : Part
t1 = t1_with 0xff 0

-- 3 pages, 5 blocks
abbrev pub t2 : Part
t2 = record {
  params = page_with 3 5 0xb4 0x32;
  array = replicate 15840 0xff;
  registers = replicate 1056 0;
  counts = replicate 30 0;
  flags = replicate 10 0;
}

abbrev pub powered : Part → Powering
powered p = power_of p.params 0x68 p.array p.registers p.counts p.flags

-- where power-on leaves the part
abbrev pub first : Part → State
first p = record {
  target = (powered p).target;
  buffers = record { array = p.array; registers = (powered p).registers; counts = p.counts };
}

-- a trace on the part, just powered
abbrev pub run : Part → List ℕ → Traced
run p records = trace_of (first p).target records (replicate (length records) 0) p.params (first p).buffers p.flags

-- its replies
abbrev pub told : Part → List ℕ → List ℕ
told p records = (run p records).room
