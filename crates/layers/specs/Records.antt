-- A run of records filled from bytes, one record for each eight.
use Rattle.std.specs.Prelude.{ℕ, zero, suc, ◌*◌, ◌/◌, ◌%◌, cond, Option, Result, Ok, Err, List, [], ◌∷◌, ◌++◌, length, drop, replicate, ◌==◌, nat_le, slice_get, unwrap_or}
use Rattle.ebpf.specs.Insn.{fetch_at}
use Rattle.ebpf.specs.declared.insn.Insn.{Insn}
use Rattle.layers.specs.declared.records.NotFilled.{NotFilled}
use Rattle.layers.specs.declared.records.NotFilled.TheVariants.{NotWhole, TooFew}

-- A record with nothing in it.
abbrev pub no_insn : Insn
no_insn = record { code = 0; regs = 0; off = 0; imm = 0 }

-- How n bytes fill a run of m records: refused are bytes that are no whole records, and more than m of them.
unfoldable pub plan_of : ℕ → ℕ → Result ℕ NotFilled
plan_of n m = cond (n % 8 == 0) (cond (nat_le (n / 8) m) (Ok (n / 8)) (Err TooFew)) (Err NotWhole)

-- How many records are filled.
unfoldable pub count_of : Result ℕ NotFilled → ℕ
count_of (Ok n) = n
count_of (Err e) = 0

-- What was fetched, nothing as a record with nothing in it.
abbrev pub insn_of : Option Insn → Insn
insn_of o = unwrap_or o no_insn

-- The record with number k: the instruction at byte 8 k.
unfoldable pub record_of : List ℕ → ℕ → Insn
record_of p k = insn_of (fetch_at p (k * 8))

-- The first n records.
unfoldable pub records_of : List ℕ → ℕ → List Insn
records_of p zero = []
records_of p (suc n) = records_of p n ++ (record_of p n ∷ [])

-- The run ys with the first n records in the place of its own.
unfoldable pub filled_to : List ℕ → List Insn → ℕ → List Insn
filled_to p ys n = records_of p n ++ drop n ys

-- The run ys filled with the records that are planned.
unfoldable pub filled_run : List ℕ → List Insn → List Insn
filled_run p ys = filled_to p ys (count_of (plan_of (length p) (length ys)))

-- The record with number k of a run.
unfoldable pub found_at : List Insn → ℕ → Option Insn
found_at ys k = slice_get ys k

-- A run of sixteen records with nothing in them.
unfoldable pub empty_run : List Insn
empty_run = replicate 16 no_insn
