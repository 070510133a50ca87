-- The registers R0 to R6: what each holds, and whether it has been written. R1 is the context: its two places are never used.
use Rattle.std.specs.Prelude.{ℕ, Bool, true, false, List, [], ◌∷◌, slice_index, slice_index_or, slice_set}
use Rattle.ebpf.specs.declared.regs.Regs.{Regs}

abbrev pub regs_of : List ℕ → List Bool → Regs
regs_of values written = record { values = values; written = written }

-- "At first only R1 is written."
unfoldable pub fresh : Regs
fresh =
    regs_of (0 ∷ 0 ∷ 0 ∷ 0 ∷ 0 ∷ 0 ∷ 0 ∷ []) (false ∷ false ∷ false ∷ false ∷ false ∷ false ∷ false ∷ [])

unfoldable pub known_of : Regs → ℕ → Bool
known_of r i = slice_index_or r.written i false

unfoldable pub value_of : Regs → ℕ → ℕ
value_of r i = slice_index r.values i

unfoldable pub with_of : Regs → ℕ → ℕ → Regs
with_of r i v = regs_of (slice_set r.values i v) (slice_set r.written i true)
