-- The registers that a program names, where all are written out: each is read off and written there.
use Prim.Native.Nat.{ℕ}
use mathlib.Core.Path.{◌≡◌, refl}
use mathlib.Core.Bool.{Bool, true}
use Rattle.ebpf.specs.Form.{plain}
use Rattle.ebpf.specs.Regs.{known_of, value_of, with_of}
use Rattle.ebpf.specs.declared.regs.Regs.{Regs}
use Rattle.program.specs.Ends.{bank, Place}

place : (r : Regs) (i : ℕ) → plain i ≡ true → Place r i (value_of r i) (known_of r i) (with_of r i)
place r i p = record { is_plain = p; value = refl; flag = refl; puts = λ y. refl }

pub r0 : {x0 x1 x2 x3 x4 x5 x6 : ℕ} {w0 w1 w2 w3 w4 w5 w6 : Bool}
    → Place (bank x0 x1 x2 x3 x4 x5 x6 w0 w1 w2 w3 w4 w5 w6) 0 x0 w0 (λ y. bank y x1 x2 x3 x4 x5 x6 true w1 w2 w3 w4 w5 w6)
unfolding plain value_of known_of with_of
r0 = place _ 0 refl

pub r2 : {x0 x1 x2 x3 x4 x5 x6 : ℕ} {w0 w1 w2 w3 w4 w5 w6 : Bool}
    → Place (bank x0 x1 x2 x3 x4 x5 x6 w0 w1 w2 w3 w4 w5 w6) 2 x2 w2 (λ y. bank x0 x1 y x3 x4 x5 x6 w0 w1 true w3 w4 w5 w6)
unfolding plain value_of known_of with_of
r2 = place _ 2 refl

pub r3 : {x0 x1 x2 x3 x4 x5 x6 : ℕ} {w0 w1 w2 w3 w4 w5 w6 : Bool}
    → Place (bank x0 x1 x2 x3 x4 x5 x6 w0 w1 w2 w3 w4 w5 w6) 3 x3 w3 (λ y. bank x0 x1 x2 y x4 x5 x6 w0 w1 w2 true w4 w5 w6)
unfolding plain value_of known_of with_of
r3 = place _ 3 refl

pub r4 : {x0 x1 x2 x3 x4 x5 x6 : ℕ} {w0 w1 w2 w3 w4 w5 w6 : Bool}
    → Place (bank x0 x1 x2 x3 x4 x5 x6 w0 w1 w2 w3 w4 w5 w6) 4 x4 w4 (λ y. bank x0 x1 x2 x3 y x5 x6 w0 w1 w2 w3 true w5 w6)
unfolding plain value_of known_of with_of
r4 = place _ 4 refl

pub r5 : {x0 x1 x2 x3 x4 x5 x6 : ℕ} {w0 w1 w2 w3 w4 w5 w6 : Bool}
    → Place (bank x0 x1 x2 x3 x4 x5 x6 w0 w1 w2 w3 w4 w5 w6) 5 x5 w5 (λ y. bank x0 x1 x2 x3 x4 y x6 w0 w1 w2 w3 w4 true w6)
unfolding plain value_of known_of with_of
r5 = place _ 5 refl

pub r6 : {x0 x1 x2 x3 x4 x5 x6 : ℕ} {w0 w1 w2 w3 w4 w5 w6 : Bool}
    → Place (bank x0 x1 x2 x3 x4 x5 x6 w0 w1 w2 w3 w4 w5 w6) 6 x6 w6 (λ y. bank x0 x1 x2 x3 x4 x5 y w0 w1 w2 w3 w4 w5 true)
unfolding plain value_of known_of with_of
r6 = place _ 6 refl
