-- Instructions one after the other, some of them jumps whose distance is still open: what the Rust has as `insns` and `Patches`.
use Rattle.std.specs.Prelude.{ℕ, ◌+◌, ◌*◌, ◌^◌, ◌<◌, List, [], ◌∷◌}
use Rattle.std.specs.Borrow.{MutBor, GName}
use Rattle.ebpf.specs.Insn.{stored_at}
use Rattle.ebpf.specs.declared.insn.Insn.{Insn}
use Rattle.filter.specs.declared.ast.LinkType.{LinkType}
use Rattle.patches.specs.declared.Patches.{Patches}
use Rattle.patches.specs.declared.Codegen.{Codegen}
use Rattle.patches.specs.Lists.{pushed, pushed_links}

-- An instruction that is whole, and a jump that is open on success or on failure.
pub data Slot : Type 0 where
  fixed success failure : Insn → Slot

-- The instruction at place p of the output: one place writes an instruction.
unfoldable pub put_insn : List ℕ → ℕ → Insn → List ℕ
put_insn out p i = stored_at out (8 * p) i

-- The distance of a jump is set.
unfoldable pub with_off : ℕ → Insn → Insn
with_off d i = record { code = i.code; regs = i.regs; off = d; imm = i.imm }

-- A lent buffer without its bytes or numbers: where it lies, and the name by which its last value is known.
pub record Lent : Type 0 where
  pub place : ℕ × ℕ
  pub name : GName

abbrev pub lent_of : {X : Type 0} → MutBor X → Lent
lent_of x = record { place = x.ref_ptr; name = x.ghost_name }

-- What stays while a program is written: mode and link, and which buffers are lent.
pub record Setting : Type 0 where
  pub mode : ℕ
  pub link : LinkType
  pub out : Lent
  pub work : Lent

-- The Rust's `Codegen`: the bytes of the output, the numbers of `work`, the patches, and what stays.
pub record Emission : Type 0 where
  pub out : List ℕ
  pub work : List ℕ
  pub patches : Patches
  pub setting : Setting

unfoldable pub emission : Codegen → Emission
emission code =
    record {
      out = code.out.now;
      work = code.work.now;
      patches = code.patches;
      setting = record { mode = code.mode; link = code.link; out = lent_of code.out; work = lent_of code.work };
    }

abbrev pub em : List ℕ → List ℕ → Patches → Setting → Emission
em out work patches setting = record { out = out; work = work; patches = patches; setting = setting }

-- Other bytes, other numbers, other patches.
abbrev pub with_out : List ℕ → Emission → Emission
with_out out e = record e { out = out }

abbrev pub with_work : List ℕ → Emission → Emission
with_work work e = record e { work = work }

abbrev pub with_patches : Patches → Emission → Emission
with_patches patches e = record e { patches = patches }

-- So many instructions more keep the next place in 32 bits.
abbrev pub Room : ℕ → Patches → Type 0
Room n patches = patches.pos + n < 2 ^ 32

-- One instruction more; an open jump goes to the front of its list.
unfoldable pub push1 : Slot → Emission → Emission
push1 (fixed i) e =
    let p = e.patches in
    record e { out = put_insn e.out p.pos i; patches = record { pos = p.pos + 1; success = p.success; failure = p.failure } }
push1 (success i) e =
    let p = e.patches in
    record e {
      out = put_insn e.out p.pos i;
      work = pushed_links e.work p.success p.pos;
      patches = record { pos = p.pos + 1; success = pushed p.success p.pos; failure = p.failure };
    }
push1 (failure i) e =
    let p = e.patches in
    record e {
      out = put_insn e.out p.pos i;
      work = pushed_links e.work p.failure p.pos;
      patches = record { pos = p.pos + 1; success = p.success; failure = pushed p.failure p.pos };
    }

-- A run of instructions: what every emitting function's contract cites.
unfoldable pub block : List Slot → Emission → Emission
block [] e = e
block (x ∷ xs) e = block xs (push1 x e)

-- The instruction of a slot.
abbrev pub insn : Slot → Insn
insn (fixed i) = i
insn (success i) = i
insn (failure i) = i

-- The same run in three parts. The bytes, from place p on:
unfoldable pub outs : List Slot → ℕ → List ℕ → List ℕ
outs [] p out = out
outs (x ∷ xs) p out = outs xs (p + 1) (put_insn out p (insn x))

-- the places of the jumps open on success, before those of ps, the last first:
unfoldable pub successes : ℕ → List Slot → List ℕ → List ℕ
successes p [] ps = ps
successes p (fixed i ∷ xs) ps = successes (p + 1) xs ps
successes p (success i ∷ xs) ps = successes (p + 1) xs (p ∷ ps)
successes p (failure i ∷ xs) ps = successes (p + 1) xs ps

-- and of those open on failure.
unfoldable pub failures : ℕ → List Slot → List ℕ → List ℕ
failures p [] ps = ps
failures p (fixed i ∷ xs) ps = failures (p + 1) xs ps
failures p (success i ∷ xs) ps = failures (p + 1) xs ps
failures p (failure i ∷ xs) ps = failures (p + 1) xs (p ∷ ps)
