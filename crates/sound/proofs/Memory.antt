-- A run that exits has asked for nothing outside the frame and the two context words; and what it asks for is all that it reads.
use Prim.Native.Nat.{ℕ, zero, suc, ◌+◌, ◌-◌, ◌*◌, ◌/◌, ◌%◌, ◌^◌, ◌≤◌}
use Rattle.std.specs.Prelude.{Option, Some, None}
use mathlib.Core.Path.{◌≡◌, refl, ap, ◌∙◌}
use mathlib.Core.Logic.{◌⊎◌, inl, inr}
use mathlib.Core.Bool.{Bool, true, false, not, cond, ◌&&◌}
use mathlib.Core.List.{List}
use native.Mathlib.Omega.{arith}
use borrow.Author.Tests.{eqb-true, leb-true}
use lib.ListN.{length}
use lib.Dec.{eqb, ltb, leb}
use Rattle.ebpf.specs.Insn.{insn_at}
use Rattle.ebpf.specs.Alu.{sext16}
use Rattle.ebpf.specs.Form.{Form, NotOurs, Context, Load, Reg64, Imm64, Imm32, Swap, Jump, Branch, BranchReg, Exit, form_of}
use Rattle.ebpf.specs.Regs.{known_of, value_of}
use Rattle.ebpf.specs.Step.{outside, unwritten, nowhere, le_at, context_act, frame_act, load_act, act_of, act_at, halt_of, turn_of, step_of}
use Rattle.ebpf.specs.Run.{ended_of, after, go_of, unless35, run_of, first_state}
use Rattle.ebpf.specs.Sure.{Fine}
use Rattle.ebpf.specs.declared.regs.Regs.{Regs}
use Rattle.ebpf.specs.declared.act.Act.{Act}
use Rattle.ebpf.specs.declared.act.Act.TheVariants.{Writes, Jumps, Falls, Halts}
use Rattle.ebpf.specs.declared.step.State.{State}
use Rattle.ebpf.specs.declared.act.Halt.{Halt}
use Rattle.ebpf.specs.declared.run.Outcome.{Outcome}
use Rattle.sound.specs.Memory.{Ask, nothing, bytes, ask_of, ask_at, further, asks_of, Inside, AllInside, Same, AllSame}

module _ (frame : List ℕ) (start : ℕ) where
  -- A context load that does not stop is at 0 or 4.
  context_inside : (dst off : ℕ) → Fine (context_act (length frame) start dst off) → (off ≡ 0) ⊎ (off ≡ 4)
  unfolding context_act
  context_inside dst off = first (eqb off 0) refl
    where
      second : (t : Bool) → eqb off 4 ≡ t → Fine (cond t (Writes dst ((start + length frame) % 2 ^ 64)) outside) → (off ≡ 0) ⊎ (off ≡ 4)
      second true e h = inr (eqb-true off 4 e)
      second false e h = absurd (omega (arith, h))

      first : (t : Bool) → eqb off 0 ≡ t → Fine (cond t (Writes dst start) (cond (eqb off 4) (Writes dst ((start + length frame) % 2 ^ 64)) outside)) → (off ≡ 0) ⊎ (off ≡ 4)
      first true e h = inl (eqb-true off 0 e)
      first false e h = second (eqb off 4) refl h

  -- A load that does not stop is in the frame.
  frame_inside : (size dst at : ℕ) → Fine (frame_act frame start size dst at) → (start ≤ at) × (at + size ≤ start + length frame)
  unfolding frame_act
  frame_inside size dst at = first (leb start at) refl
    where
      second : (t : Bool) → start ≤ at → leb (at + size) (start + length frame) ≡ t → Fine (cond t (Writes dst (le_at frame (at - start) size)) outside) → (start ≤ at) × (at + size ≤ start + length frame)
      second true from e h = (from, leb-true (at + size) (start + length frame) e)
      second false from e h = absurd (omega (arith, h))

      first : (t : Bool) → leb start at ≡ t → Fine (cond t (cond (leb (at + size) (start + length frame)) (Writes dst (le_at frame (at - start) size)) outside) outside) → (start ≤ at) × (at + size ≤ start + length frame)
      first true e h = second (leb (at + size) (start + length frame)) (leb-true start at e) refl h
      first false e h = absurd (omega (arith, h))

  load_inside : (r : Regs) (size dst src off : ℕ) → Fine (load_act frame start r size dst src off) → Inside frame start (bytes ((value_of r src + sext16 off) % 2 ^ 64) size)
  unfolding load_act
  load_inside r size dst src off = go (known_of r src)
    where
      go : (t : Bool) → Fine (cond t (frame_act frame start size dst ((value_of r src + sext16 off) % 2 ^ 64)) unwritten) → Inside frame start (bytes ((value_of r src + sext16 off) % 2 ^ 64) size)
      go true h = frame_inside size dst ((value_of r src + sext16 off) % 2 ^ 64) h
      go false h = absurd (omega (arith, h))

  form_inside : (form : Form) (r : Regs) → Fine (act_of form frame start r) → Inside frame start (ask_of form r)
  unfolding act_of ask_of
  form_inside NotOurs r h = tt
  form_inside (Context dst off) r h = context_inside dst off h
  form_inside (Load size dst src off) r h = load_inside r size dst src off h
  form_inside (Reg64 operation dst src) r h = tt
  form_inside (Imm64 operation dst imm) r h = tt
  form_inside (Imm32 operation dst imm) r h = tt
  form_inside (Swap dst bits) r h = tt
  form_inside (Jump off) r h = tt
  form_inside (Branch class operation dst imm off) r h = tt
  form_inside (BranchReg operation dst src off) r h = tt
  form_inside Exit r h = tt

  place_inside : (program : List ℕ) (s : State) → Fine (act_at program frame start s.regs s.pc) → Inside frame start (ask_at program s)
  unfolding act_at ask_at
  place_inside program s = go (ltb s.pc (length program / 8))
    where
      go : (t : Bool) → Fine (cond t (act_of (form_of (insn_at program (s.pc * 8))) frame start s.regs) nowhere)
          → Inside frame start (cond t (ask_of (form_of (insn_at program (s.pc * 8))) s.regs) nothing)
      go true h = form_inside (form_of (insn_at program (s.pc * 8))) s.regs h
      go false h = tt

  -- Where the run from a step on exits, the step does not stop otherwise.
  fine : (a : Act) (t : State) (more : State → Outcome) (n : ℕ) → (after (halt_of a) t more n).stop ≡ 0 → Fine a
  unfolding halt_of ended_of
  fine (Writes dst value) t more n h = tt
  fine (Jumps off) t more n h = tt
  fine Falls t more n h = tt
  fine (Halts halt) t more n h = h

  onward : (x : Option Halt) (t : State) (more : State → Outcome) (asks : State → List Ask) (n : ℕ) → ((t : State) → (more t).stop ≡ 0 → AllInside frame start (asks t))
      → (after x t more n).stop ≡ 0 → AllInside frame start (further x t asks)
  onward None t more asks n each h = each t h
  onward (Some halt) t more asks n each h = tt

  go_inside : (left k : ℕ) (program : List ℕ) (s : State) (n : ℕ) → (go_of left program frame start s n).stop ≡ 0 → AllInside frame start (asks_of k program frame start s)
  unfolding go_of asks_of step_of turn_of
  go_inside left zero program s n h = tt
  go_inside zero (suc k) program s n h = absurd (omega (arith, h))
  go_inside (suc left) (suc k) program s n h =
      let a = act_at program frame start s.regs s.pc in
      let t = (step_of program frame start s).state in (
        place_inside program s (fine a t (λ t. go_of left program frame start t (n + 1)) n h),
        onward (halt_of a) t (λ t. go_of left program frame start t (n + 1)) (λ t. asks_of k program frame start t) n
            (λ t. go_inside left k program t (n + 1)) h,
      )

  -- THEOREM: a run that exits asks for nothing outside, in however many steps.
  pub exits_inside : (program : List ℕ) (budget : ℕ) → (run_of program frame start budget).stop ≡ 0 → (k : ℕ) → AllInside frame start (asks_of k program frame start first_state)
  unfolding run_of
  exits_inside program budget h k = split (not (eqb (length program) 0) && (eqb (length program % 8) 0 && ltb (start + length frame) (2 ^ 32))) h
    where
      split : (b : Bool) → (unless35 b (λ k. go_of k program frame start first_state 0) budget).stop ≡ 0 → AllInside frame start (asks_of k program frame start first_state)
      split true h = go_inside budget k program first_state 0 h
      split false h = absurd (omega (arith, h))

module _ (start : ℕ) (f g : List ℕ) (long : length f ≡ length g) where
  frame_same : (size dst at : ℕ) → le_at f (at - start) size ≡ le_at g (at - start) size → frame_act f start size dst at ≡ frame_act g start size dst at
  unfolding frame_act
  frame_same size dst at h = rw (long, h) refl

  form_same : (form : Form) (r : Regs) → Same start f g (ask_of form r) → act_of form f start r ≡ act_of form g start r
  unfolding act_of ask_of load_act
  form_same NotOurs r h = refl
  form_same (Context dst off) r h = ap (λ (n : ℕ). context_act n start dst off) long
  form_same (Load size dst src off) r h =
      ap (λ (a : Act). cond (known_of r src) a unwritten) (frame_same size dst ((value_of r src + sext16 off) % 2 ^ 64) h)
  form_same (Reg64 operation dst src) r h = refl
  form_same (Imm64 operation dst imm) r h = refl
  form_same (Imm32 operation dst imm) r h = refl
  form_same (Swap dst bits) r h = refl
  form_same (Jump off) r h = refl
  form_same (Branch class operation dst imm off) r h = refl
  form_same (BranchReg operation dst src off) r h = refl
  form_same Exit r h = refl

  place_same : (program : List ℕ) (s : State) → Same start f g (ask_at program s) → act_at program f start s.regs s.pc ≡ act_at program g start s.regs s.pc
  unfolding act_at ask_at
  place_same program s = go (ltb s.pc (length program / 8))
    where
      go : (t : Bool) → Same start f g (cond t (ask_of (form_of (insn_at program (s.pc * 8))) s.regs) nothing)
          → cond t (act_of (form_of (insn_at program (s.pc * 8))) f start s.regs) nowhere ≡ cond t (act_of (form_of (insn_at program (s.pc * 8))) g start s.regs) nowhere
      go true h = form_same (form_of (insn_at program (s.pc * 8))) s.regs h
      go false h = refl

  onward_same : (x : Option Halt) (t : State) (more more' : State → Outcome) (asks : State → List Ask) (n : ℕ) → ((t : State) → AllSame start f g (asks t) → more t ≡ more' t)
      → AllSame start f g (further x t asks) → after x t more n ≡ after x t more' n
  onward_same None t more more' asks n each h = each t h
  onward_same (Some halt) t more more' asks n each h = refl

  go_same : (left : ℕ) (program : List ℕ) (s : State) (n : ℕ) → AllSame start f g (asks_of left program f start s)
      → go_of left program f start s n ≡ go_of left program g start s n
  unfolding go_of asks_of step_of
  go_same zero program s n h = refl
  go_same (suc left) program s n h =
      let a = act_at program f start s.regs s.pc in
      let more : State → Outcome = λ t. go_of left program g start t (n + 1) in
      onward_same (turn_of a s).halt (turn_of a s).state (λ t. go_of left program f start t (n + 1)) more (λ t. asks_of left program f start t) n
      (λ t. go_same left program t (n + 1)) h.1
      ∙ ap (λ (a : Act). after (turn_of a s).halt (turn_of a s).state more n) (place_same program s h.0)

  -- THEOREM: two frames of a length that hold the same where the run on the first asks have the same run: it reads nothing else of them.
  pub asks_are_all : (program : List ℕ) (budget : ℕ) → AllSame start f g (asks_of budget program f start first_state)
      → run_of program f start budget ≡ run_of program g start budget
  unfolding run_of
  asks_are_all program budget h = rw long (split (not (eqb (length program) 0) && (eqb (length program % 8) 0 && ltb (start + length g) (2 ^ 32))))
    where
      split : (b : Bool) → unless35 b (λ k. go_of k program f start first_state 0) budget ≡ unless35 b (λ k. go_of k program g start first_state 0) budget
      split true = go_same budget program first_state 0 h
      split false = refl
