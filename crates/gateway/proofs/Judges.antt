-- From the program's run to the verdict.
use Prim.Native.Nat.{ℕ, ◌*◌, ◌^◌, ◌<◌, ◌≤◌}
use mathlib.Core.Path.{◌≡◌, refl}
use mathlib.Core.Bool.{Bool, true, false, cond}
use mathlib.Core.List.{List}
use native.Mathlib.Omega.{arith}
use borrow.Author.Tests.{lt-ltb, le-ltb}
use lib.ListN.{length, take}
use Rattle.ebpf.specs.Run.{run_of}
use Rattle.ebpf.specs.declared.run.Outcome.{Outcome}
use Rattle.program.specs.Ends.{Frame}
use Rattle.generator.specs.Compile.{outcome_of, answer_of, output_after}
use Rattle.refusals.specs.Refusal.{Answer}
use Rattle.refusals.specs.Refusal.Answer.{Given}
use Rattle.sound.specs.Demand.{Bytes, sheet_holds}
use Rattle.sound.proofs.Accepted.{accepted}
use Rattle.sound.proofs.Demand3.{passes_exactly}
use Rattle.std.specs.Prelude.{Result, Ok, Err}
use Rattle.refusals.specs.Refusal.{number_of}
use Rattle.refusals.proofs.Numbers.{one_reason}
use Rattle.gateway.specs.declared.Verdict.{Verdict}
use Rattle.gateway.specs.declared.Verdict.TheVariants as verdict
use Rattle.gateway.specs.declared.Unjudged.{Unjudged}
use Rattle.gateway.specs.declared.Unjudged.TheVariants as unjudged
use Rattle.gateway.specs.Judge.{judged, judged_of}
use Rattle.gateway.specs.Judge.Judged.{Long, Pass, Drop}

module _ (s : List ℕ) (link : ℕ) (out : List ℕ) (work l : ℕ) (byte : Bytes s) (e : answer_of (outcome_of s link 1 (length out) work) ≡ Given l) where
  pub room : 8 * l ≤ length out
  room = (accepted s link 1 work l out byte e).room

  -- R0 is 2 exactly when the expression holds.
  pub gives : (frame : List ℕ) → Bytes frame → length frame < 2 ^ 32 → (o : Outcome)
      → o ≡ run_of (take (8 * l) (output_after (outcome_of s link 1 (length out) work) out)) frame 0 l → o.r0 ≡ cond (sheet_holds s link frame) 2 1
  gives frame byte' low o is =
      let w : Frame frame 0 = record { byte = byte'; low = omega arith } in
      rw is (passes_exactly s link 1 work l out byte e w (λ never. absurd (omega arith))).gives

module _ (x : Answer ℕ) (l size : ℕ) (holds : Bool) (e : x ≡ Given l) where
  pub too_long : 2 ^ 32 ≤ size → Long ≡ judged_of x size holds
  unfolding judged_of
  too_long h = rw (e, le-ltb size (2 ^ 32) h) refl

  module _ (low : size < 2 ^ 32) (r0 : ℕ) (is : r0 ≡ cond holds 2 1) where
    pub passed : r0 ≡ 2 → Pass ≡ judged_of x size holds
    unfolding judged_of
    passed h = rw (e, lt-ltb size (2 ^ 32) low) (go holds is)
      where
        go : (t : Bool) → r0 ≡ cond t 2 1 → Pass ≡ cond t Pass Drop
        go true q = refl
        go false q = absurd (omega arith)

    pub dropped : (r0 ≡ 2 → ⊥) → Drop ≡ judged_of x size holds
    unfolding judged_of
    dropped h = rw (e, lt-ltb size (2 ^ 32) low) (go holds is)
      where
        go : (t : Bool) → r0 ≡ cond t 2 1 → Drop ≡ cond t Pass Drop
        go true q = absurd (h q)
        go false q = refl

-- A result is determined by what it says.
pub one_judged : (x y : Result Verdict Unjudged) → judged x ≡ judged y → x ≡ y
one_judged (Ok verdict.Pass) (Ok verdict.Pass) e = refl
one_judged (Ok verdict.Pass) (Ok verdict.Drop) e = cc
one_judged (Ok verdict.Drop) (Ok verdict.Pass) e = cc
one_judged (Ok verdict.Drop) (Ok verdict.Drop) e = refl
one_judged (Ok verdict.Pass) (Err (unjudged.Refused r)) e = cc
one_judged (Ok verdict.Drop) (Err (unjudged.Refused r)) e = cc
one_judged (Ok verdict.Pass) (Err unjudged.Long) e = cc
one_judged (Ok verdict.Drop) (Err unjudged.Long) e = cc
one_judged (Err (unjudged.Refused r)) (Ok verdict.Pass) e = cc
one_judged (Err (unjudged.Refused r)) (Ok verdict.Drop) e = cc
one_judged (Err unjudged.Long) (Ok verdict.Pass) e = cc
one_judged (Err unjudged.Long) (Ok verdict.Drop) e = cc
one_judged (Err unjudged.Long) (Err unjudged.Long) e = refl
one_judged (Err unjudged.Long) (Err (unjudged.Refused r)) e = cc
one_judged (Err (unjudged.Refused r)) (Err unjudged.Long) e = cc
one_judged (Err (unjudged.Refused r)) (Err (unjudged.Refused s)) e =
    let n : number_of r.reason ≡ number_of s.reason = cc in
    let p : r.place ≡ s.place = cc in
    let q : r.reason ≡ s.reason = one_reason r.reason s.reason n in
    λ i. Err (unjudged.Refused (record { reason = q i; place = p i }))
