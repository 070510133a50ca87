-- What the functions for one operator do, number by number.
use Rattle.std.specs.Prelude.{ℕ, List, cond, eqb, Result, Ok, Err}
use Rattle.ebpf.specs.Insn.{jump_always}
use Rattle.ebpf.specs.declared.insn.Insn.{Insn}
use Rattle.patches.specs.declared.Patches.{Patches}
use Rattle.patches.specs.declared.TooFar.{TooFar}
use Rattle.patches.specs.declared.Closed.{Closed}
use Rattle.patches.specs.Chain.{Patched, chain_of, reach, resolved}
use Rattle.patches.specs.Code.{Emission, push1, with_out, with_work, with_patches}
use Rattle.patches.specs.declared.Pending.{Pending}
use Rattle.patches.specs.declared.Pending.TheVariants.{AndRight, OrRight, NotDone, AndDone, OrDone}
use Rattle.patches.specs.Rel.{AND_RIGHT, OR_RIGHT, AND_DONE, OR_DONE}
use Rattle.patches.specs.Code.Slot.{success}
use Rattle.patches.specs.Lists.{empty, joined, joined_links, saved_at, save_at}

-- What an operator waits for, by the number that stands for it: a token, or what `left` wrote.
abbrev pub pending_of : ℕ → Pending
pending_of op =
    cond (eqb op AND_RIGHT) AndRight
    (cond (eqb op OR_RIGHT) OrRight (cond (eqb op AND_DONE) AndDone (cond (eqb op OR_DONE) OrDone NotDone)))

-- Successes and failures change places.
unfoldable pub turn_of : Patches → Patches
turn_of st = record { pos = st.pos; success = st.failure; failure = st.success }

-- The jump that Or and Not write, its distance open, is a success; then successes and failures change places.
abbrev pub ja : Insn
ja = jump_always 0

abbrev pub over_of : Emission → Emission
over_of e = let x = push1 (success ja) e in with_patches (turn_of x.patches) x

-- Both operands of an And are done: the failures of both, and the links then.
unfoldable pub right_state : List ℕ → ℕ → Patches → Patches
right_state work base st = record { pos = st.pos; success = st.success; failure = joined st.failure (saved_at work base) }

unfoldable pub right_work : List ℕ → ℕ → Patches → List ℕ
right_work work base st = joined_links work st.failure (saved_at work base)

abbrev pub right_of : ℕ → Emission → Emission
right_of base e = with_patches (right_state e.work base e.patches) (with_work (right_work e.work base e.patches) e)

-- Whether the successes reach the next place, and the bytes once they lead there.
abbrev pub lands : Emission → Patched
lands e = reach e.patches.pos (chain_of e.work e.patches.success.head)

abbrev pub led_on : Emission → Emission
led_on e = with_out (resolved e.patches.pos (chain_of e.work e.patches.success.head) e.out) e

-- If all jumps reach, the operator is done or waits.
abbrev pub closed_as : Closed → Patched → Result Closed TooFar
closed_as done (Err e) = Err e
closed_as done (Ok _) = Ok done

-- The successes go on at the next place.
abbrev pub landed : Patches → Patches
landed st = record { pos = st.pos; success = empty; failure = st.failure }

unfoldable pub land_of : Patched → Emission → Emission
land_of (Err _) e = led_on e
land_of (Ok _) e = with_patches (landed e.patches) (led_on e)

-- An operand begins at the next place.
abbrev pub blank : Patches → Patches
blank st = record { pos = st.pos; success = empty; failure = empty }

-- The successes go on at the next place, where the next operand begins; the operator at `base` keeps the failures and waits as op.
unfoldable pub left_of : Patched → ℕ → ℕ → Emission → Emission
left_of (Err _) base op e = led_on e
left_of (Ok _) base op e = with_patches (blank e.patches) (with_work (save_at e.work base op e.patches.failure) (led_on e))
