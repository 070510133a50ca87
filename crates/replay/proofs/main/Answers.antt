-- The buffers' lengths, by a law and not by counting.
use lib.ListN.{length-replicate}
use Prim.Native.Nat.{ℕ}
use mathlib.Core.Path.{sym}
use Rattle.replay.proofs.main.Goals as goal

pub slice_bounds-room-end : goal.slice_bounds-room-end
slice_bounds-room-end c = sym (length-replicate {A = ℕ} 589824 0)

pub slice_bounds-room-end-2 : goal.slice_bounds-room-end-2
slice_bounds-room-end-2 c = sym (length-replicate {A = ℕ} 65536 0)

pub slice_bounds-room-end-3 : goal.slice_bounds-room-end-3
slice_bounds-room-end-3 c = sym (length-replicate {A = ℕ} 1048576 0)

pub slice_bounds-room-end-4 : goal.slice_bounds-room-end-4
slice_bounds-room-end-4 c = sym (length-replicate {A = ℕ} 1048576 0)
