-- What the numbers of `work` stand for: the first l are links of chains, behind them three numbers for each pending operator.
use Rattle.std.specs.Prelude.{ℕ, suc, ◌+◌, ◌*◌, ◌<◌, ◌≤◌, ◌≡◌, List, [], ◌∷◌, cond, eqb, get_or, length}
use Rattle.patches.specs.declared.PatchList.{PatchList}
use Rattle.patches.specs.declared.Patches.{Patches}
use Rattle.patches.specs.Chain.{Descends, chain_of}
use Rattle.patches.specs.Lists.{last_or, saved_at}

-- What a pending operator waits for, by the Rust's names of its work: a token 1, 2 or 3 begins as the first three.
abbrev pub AND_RIGHT : ℕ
AND_RIGHT = 1

abbrev pub OR_RIGHT : ℕ
OR_RIGHT = 2

abbrev pub NOT_DONE : ℕ
NOT_DONE = 3

abbrev pub AND_DONE : ℕ
AND_DONE = 4

abbrev pub OR_DONE : ℕ
OR_DONE = 5

-- Place q is none of the list.
pub data Out (q : ℕ) : List ℕ → Type 0 where
  out_nil : Out q []
  out_cons : {p : ℕ} {ps : List ℕ} → (p ≡ q → ⊥) → Out q ps → Out q (p ∷ ps)

-- All places are lo or later.
pub data AllGe (lo : ℕ) : List ℕ → Type 0 where
  ge_nil : AllGe lo []
  ge_cons : {p : ℕ} {ps : List ℕ} → lo ≤ p → AllGe lo ps → AllGe lo (p ∷ ps)

-- No place of the one list is one of the other.
pub data Apart (sp : List ℕ) : List ℕ → Type 0 where
  apart_nil : Apart sp []
  apart_cons : {q : ℕ} {qs : List ℕ} → Out q sp → Apart sp qs → Apart sp (q ∷ qs)

-- The list stands for the places ps, which lie from lo up to hi.
pub record Holds (links : List ℕ) (list : PatchList) (lo hi : ℕ) (ps : List ℕ) : Type 0 where
  pub places : chain_of links list.head ≡ ps
  pub below : list.head ≤ hi
  pub above : AllGe lo ps
  pub ends : 0 < list.head → list.tail ≡ last_or 0 ps

-- A pending operator: what it waits for, the place where its operand began, the places that it keeps.
pub data Frame : Type 0 where
  frame : ℕ → ℕ → List ℕ → Frame

-- The n operators that wait, the last first; each keeps places below those where the next began.
pub data Stack (l : ℕ) (work : List ℕ) : ℕ → List Frame → ℕ → Type 0 where
  bottom : {hi : ℕ} → Stack l work 0 [] hi
  over : {n op lo hi : ℕ} {ps : List ℕ} {fs : List Frame} → lo ≤ hi → get_or work (l + 3 * n) 0 ≡ op
      → Holds work (saved_at work (l + 3 * n)) lo hi ps
      → Stack l work n fs lo → Stack l work (suc n) (frame op lo ps ∷ fs) hi

-- `work` and the patches stand for operators that wait and for the open jumps of the operand that began at lo.
pub record Rel (l : ℕ) (work : List ℕ) (n : ℕ) (st : Patches) (fs : List Frame) (sp fp : List ℕ) (lo : ℕ) : Type 0 where
  pub descends : Descends l work
  pub room : l + 3 * n ≤ length work
  pub pos_in : st.pos ≤ l
  pub lo_in : lo ≤ st.pos
  pub success_list : Holds work st.success lo st.pos sp
  pub failure_list : Holds work st.failure lo st.pos fp
  pub apart : Apart sp fp
  pub stack : Stack l work n fs lo

-- The jump that a pending Or and a pending Not will write.
unfoldable pub due : ℕ → ℕ
due op = cond (eqb op AND_DONE) 0 (cond (eqb op OR_DONE) 0 (cond (eqb op AND_RIGHT) 0 1))

unfoldable pub owed : List Frame → ℕ
owed [] = 0
owed (frame op lo ps ∷ fs) = due op + owed fs

-- There is such a reading, and room for the jumps that are due.
pub record Some (l : ℕ) (work : List ℕ) (n : ℕ) (st : Patches) : Type 0 where
  pub fs : List Frame
  pub sp : List ℕ
  pub fp : List ℕ
  pub lo : ℕ
  pub rel : Rel l work n st fs sp fp lo
  pub budget : st.pos + owed fs ≤ l

-- There is one in which op waits for the operand that is done.
pub record SomeTop (l : ℕ) (work : List ℕ) (n op : ℕ) (st : Patches) : Type 0 where
  pub fs : List Frame
  pub sp : List ℕ
  pub fp : List ℕ
  pub ps : List ℕ
  pub lo : ℕ
  pub lo' : ℕ
  pub rel : Rel l work (suc n) st (frame op lo' ps ∷ fs) sp fp lo
  pub budget : st.pos + due op ≤ l

-- There is one in which an operand begins, with room for a primitive of so many instructions.
pub record SomeLeaf (l : ℕ) (work : List ℕ) (n : ℕ) (st : Patches) (size : ℕ) : Type 0 where
  pub fs : List Frame
  pub rel : Rel l work n st fs [] [] st.pos
  pub budget : st.pos + size + owed fs ≤ l
