-- `resolve_all` follows the chain: what is left of it does to the bytes so far what the whole does to the first bytes.
use Rattle.std.proofs.Common.{◌≡◌, ℕ, ◌≤◌, ◌*◌, List, length}
use Rattle.patches.specs.Chain.{Descends, chain_of, resolved, reach}
use Rattle.patches.proofs.resolve_all.Given as goal

pub record Inv (out₀ work : List ℕ) (l head target : ℕ) (out : List ℕ) (h : ℕ) : Type 0 where
  pub descends : Descends l work
  pub all_links : l ≤ length work
  pub in_links : h ≤ l
  pub all_out : 8 * l ≤ length out
  pub in_target : h ≤ target
  pub says_out : resolved target (chain_of work head) out₀ ≡ resolved target (chain_of work h) out
  pub says_reach : reach target (chain_of work head) ≡ reach target (chain_of work h)

abbrev pub invariant-loop-head : goal.invariant-loop-head
invariant-loop-head l = Inv l.initial.out l.work l.l l.initial.head l.target l.out l.head

abbrev pub decreases-loop-head : goal.decreases-loop-head
decreases-loop-head l = l.head
