-- The prologue, the walk, the end: what they come to together.
use Rattle.std.proofs.Common.{◌≡◌, ℕ, ◌+◌, ◌*◌, ◌≤◌, List, [], Result, Ok, Err, refl, sym, ap, ◌∙◌, subst, arith}
use Rattle.refusals.specs.Refusal.{told}
use Rattle.refusals.specs.Refusal.Answer.{Given}
use Rattle.refusals.specs.declared.Refusal.{Refusal}
use Rattle.patches.specs.declared.Patches.{Patches}
use Rattle.patches.specs.Chain.{chain_of}
use Rattle.patches.specs.Code.{Emission, push1, block, outs}
use Rattle.patches.specs.Finish.{Ending}
use Rattle.patches.specs.Finish.Ending.{refuse, wait, whole}
use Rattle.patches.specs.Machine.{Tpl, run}
use Rattle.patches.specs.Rel.{Some, owed}
use Rattle.patches.specs.Same.{SameFrom, Kept}
use Rattle.patches.specs.Whole.{prologue, final_of, compiled, ended}
use Rattle.patches.proofs.Blocks.{out_block}
use Rattle.patches.proofs.Unchanged.{from_outs, block_kept}
use Rattle.filter.specs.declared.ast.LinkType.{LinkType}
use Rattle.pieces.specs.Fragments.{Fits}
use Rattle.generator.specs.Template.{template}
use Rattle.generator.specs.Compile.{written_to, WalkOk, TryOk}

pub prologue_fits : (st : Patches) → st ≡ written_to 0 → Fits prologue st
unfolding prologue
prologue_fits st e = rw e (record { room = omega arith })

-- Mode and link stay, so the templates stay.
pub at_template : (mode : ℕ) (link : LinkType) (m : ℕ) (k : LinkType) → m ≡ mode → k ≡ link → (steps prims : List ℕ) (P : (ℕ → Tpl) → Type 0) → P (template m k steps prims) → P (template mode link steps prims)
at_template mode link m k em ek steps prims P h =
    subst (λ (l : LinkType). P (template mode l steps prims)) ek (subst (λ (n : ℕ). P (template n k steps prims)) em h)

module _ (y y1 : Emission) (e : y1 ≡ block prologue y) (none : y.patches ≡ written_to 0) where
  pub start_work : y1.work ≡ y.work
  unfolding block push1 prologue
  start_work = ap (λ (v : Emission). v.work) e

  start_out : y1.out ≡ outs prologue 0 y.out
  start_out = ap (λ (v : Emission). v.out) e ∙ out_block prologue y ∙ ap (λ (p : Patches). outs prologue p.pos y.out) none

  pub start_kept : Kept y y1
  start_kept = subst (λ (v : Emission). Kept y v) (sym e) (block_kept prologue y)

  pub start_begun : y1.patches ≡ written_to 2
  unfolding block push1 prologue
  start_begun = ap (λ (v : Emission). v.patches) e ∙ ap (λ (p : Patches). (block prologue (record y { patches = p })).patches) none

  pub start_same : (l : ℕ) → 2 ≤ l → SameFrom (8 * l) y.out y1.out
  unfolding prologue
  start_same l h = rw start_out (from_outs l prologue 0 y.out h)

  pub start_run : (tpl : ℕ → Tpl) (ts : List ℕ) → final_of (run tpl ts 0 2 y1.out []) ≡ compiled tpl ts y.out
  unfolding compiled
  start_run tpl ts = ap (λ (v : List ℕ). final_of (run tpl ts 0 2 v [])) start_out

-- What the walk's answer tells.
module _ (l : ℕ) (f : Ending) (r : Result (Unit {0}) Refusal) (y : Emission) (ok : WalkOk l f r y) where
  pub walk_refused : (x : Refusal) → r ≡ Err x → (o' : List ℕ) → TryOk (final_of f) (Err x) o'
  walk_refused x e o' = go f ok
    where
      go : (f : Ending) → WalkOk l f r y → TryOk (final_of f) (Err x) o'
      go (refuse d j) k = sym (ap told e) ∙ k
      go (wait o1 pos fs) k = absurd k
      go (whole o1 pos sp fp) (g, k, h, v) = let z : ◌≡◌ {A = ℕ} 0 1 = cc in absurd (omega arith)

  -- No operator waits, and there is room for the exits.
  pub record Whole : Type 0 where
    pub some : Some l y.work 0 y.patches
    pub room : y.patches.pos + 4 ≤ l
    pub final : final_of f ≡ ended y.out y.patches.pos (chain_of y.work y.patches.success.head) (chain_of y.work y.patches.failure.head)

  pub walk_whole : r ≡ Ok tt → Whole
  unfolding owed
  walk_whole e = go f ok refl
    where
      go : (g : Ending) → WalkOk l g r y → f ≡ g → Whole
      go (refuse d j) k q = let t : told r ≡ Given tt = ap told e in let z : ◌≡◌ {A = ℕ} 0 1 = cc in absurd (omega arith)
      go (wait o1 pos fs) k q = absurd k
      go (whole o1 pos sp fp) (g, k, h, v) q =
          let p = v.at in
          record {
            some = record { fs = []; sp = sp; fp = fp; lo = v.lo; rel = v.rel; budget = omega (arith, p, h) };
            room = omega (arith, p, h);
            final = rw (q, v.rel.success_list.places, v.rel.failure_list.places, p, k) refl;
          }
