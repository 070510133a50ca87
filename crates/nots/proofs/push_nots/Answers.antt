-- A sheet that passes 2 to 4 is as long as its counts ask, and its tokens are one tree.
use Rattle.std.proofs.Common.{◌≡◌, refl, sym, rules, arith, Err}
use Rattle.filter.specs.Sheet.{counts}
use Rattle.filter.proofs.Sheets.{sized}
use Rattle.refusals.specs.Refusal.Answer.{Given}
use Rattle.checks.specs.Check.{whole_of}
use Rattle.checks.proofs.Wholes.{sorted}
use Rattle.nots.specs.Push.{pushed, push_of, sheet_after}
use Rattle.nots.proofs.Rooms.{tokens_length, tokens_begin, both_are}
use Rattle.nots.proofs.push_nots.Goals as goal

-- the clauses, each by its name
of_pair_value : {A B : Type 0} → A × B → record { value : A; output_after : B }
of_pair_value p = record { value = p.0; output_after = p.1 }

pub returns-in_err-n : goal.returns-in_err-n
unfolding push_of pushed sheet_after
returns-in_err-n c =
    let h : c.from_residual.result ≡ Err c.in_err-n.field-0.0 = search rules in
    rw (h, ← c.in_err-n.ensures) (record { value = refl; output_after = refl })

pub push_tree-requires : goal.push_tree-requires
push_tree-requires c =
    let s = c.args.sheet.now in
    let t = sorted s (sym c.in_ok-n.ensures) in
    let z = sized s t.found in
    record {
      front_in_bounds = (omega (arith, z), omega arith);
      tokens_len_bound = rw c.sections.ensures.tokens (rw (tokens_length s t) (omega arith), tokens_begin s t);
    }

pub returns : goal.returns
returns c =
    let s = c.args.sheet.now in
    let w : whole_of s ≡ Given (counts c.in_ok-n.n.steps c.in_ok-n.n.prims c.in_ok-n.n.tokens) = sym c.in_ok-n.ensures in
    let v = rw (c.sections.ensures.tokens, c.from.ensures, c.from-2.ensures) at c.push_tree.ensures.value in
    let o = rw (c.sections.ensures.tokens, c.from.ensures, c.from-2.ensures) at c.push_tree.ensures.output_after in
    of_pair_value (both_are s (sorted s w) c.args.output.now w v o)
