-- The size that was counted decides; nothing is written before.
use Rattle.std.proofs.Common.{◌≡◌, false, refl, sym, ◌∙◌, rules, arith, length, take, None, Err}
use lib.Seq.{length-take-le}
use Rattle.tree.specs.Tree.{tree_of}
use Rattle.nots.specs.Push.{sheet_after}
use Rattle.nots.specs.Turn.{wanted_at, tree_at, fits, size_of}
use Rattle.nots.proofs.Rooms.{counted, room_deep, room_many, room_short, room_enough}
use Rattle.nots.proofs.push_tree.Goals as goal

pub returns-in_err-turned : goal.returns-in_err-turned
unfolding sheet_after
returns-in_err-turned c =
    let h : c.from_residual.result ≡ Err c.in_err-turned.field-0.0 = search rules in
    let e = c.in_err-turned.ensures in
    let v = rw e.ok_part at e.value in
    let q : c.in_err-turned.field-0.0 ≡ c.at.result = cc in
    let n : size_of c.args.tokens.now 0 256 false ≡ None = sym c.size_at.ensures ∙ e.ok_part in
    rw (h, q, c.at.ensures) (record { value = room_deep _ _ _ n; output_after = refl })

pub returns-then-turned-gt65535 : goal.returns-then-turned-gt65535
unfolding sheet_after
returns-then-turned-gt65535 c =
    let t = c.in_ok-turned.turned in
    let n : size_of c.args.tokens.now 0 256 false ≡ fits t.next t.size = sym c.size_at.ensures ∙ c.in_ok-turned.ensures.ok_part in
    rw c.at-then-turned-gt65535.ensures (record { value = room_many _ _ _ n c.if-turned-gt65535.true; output_after = refl })

pub returns-then-output-length : goal.returns-then-output-length
unfolding sheet_after
returns-then-output-length c =
    let a = c.args in
    let t = c.in_ok-turned.turned in
    let n : size_of c.args.tokens.now 0 256 false ≡ fits t.next t.size = sym c.size_at.ensures ∙ c.in_ok-turned.ensures.ok_part in
    let k = length-take-le a.front a.sheet.now c.requires.front_in_bounds.0 in
    rw c.at-then-output-length.ensures (record { value = room_short _ _ _ n c.if-turned-gt65535.false (omega (arith, k, c.if-output-length.true)); output_after = refl })

pub write_sheet-requires-clause-begins : goal.write_sheet-requires-clause-begins
write_sheet-requires-clause-begins c =
    let t = c.in_ok-turned.turned in
    let n : size_of c.args.tokens.now 0 256 false ≡ fits t.next t.size = sym c.size_at.ensures ∙ c.in_ok-turned.ensures.ok_part in
    (c.requires.tokens_len_bound.1, counted c.args.sheet.now c.args.tokens.now 0 n)

pub returns : goal.returns
unfolding sheet_after wanted_at tree_at tree_of
returns c =
    let a = c.args in
    let t = c.in_ok-turned.turned in
    let n : size_of c.args.tokens.now 0 256 false ≡ fits t.next t.size = sym c.size_at.ensures ∙ c.in_ok-turned.ensures.ok_part in
    let k = length-take-le a.front a.sheet.now c.requires.front_in_bounds.0 in
    record { value = room_enough (take a.front a.sheet.now) a.tokens.now (length a.output.now) n k c.if-turned-gt65535.false c.if-output-length.false; output_after = c.write_sheet.ensures }
