-- Too short, or by the magic.
use Rattle.std.proofs.Common.{refl, rules, ◌≡◌, Err}
use borrow.Author.Tests.{lt-ltb, le-ltb}
use Rattle.savefile.specs.Savefile.{header_of}
use Rattle.savefile.proofs.open_header.Goals as goal

pub returns-then-file-lt4 : goal.returns-then-file-lt4
unfolding header_of
returns-then-file-lt4 c = rw (lt-ltb _ _ c.if-file-lt4.true, c.at.ensures) refl

pub returns-in_err-order : goal.returns-in_err-order
unfolding header_of
returns-in_err-order c =
    let h : c.from_residual.result ≡ Err c.in_err-order.field-0.0 = search rules in
    let e = c.in_err-order.ensures in
    let v = rw e.ok_part at e.value in
    let q : c.in_err-order.field-0.0 ≡ c.at-2.result = cc in
    rw (le-ltb _ _ c.if-file-lt4.false, h, ← c.magic_of.ensures, e.ok_part, q, c.at-2.ensures) refl

pub returns : goal.returns
unfolding header_of
returns c = rw (le-ltb _ _ c.if-file-lt4.false, ← c.magic_of.ensures, c.in_ok-order.ensures.ok_part) c.header_in.ensures
