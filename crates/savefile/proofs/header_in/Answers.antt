-- Too short, or by the link type.
use Rattle.std.proofs.Common.{refl}
use borrow.Author.Tests.{ne_eqb, lt-ltb, le-ltb}
use Rattle.savefile.specs.Savefile.{header_in}
use Rattle.savefile.proofs.header_in.Goals as goal

pub returns-then-file-lt24 : goal.returns-then-file-lt24
unfolding header_in
returns-then-file-lt24 c = rw (lt-ltb _ _ c.if-file-lt24.true, c.at.ensures) refl

pub returns-in-1 : goal.returns-in-1
unfolding header_in
returns-in-1 c = rw (le-ltb _ _ c.if-file-lt24.false, ← c.number_at.ensures, c.in-1.is) refl

pub returns-in-101 : goal.returns-in-101
unfolding header_in
returns-in-101 c = rw (le-ltb _ _ c.if-file-lt24.false, ← c.number_at.ensures, c.in-101.is) refl

pub returns-in-113 : goal.returns-in-113
unfolding header_in
returns-in-113 c = rw (le-ltb _ _ c.if-file-lt24.false, ← c.number_at.ensures, c.in-113.is) refl

pub returns-in_default : goal.returns-in_default
unfolding header_in
returns-in_default c = rw (le-ltb _ _ c.if-file-lt24.false, c.at-in_default.ensures, ← c.number_at.ensures, ne_eqb _ _ c.in_default.in_default-own.rest.0.0.1, ne_eqb _ _ c.in_default.in_default-own.rest.0.1, ne_eqb _ _ c.in_default.in_default-own.rest.1) refl
