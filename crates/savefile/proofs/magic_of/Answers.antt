-- In one byte order, in the other, or in none.
use Rattle.std.proofs.Common.{refl, sym, ◌∙◌}
use Rattle.savefile.specs.Savefile.{magic_of}
use Rattle.savefile.proofs.magic_of.Goals as goal

pub returns-then-is_magic : goal.returns-then-is_magic
unfolding magic_of
returns-then-is_magic c = rw (← c.number_at.ensures, sym c.is_magic.ensures ∙ c.if-is_magic.true) refl

pub returns-then-is_magic-2 : goal.returns-then-is_magic-2
unfolding magic_of
returns-then-is_magic-2 c = rw (← c.number_at.ensures, ← c.number_at-else-is_magic.ensures, sym c.is_magic.ensures ∙ c.if-is_magic.false, sym c.is_magic-else-is_magic.ensures ∙ c.if-is_magic-2.true) refl

pub returns-else-is_magic-2 : goal.returns-else-is_magic-2
unfolding magic_of
returns-else-is_magic-2 c = rw (← c.number_at.ensures, ← c.number_at-else-is_magic.ensures, sym c.is_magic.ensures ∙ c.if-is_magic.false, sym c.is_magic-else-is_magic.ensures ∙ c.if-is_magic-2.false) refl
