-- Each opcode by its row of the table; an instruction that is fine stands in one.
use Rattle.std.proofs.Common.{refl, ap, rules, arith}
use Rattle.std.proofs.lemmas.Grind.{common_steps}
use Rattle.ebpf.specs.declared.act.Act.TheVariants.{Jumps}
use Rattle.ebpf.specs.Form.{form_of, form_at}
use Rattle.ebpf.specs.Sure.{read}
use Rattle.ebpf.proofs.SureArms.{needs, gives, imm64_arm, imm32_arm, reg64_arm, swap_arm, branch_arm, branch_reg_arm, jump_arm, load_arm, word_arm, exit_arm, not_none}
use Rattle.ebpf.proofs.sure.act_of.Goals as goal

pub word_load-requires : goal.word_load-requires
unfolding form_of form_at
word_load-requires c = needs (word_arm c.args.frame.now c.args.values.now (read c.args.i) (rw (← c.code.ensures, c.in-97.is))) c.requires

pub frame_load-requires : goal.frame_load-requires
unfolding form_of form_at
frame_load-requires c = let z = needs (load_arm c.args.frame.now c.args.values.now (read c.args.i) 2 refl (rw (← c.code.ensures, c.in-105.is))) c.requires in (search rules, z.0, z.1)

pub frame_load-requires-in-113 : goal.frame_load-requires-in-113
unfolding form_of form_at
frame_load-requires-in-113 c = let z = needs (load_arm c.args.frame.now c.args.values.now (read c.args.i) 1 refl (rw (← c.code.ensures, c.in-113.is))) c.requires in (search rules, z.0, z.1)

pub reg64-requires : goal.reg64-requires
unfolding form_of form_at
reg64-requires c = needs (reg64_arm c.args.frame.now c.args.values.now (read c.args.i) 0 (rw (← c.code.ensures, c.in-15.is))) c.requires

pub reg64-requires-in-31 : goal.reg64-requires-in-31
unfolding form_of form_at
reg64-requires-in-31 c = needs (reg64_arm c.args.frame.now c.args.values.now (read c.args.i) 1 (rw (← c.code.ensures, c.in-31.is))) c.requires

pub reg64-requires-in-191 : goal.reg64-requires-in-191
unfolding form_of form_at
reg64-requires-in-191 c = needs (reg64_arm c.args.frame.now c.args.values.now (read c.args.i) 11 (rw (← c.code.ensures, c.in-191.is))) c.requires

pub imm64-requires : goal.imm64-requires
unfolding form_of form_at
imm64-requires c = needs (imm64_arm c.args.frame.now c.args.values.now (read c.args.i) 0 (rw (← c.code.ensures, c.in-7.is))) c.requires

pub imm64-requires-in-183 : goal.imm64-requires-in-183
unfolding form_of form_at
imm64-requires-in-183 c = needs (imm64_arm c.args.frame.now c.args.values.now (read c.args.i) 11 (rw (← c.code.ensures, c.in-183.is))) c.requires

pub imm32-requires : goal.imm32-requires
unfolding form_of form_at
imm32-requires c = needs (imm32_arm c.args.frame.now c.args.values.now (read c.args.i) 0 (rw (← c.code.ensures, c.in-4.is))) c.requires

pub imm32-requires-in-20 : goal.imm32-requires-in-20
unfolding form_of form_at
imm32-requires-in-20 c = needs (imm32_arm c.args.frame.now c.args.values.now (read c.args.i) 1 (rw (← c.code.ensures, c.in-20.is))) c.requires

pub imm32-requires-in-36 : goal.imm32-requires-in-36
unfolding form_of form_at
imm32-requires-in-36 c = needs (imm32_arm c.args.frame.now c.args.values.now (read c.args.i) 2 (rw (← c.code.ensures, c.in-36.is))) c.requires

pub imm32-requires-in-52 : goal.imm32-requires-in-52
unfolding form_of form_at
imm32-requires-in-52 c = needs (imm32_arm c.args.frame.now c.args.values.now (read c.args.i) 3 (rw (← c.code.ensures, c.in-52.is))) c.requires

pub imm32-requires-in-68 : goal.imm32-requires-in-68
unfolding form_of form_at
imm32-requires-in-68 c = needs (imm32_arm c.args.frame.now c.args.values.now (read c.args.i) 4 (rw (← c.code.ensures, c.in-68.is))) c.requires

pub imm32-requires-in-84 : goal.imm32-requires-in-84
unfolding form_of form_at
imm32-requires-in-84 c = needs (imm32_arm c.args.frame.now c.args.values.now (read c.args.i) 5 (rw (← c.code.ensures, c.in-84.is))) c.requires

pub imm32-requires-in-100 : goal.imm32-requires-in-100
unfolding form_of form_at
imm32-requires-in-100 c = needs (imm32_arm c.args.frame.now c.args.values.now (read c.args.i) 6 (rw (← c.code.ensures, c.in-100.is))) c.requires

pub imm32-requires-in-116 : goal.imm32-requires-in-116
unfolding form_of form_at
imm32-requires-in-116 c = needs (imm32_arm c.args.frame.now c.args.values.now (read c.args.i) 7 (rw (← c.code.ensures, c.in-116.is))) c.requires

pub imm32-requires-in-164 : goal.imm32-requires-in-164
unfolding form_of form_at
imm32-requires-in-164 c = needs (imm32_arm c.args.frame.now c.args.values.now (read c.args.i) 10 (rw (← c.code.ensures, c.in-164.is))) c.requires

pub swap_bytes-requires : goal.swap_bytes-requires
unfolding form_of form_at
swap_bytes-requires c = needs (swap_arm c.args.frame.now c.args.values.now (read c.args.i) (rw (← c.code.ensures, c.in-220.is))) c.requires

pub branch-i-requires : goal.branch-i-requires
unfolding form_of form_at
branch-i-requires c = needs (branch_arm c.args.frame.now c.args.values.now (read c.args.i) 5 1 (rw (← c.code.ensures, c.in-21.is))) c.requires

pub branch-i-requires-in-37 : goal.branch-i-requires-in-37
unfolding form_of form_at
branch-i-requires-in-37 c = needs (branch_arm c.args.frame.now c.args.values.now (read c.args.i) 5 2 (rw (← c.code.ensures, c.in-37.is))) c.requires

pub branch-i-requires-in-53 : goal.branch-i-requires-in-53
unfolding form_of form_at
branch-i-requires-in-53 c = needs (branch_arm c.args.frame.now c.args.values.now (read c.args.i) 5 3 (rw (← c.code.ensures, c.in-53.is))) c.requires

pub branch-i-requires-in-69 : goal.branch-i-requires-in-69
unfolding form_of form_at
branch-i-requires-in-69 c = needs (branch_arm c.args.frame.now c.args.values.now (read c.args.i) 5 4 (rw (← c.code.ensures, c.in-69.is))) c.requires

pub branch-i-requires-in-85 : goal.branch-i-requires-in-85
unfolding form_of form_at
branch-i-requires-in-85 c = needs (branch_arm c.args.frame.now c.args.values.now (read c.args.i) 5 5 (rw (← c.code.ensures, c.in-85.is))) c.requires

pub branch-i-requires-in-165 : goal.branch-i-requires-in-165
unfolding form_of form_at
branch-i-requires-in-165 c = needs (branch_arm c.args.frame.now c.args.values.now (read c.args.i) 5 10 (rw (← c.code.ensures, c.in-165.is))) c.requires

pub branch-i-requires-in-181 : goal.branch-i-requires-in-181
unfolding form_of form_at
branch-i-requires-in-181 c = needs (branch_arm c.args.frame.now c.args.values.now (read c.args.i) 5 11 (rw (← c.code.ensures, c.in-181.is))) c.requires

pub branch-i-requires-in-22 : goal.branch-i-requires-in-22
unfolding form_of form_at
branch-i-requires-in-22 c = needs (branch_arm c.args.frame.now c.args.values.now (read c.args.i) 6 1 (rw (← c.code.ensures, c.in-22.is))) c.requires

pub branch-i-requires-in-38 : goal.branch-i-requires-in-38
unfolding form_of form_at
branch-i-requires-in-38 c = needs (branch_arm c.args.frame.now c.args.values.now (read c.args.i) 6 2 (rw (← c.code.ensures, c.in-38.is))) c.requires

pub branch-i-requires-in-54 : goal.branch-i-requires-in-54
unfolding form_of form_at
branch-i-requires-in-54 c = needs (branch_arm c.args.frame.now c.args.values.now (read c.args.i) 6 3 (rw (← c.code.ensures, c.in-54.is))) c.requires

pub branch-i-requires-in-70 : goal.branch-i-requires-in-70
unfolding form_of form_at
branch-i-requires-in-70 c = needs (branch_arm c.args.frame.now c.args.values.now (read c.args.i) 6 4 (rw (← c.code.ensures, c.in-70.is))) c.requires

pub branch-i-requires-in-86 : goal.branch-i-requires-in-86
unfolding form_of form_at
branch-i-requires-in-86 c = needs (branch_arm c.args.frame.now c.args.values.now (read c.args.i) 6 5 (rw (← c.code.ensures, c.in-86.is))) c.requires

pub branch-i-requires-in-166 : goal.branch-i-requires-in-166
unfolding form_of form_at
branch-i-requires-in-166 c = needs (branch_arm c.args.frame.now c.args.values.now (read c.args.i) 6 10 (rw (← c.code.ensures, c.in-166.is))) c.requires

pub branch-i-requires-in-182 : goal.branch-i-requires-in-182
unfolding form_of form_at
branch-i-requires-in-182 c = needs (branch_arm c.args.frame.now c.args.values.now (read c.args.i) 6 11 (rw (← c.code.ensures, c.in-182.is))) c.requires

pub branch_reg-requires : goal.branch_reg-requires
unfolding form_of form_at
branch_reg-requires c = needs (branch_reg_arm c.args.frame.now c.args.values.now (read c.args.i) 2 (rw (← c.code.ensures, c.in-45.is))) c.requires

pub returns-in-97 : goal.returns-in-97
unfolding form_of form_at
returns-in-97 c = gives (word_arm c.args.frame.now c.args.values.now (read c.args.i) (rw (← c.code.ensures, c.in-97.is))) c.requires c.word_load.ensures

pub returns-in-105 : goal.returns-in-105
unfolding form_of form_at
returns-in-105 c = gives (load_arm c.args.frame.now c.args.values.now (read c.args.i) 2 refl (rw (← c.code.ensures, c.in-105.is))) c.requires c.frame_load.ensures

pub returns-in-113 : goal.returns-in-113
unfolding form_of form_at
returns-in-113 c = gives (load_arm c.args.frame.now c.args.values.now (read c.args.i) 1 refl (rw (← c.code.ensures, c.in-113.is))) c.requires c.frame_load-in-113.ensures

pub returns-in-15 : goal.returns-in-15
unfolding form_of form_at
returns-in-15 c = gives (reg64_arm c.args.frame.now c.args.values.now (read c.args.i) 0 (rw (← c.code.ensures, c.in-15.is))) c.requires c.reg64.ensures

pub returns-in-31 : goal.returns-in-31
unfolding form_of form_at
returns-in-31 c = gives (reg64_arm c.args.frame.now c.args.values.now (read c.args.i) 1 (rw (← c.code.ensures, c.in-31.is))) c.requires c.reg64-in-31.ensures

pub returns-in-191 : goal.returns-in-191
unfolding form_of form_at
returns-in-191 c = gives (reg64_arm c.args.frame.now c.args.values.now (read c.args.i) 11 (rw (← c.code.ensures, c.in-191.is))) c.requires c.reg64-in-191.ensures

pub returns-in-7 : goal.returns-in-7
unfolding form_of form_at
returns-in-7 c = gives (imm64_arm c.args.frame.now c.args.values.now (read c.args.i) 0 (rw (← c.code.ensures, c.in-7.is))) c.requires c.imm64.ensures

pub returns-in-183 : goal.returns-in-183
unfolding form_of form_at
returns-in-183 c = gives (imm64_arm c.args.frame.now c.args.values.now (read c.args.i) 11 (rw (← c.code.ensures, c.in-183.is))) c.requires c.imm64-in-183.ensures

pub returns-in-4 : goal.returns-in-4
unfolding form_of form_at
returns-in-4 c = gives (imm32_arm c.args.frame.now c.args.values.now (read c.args.i) 0 (rw (← c.code.ensures, c.in-4.is))) c.requires c.imm32.ensures

pub returns-in-20 : goal.returns-in-20
unfolding form_of form_at
returns-in-20 c = gives (imm32_arm c.args.frame.now c.args.values.now (read c.args.i) 1 (rw (← c.code.ensures, c.in-20.is))) c.requires c.imm32-in-20.ensures

pub returns-in-36 : goal.returns-in-36
unfolding form_of form_at
returns-in-36 c = gives (imm32_arm c.args.frame.now c.args.values.now (read c.args.i) 2 (rw (← c.code.ensures, c.in-36.is))) c.requires c.imm32-in-36.ensures

pub returns-in-52 : goal.returns-in-52
unfolding form_of form_at
returns-in-52 c = gives (imm32_arm c.args.frame.now c.args.values.now (read c.args.i) 3 (rw (← c.code.ensures, c.in-52.is))) c.requires c.imm32-in-52.ensures

pub returns-in-68 : goal.returns-in-68
unfolding form_of form_at
returns-in-68 c = gives (imm32_arm c.args.frame.now c.args.values.now (read c.args.i) 4 (rw (← c.code.ensures, c.in-68.is))) c.requires c.imm32-in-68.ensures

pub returns-in-84 : goal.returns-in-84
unfolding form_of form_at
returns-in-84 c = gives (imm32_arm c.args.frame.now c.args.values.now (read c.args.i) 5 (rw (← c.code.ensures, c.in-84.is))) c.requires c.imm32-in-84.ensures

pub returns-in-100 : goal.returns-in-100
unfolding form_of form_at
returns-in-100 c = gives (imm32_arm c.args.frame.now c.args.values.now (read c.args.i) 6 (rw (← c.code.ensures, c.in-100.is))) c.requires c.imm32-in-100.ensures

pub returns-in-116 : goal.returns-in-116
unfolding form_of form_at
returns-in-116 c = gives (imm32_arm c.args.frame.now c.args.values.now (read c.args.i) 7 (rw (← c.code.ensures, c.in-116.is))) c.requires c.imm32-in-116.ensures

pub returns-in-164 : goal.returns-in-164
unfolding form_of form_at
returns-in-164 c = gives (imm32_arm c.args.frame.now c.args.values.now (read c.args.i) 10 (rw (← c.code.ensures, c.in-164.is))) c.requires c.imm32-in-164.ensures

pub returns-in-220 : goal.returns-in-220
unfolding form_of form_at
returns-in-220 c = gives (swap_arm c.args.frame.now c.args.values.now (read c.args.i) (rw (← c.code.ensures, c.in-220.is))) c.requires c.swap_bytes.ensures

pub returns-in-5 : goal.returns-in-5
unfolding form_of form_at
returns-in-5 c = gives (jump_arm c.args.frame.now c.args.values.now (read c.args.i) (rw (← c.code.ensures, c.in-5.is))) c.requires (ap Jumps c.off.ensures)

pub returns-in-21 : goal.returns-in-21
unfolding form_of form_at
returns-in-21 c = gives (branch_arm c.args.frame.now c.args.values.now (read c.args.i) 5 1 (rw (← c.code.ensures, c.in-21.is))) c.requires c.branch-i.ensures

pub returns-in-37 : goal.returns-in-37
unfolding form_of form_at
returns-in-37 c = gives (branch_arm c.args.frame.now c.args.values.now (read c.args.i) 5 2 (rw (← c.code.ensures, c.in-37.is))) c.requires c.branch-i-in-37.ensures

pub returns-in-53 : goal.returns-in-53
unfolding form_of form_at
returns-in-53 c = gives (branch_arm c.args.frame.now c.args.values.now (read c.args.i) 5 3 (rw (← c.code.ensures, c.in-53.is))) c.requires c.branch-i-in-53.ensures

pub returns-in-69 : goal.returns-in-69
unfolding form_of form_at
returns-in-69 c = gives (branch_arm c.args.frame.now c.args.values.now (read c.args.i) 5 4 (rw (← c.code.ensures, c.in-69.is))) c.requires c.branch-i-in-69.ensures

pub returns-in-85 : goal.returns-in-85
unfolding form_of form_at
returns-in-85 c = gives (branch_arm c.args.frame.now c.args.values.now (read c.args.i) 5 5 (rw (← c.code.ensures, c.in-85.is))) c.requires c.branch-i-in-85.ensures

pub returns-in-165 : goal.returns-in-165
unfolding form_of form_at
returns-in-165 c = gives (branch_arm c.args.frame.now c.args.values.now (read c.args.i) 5 10 (rw (← c.code.ensures, c.in-165.is))) c.requires c.branch-i-in-165.ensures

pub returns-in-181 : goal.returns-in-181
unfolding form_of form_at
returns-in-181 c = gives (branch_arm c.args.frame.now c.args.values.now (read c.args.i) 5 11 (rw (← c.code.ensures, c.in-181.is))) c.requires c.branch-i-in-181.ensures

pub returns-in-22 : goal.returns-in-22
unfolding form_of form_at
returns-in-22 c = gives (branch_arm c.args.frame.now c.args.values.now (read c.args.i) 6 1 (rw (← c.code.ensures, c.in-22.is))) c.requires c.branch-i-in-22.ensures

pub returns-in-38 : goal.returns-in-38
unfolding form_of form_at
returns-in-38 c = gives (branch_arm c.args.frame.now c.args.values.now (read c.args.i) 6 2 (rw (← c.code.ensures, c.in-38.is))) c.requires c.branch-i-in-38.ensures

pub returns-in-54 : goal.returns-in-54
unfolding form_of form_at
returns-in-54 c = gives (branch_arm c.args.frame.now c.args.values.now (read c.args.i) 6 3 (rw (← c.code.ensures, c.in-54.is))) c.requires c.branch-i-in-54.ensures

pub returns-in-70 : goal.returns-in-70
unfolding form_of form_at
returns-in-70 c = gives (branch_arm c.args.frame.now c.args.values.now (read c.args.i) 6 4 (rw (← c.code.ensures, c.in-70.is))) c.requires c.branch-i-in-70.ensures

pub returns-in-86 : goal.returns-in-86
unfolding form_of form_at
returns-in-86 c = gives (branch_arm c.args.frame.now c.args.values.now (read c.args.i) 6 5 (rw (← c.code.ensures, c.in-86.is))) c.requires c.branch-i-in-86.ensures

pub returns-in-166 : goal.returns-in-166
unfolding form_of form_at
returns-in-166 c = gives (branch_arm c.args.frame.now c.args.values.now (read c.args.i) 6 10 (rw (← c.code.ensures, c.in-166.is))) c.requires c.branch-i-in-166.ensures

pub returns-in-182 : goal.returns-in-182
unfolding form_of form_at
returns-in-182 c = gives (branch_arm c.args.frame.now c.args.values.now (read c.args.i) 6 11 (rw (← c.code.ensures, c.in-182.is))) c.requires c.branch-i-in-182.ensures

pub returns-in-45 : goal.returns-in-45
unfolding form_of form_at
returns-in-45 c = gives (branch_reg_arm c.args.frame.now c.args.values.now (read c.args.i) 2 (rw (← c.code.ensures, c.in-45.is))) c.requires c.branch_reg.ensures

pub returns-in-149 : goal.returns-in-149
unfolding form_of form_at
returns-in-149 c = gives (exit_arm c.args.frame.now c.args.values.now (read c.args.i) (rw (← c.code.ensures, c.in-149.is))) c.requires c.leave.ensures

pub unreachable-requires : goal.unreachable-requires
unfolding form_of form_at
unreachable-requires c = not_none c.args.frame.now c.args.values.now c.requires.0 (read c.args.i) c.requires.1 (grind (arith, common_steps))
