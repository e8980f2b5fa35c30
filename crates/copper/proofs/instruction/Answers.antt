-- By the opcode of the first word.
use Rattle.std.proofs.Common.{false}
use Rattle.xosera.specs.State.{is_set, state_at}
use Rattle.copper.proofs.CopperActs.{instructed}
use Rattle.copper.proofs.instruction.Goals as goal

pub returns-in-Wait : goal.returns-in-Wait
returns-in-Wait c =
    λ v. instructed c.args.s.now v c.args.xr.now _ c.program_word-first.ensures c.program_word-second.ensures c.in-Wait.ensures
    (c.wait.ensures false v _)

pub returns-in-Skip : goal.returns-in-Skip
returns-in-Skip c =
    λ v. instructed c.args.s.now v c.args.xr.now _ c.program_word-first.ensures c.program_word-second.ensures c.in-Skip.ensures
    (c.skip.ensures false v _)

pub returns-in-Jump : goal.returns-in-Jump
returns-in-Jump c =
    λ v. instructed c.args.s.now v c.args.xr.now _ c.program_word-first.ensures c.program_word-second.ensures c.in-Jump.ensures
    (rw c.jump_word.ensures at (c.jump.ensures v c.args.xr.now))

pub returns-in-Mover : goal.returns-in-Mover
returns-in-Mover c =
    λ v. instructed c.args.s.now v c.args.xr.now _ c.program_word-first.ensures c.program_word-second.ensures c.in-Mover.ensures
    (rw c.register_number.ensures at (c.move_register.ensures v c.args.xr.now))

pub returns-in-Movef : goal.returns-in-Movef
returns-in-Movef c =
    λ v. instructed c.args.s.now v c.args.xr.now _ c.program_word-first.ensures c.program_word-second.ensures c.in-Movef.ensures
    (rw c.tile_word.ensures at (c.move_memory.ensures (is_set (state_at c.args.s.now).queued) v))

pub returns-in-Movep : goal.returns-in-Movep
returns-in-Movep c =
    λ v. instructed c.args.s.now v c.args.xr.now _ c.program_word-first.ensures c.program_word-second.ensures c.in-Movep.ensures
    (rw c.colour_word.ensures at (c.move_memory-in-Movep.ensures (is_set (state_at c.args.s.now).queued) v))

pub returns-in-Movec : goal.returns-in-Movec
returns-in-Movec c =
    λ v. instructed c.args.s.now v c.args.xr.now _ c.program_word-first.ensures c.program_word-second.ensures c.in-Movec.ensures
    (rw c.program_word.ensures at (c.move_memory-in-Movec.ensures (is_set (state_at c.args.s.now).queued) v))

pub returns-in-Pass : goal.returns-in-Pass
returns-in-Pass c =
    λ v. instructed c.args.s.now v c.args.xr.now _ c.program_word-first.ensures c.program_word-second.ensures c.in-Pass.ensures
    (c.go_on.ensures v _)
