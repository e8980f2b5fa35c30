-- An idle engine, a blit that goes on, or one that ends.
use Rattle.std.proofs.Common.{ap, []}
use Rattle.xosera.specs.State.{state_at}
use Rattle.xosera.specs.Adapter.{state_of}
use Rattle.queue.proofs.OneStep.{on}
use Rattle.queue_runs.proofs.OneBlitLaws.{one-idle, one-over, one-going}
use Rattle.queue_runs.proofs.run_one.Goals as goal

pub returns-in_default : goal.returns-in_default
returns-in_default c = one-idle (state_at c.args.s.now) c.args.vram.now c.args.n c.requires.s_value c.in_default.ensures

pub returns-in-Midway : goal.returns-in-Midway
returns-in-Midway c =
    let s = state_at c.args.s.now in
    let here = c.in-Some.ensures in
    rw c.put_engine.ensures
    (one-going s c.args.vram.now c.args.n c.requires.s_value (on s c.in-Some.blit here) (rw here at c.in-Midway.ensures))

pub returns-in-Over : goal.returns-in-Over
returns-in-Over c =
    rw (ap state_of (c.end_blit.ensures [] []))
    (one-over (state_at c.args.s.now) c.args.vram.now c.args.n c.requires.s_value (rw c.in-Some.ensures at c.in-Over.ensures))
