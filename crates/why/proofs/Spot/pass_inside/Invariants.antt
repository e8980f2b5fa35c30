-- The words so far went elsewhere. Each turn does one word inside a line.
use Rattle.xosera.specs.Blitter.{engine_left}
use Rattle.why.specs.Progress.{Passed}
use Rattle.why.proofs.Spot.pass_inside.Given as goal

abbrev pub invariant-loop-at : goal.invariant-loop-at
invariant-loop-at l = Passed l.self.address l.initial.at.engine l.initial.vram l.at.engine l.vram

abbrev pub decreases-loop-at : goal.decreases-loop-at
decreases-loop-at l = engine_left l.at.engine
