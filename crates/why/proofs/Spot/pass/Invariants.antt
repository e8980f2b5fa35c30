-- The words so far went elsewhere. Each turn does one word that is not the last, and the inside of a line.
use Rattle.xosera.specs.Blitter.{engine_left}
use Rattle.why.specs.Progress.{Passed}
use Rattle.why.proofs.Spot.pass.Given as goal

abbrev pub invariant-loop-self : goal.invariant-loop-self
invariant-loop-self l = Passed l.self.address l.initial.at.engine l.initial.vram l.at.engine l.vram

abbrev pub decreases-loop-self : goal.decreases-loop-self
decreases-loop-self l = engine_left l.at.engine
