-- Five stores.
use mathlib.Core.Path.{refl}
use mathlib.Core.List.{[], ◌∷◌}
use Rattle.xosera.specs.State.{state_at}
use Rattle.xosera.proofs.WordLaws.{◌takes◌, stored-state}
use Rattle.engine_words.proofs.move_on.Goals as goal

pub returns : goal.returns
unfolding state_at
returns c =
    let e = c.args.e in
    stored-state c.args.s.now c.told-s
    ((33 takes e.line) ∷ (34 takes e.word) ∷ (35 takes e.kept) ∷ (40 takes e.regs.srcs) ∷ (42 takes e.regs.dstd) ∷ []) refl
