-- Fourteen stores.
use mathlib.Core.Path.{refl}
use mathlib.Core.List.{[], ◌∷◌}
use Rattle.xosera.specs.State.{state_at}
use Rattle.xosera.proofs.WordLaws.{◌takes◌, stored-state}
use Rattle.engine_words.proofs.put_engine.Goals as goal

pub returns : goal.returns
unfolding state_at
returns c =
    let e = c.args.e in
    let r = e.regs in
    stored-state c.args.s.now c.told-s
    ((32 takes e.running) ∷ (33 takes e.line) ∷ (34 takes e.word) ∷ (35 takes e.kept) ∷ (36 takes r.ctrl)
    ∷ (37 takes r.andc) ∷ (38 takes r.xor) ∷ (39 takes r.mods) ∷ (40 takes r.srcs) ∷ (41 takes r.modd)
    ∷ (42 takes r.dstd) ∷ (43 takes r.shift) ∷ (44 takes r.lines) ∷ (45 takes r.words) ∷ []) refl
