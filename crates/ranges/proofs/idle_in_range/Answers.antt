-- Fourteen words are all 0 when their bits put together are.
use mathlib.Core.Path.{◌≡◌, ◌∙◌}
use mathlib.Core.Bool.{Bool, ◌&&◌}
use mathlib.Core.List.{List}
use Prim.Native.Nat.{ℕ}
use lib.Dec.{eqb}
use Rattle.xosera.specs.State.{word_at, state_at}
use Rattle.xosera.specs.Ranges.{is_no_regs, idle_in_range}
use Rattle.ranges.proofs.LaneTests.{lanes-are-none, four-none, grouped}
use Rattle.ranges.proofs.idle_in_range.Goals as goal

-- Whether a word is 0.
abbrev none : List ℕ → ℕ → Bool
none ws k = eqb (word_at ws k) 0

grouped-at : (ws : List ℕ) →
    (none ws 32 && none ws 33 && none ws 34 && none ws 35) && (none ws 36 && none ws 37 && none ws 38 && none ws 39)
    && ((none ws 40 && none ws 41 && none ws 42 && none ws 43) && (none ws 42 && none ws 43 && none ws 44 && none ws 45))
    ≡ none ws 32 && none ws 33 && none ws 34 && none ws 35
    && (none ws 36 && none ws 37 && none ws 38 && none ws 39 && none ws 40 && none ws 41 && none ws 42 && none ws 43 && none ws 44 && none ws 45)
grouped-at ws =
    let e = none ws in
    grouped (e 32) (e 33) (e 34) (e 35) (e 36) (e 37) (e 38) (e 39) (e 40) (e 41) (e 42) (e 43) (e 44) (e 45)

pub returns : goal.returns
unfolding state_at idle_in_range is_no_regs
returns c =
    let words = c.args.s.now in
    four-none c.four.result c.four-2.result c.four-3.result c.four-4.result (lanes-are-none _ _ _ _ _ c.four.ensures)
    (lanes-are-none _ _ _ _ _ c.four-2.ensures)
    (lanes-are-none _ _ _ _ _ c.four-3.ensures) (lanes-are-none _ _ _ _ _ c.four-4.ensures)
    ∙ grouped-at words
