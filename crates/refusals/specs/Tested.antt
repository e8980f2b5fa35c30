-- The tests of both memories and the state, which accesses, blit steps, runs, beam steps, saves and loads make first.
use Rattle.std.specs.Prelude.{not, [], ◌∷◌, ℕ}
use Rattle.xosera.specs.State.{State}
use Rattle.xosera.specs.Memories.{is_vram_length, is_xr_length}
use Rattle.xosera.specs.Ranges.{in_range}
use Rattle.calls.specs.Refusals.{◌when◌, first}

-- Refusals 1 and 2 by the lengths of the memories.
unfoldable pub lengths_refusal : ℕ → ℕ → ℕ
lengths_refusal vram xr = first ((1 when not (is_vram_length vram)) ∷ (2 when not (is_xr_length xr)) ∷ [])

-- Refusals 1 to 3 by the lengths of the memories and the state.
unfoldable pub lent_refusal : ℕ → ℕ → State → ℕ
lent_refusal vram xr s = first ((1 when not (is_vram_length vram)) ∷ (2 when not (is_xr_length xr)) ∷ (3 when not (in_range s)) ∷ [])
