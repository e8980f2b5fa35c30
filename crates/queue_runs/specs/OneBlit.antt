-- The running blit and the queued one, as steps on the whole adapter.
use Rattle.std.specs.Prelude.{◌≡◌, true, false, List, ℕ, ◌≤◌, length}
use Rattle.xosera.specs.State.{State, is_set}
use Rattle.xosera.specs.Adapter.{adapter}
use Rattle.xosera.specs.Blitter.{steps}
use Rattle.xosera.specs.Ranges.{in_range}

-- Of n steps from state s and VRAM v all but `rest` are done, on state t and VRAM u. They stop short only at a blit's end.
pub record OneBlit (s : State) (v : List ℕ) (n : ℕ) (t : State) (u : List ℕ) (rest : ℕ) : Type 0 where
  pub reached : (x : List ℕ) → steps rest (adapter t u x) ≡ steps n (adapter s v x)
  pub fewer : rest ≤ n
  pub in-range : in_range t ≡ true
  pub vram-length : length u ≡ length v
  pub unqueued : (rest ≡ 0 → ⊥) → t.queued ≡ 0
  pub idle : (rest ≡ 0 → ⊥) → s.queued ≡ 0 → is_set t.engine.running ≡ false
