-- Runs of words of one blit, as the functions keep them.
use Rattle.std.specs.Prelude.{◌≡◌, List, ℕ, ◌+◌, ◌≤◌, length}
use Rattle.xosera.specs.declared.Engine.{Engine}
use Rattle.engine_runs.specs.declared.Ran.{Ran}
use Rattle.engine_runs.specs.declared.Ran.TheVariants.{Midway, Over}
use Rattle.xosera.specs.Adapter.{Adapter}
use Rattle.xosera.specs.Blitter.{moved, blit_ended, steps, engine_left}
use Rattle.xosera.specs.Ranges.{Running}

-- Of n steps from engine e and VRAM v all but `rest` are done, and the blit still goes on from f and u.
pub record Going (e : Engine) (v : List ℕ) (n : ℕ) (f : Engine) (u : List ℕ) (rest : ℕ) : Type 0 where
  pub reached : (a : Adapter) → steps rest (moved a f u) ≡ steps n (moved a e v)
  pub goes_on : Running f
  pub words_left : engine_left e + rest ≡ engine_left f + n
  pub fewer : rest ≤ n
  pub vram-length : length u ≡ length v

-- Of n steps from engine e and VRAM v all but `rest` are done, and the last of them ended the blit.
pub record Ended (e : Engine) (v : List ℕ) (n : ℕ) (u : List ℕ) (rest : ℕ) : Type 0 where
  pub reached : (a : Adapter) → steps rest (blit_ended (moved a e u)) ≡ steps n (moved a e v)
  pub words_left : engine_left e + rest ≡ n
  pub vram-length : length u ≡ length v

-- What a run inside one blit came to: all n steps done, or the blit over.
abbrev pub RanTo : Engine → List ℕ → ℕ → Ran → List ℕ → Type 0
RanTo e v n (Midway blit) u = Going e v n blit.engine u 0
RanTo e v n (Over rest) u = Ended e v n u rest
