-- One blit by itself: ten registers on a memory (document 02, requests 5, 8 and 14). Its steps are those of document 01, "The
-- blitter".
use Rattle.std.specs.Prelude.{◌≡◌, List, [], ℕ, ◌+◌, ◌*◌, ◌%◌, ◌≤◌}
use Rattle.xosera.specs.declared.BlitRegs.{BlitRegs}
use Rattle.xosera.specs.declared.Engine.{Engine}
use Rattle.xosera.specs.Adapter.{Adapter, adapter}
use Rattle.xosera.specs.Blitter.{launched, moved, steps, blit_words}
use Rattle.xosera.specs.Ranges.{reset_state}

-- The blit of an engine on a memory: an adapter as after reset but for these, with no XR memory, which no step uses.
abbrev pub blit_of : Engine → List ℕ → Adapter
blit_of e vram = moved (adapter reset_state vram []) e vram

-- The blit of ten registers, just started. The claim `every-adapter` says that any other adapter does the
-- same.
unfoldable pub begun : BlitRegs → List ℕ → Adapter
begun r before = blit_of (launched r) before

-- The memory as the whole blit leaves it.
unfoldable pub drawn_by : BlitRegs → List ℕ → List ℕ
drawn_by r before = (steps (blit_words r) (begun r before)).vram

-- A line and a word of a blit, from 0, and the step that draws that word.
pub record Inside (r : BlitRegs) (l : ℕ) (w : ℕ) : Type 0 where
  pub line : l ≤ r.lines % 32768
  pub word : w ≤ r.words

abbrev pub step_of : BlitRegs → ℕ → ℕ → ℕ
step_of r l w = l * (r.words + 1) + w

-- What holds of every blit, proved in proofs/BlitsHold.antt.
pub record BlitClaims (r : BlitRegs) (v : List ℕ) : Type 0 where
  -- The step of line l, word w is that of an engine at line l, word w.
  pub that-step : (l w : ℕ) → Inside r l w → let e = (steps (step_of r l w) (begun r v)).engine in (e.line ≡ l) × (e.word ≡ w)
  -- Every adapter that runs it on this memory leaves the same memory.
  pub every-adapter : (a : Adapter) → (steps (blit_words r) (moved a (launched r) v)).vram ≡ drawn_by r v
