-- Lists of events and what is seen after them, for worked examples and the bench table.
use Rattle.std.specs.Prelude.{List, [], ◌∷◌, ◌++◌, map, true, false, ℕ, ◌-◌, ◌/◌, ◌%◌, length, replicate, take, drop}
use Rattle.xosera.specs.Adapter.{Adapter, adapter}
use Rattle.xosera.specs.Events.{Event, Answer, write, read, call, run}
use Rattle.xosera.specs.Ranges.{reset_state}

-- A word written to a main register, to an XR register, and both bytes of a main register read.
abbrev pub set_word : ℕ → ℕ → List Event
set_word r w = call (write r false (w / 256)) ∷ call (write r true (w % 256)) ∷ []

abbrev pub set_xr : ℕ → ℕ → List Event
set_xr a w = set_word 4 a ++ set_word 5 w

abbrev pub read_word : ℕ → List Event
read_word r = call (read r false) ∷ call (read r true) ∷ []

-- A blitter register by its name, and the word that it takes.
pub data Register : Type 0 where
  CTRL ANDC XOR MODS SRCS MODD DSTD SHIFT LINES WORDS : Register

abbrev pub address : Register → ℕ
address CTRL = 0x40
address ANDC = 0x41
address XOR = 0x42
address MODS = 0x43
address SRCS = 0x44
address MODD = 0x45
address DSTD = 0x46
address SHIFT = 0x47
address LINES = 0x48
address WORDS = 0x49

infix 90 ◌is◌
abbrev pub ◌is◌ : Register → ℕ → List Event
r is w = set_xr (address r) w

-- A blit by the registers that are named, WORDS last, which starts it. Registers not named are 0 as reset left them, masks F.
abbrev pub blit : List Event → List Event
blit named = SHIFT is 0xFF00 ++ named

-- The same with up to 9 of its words drawn.
abbrev pub blit_and_run : List Event → List Event
blit_and_run named = blit named ++ run 9 ∷ []

-- Reset, 256 words of VRAM that hold FFFF but for some words from 0x10 on, and empty XR memory.
abbrev pub bench : List ℕ → Adapter
bench ws = adapter reset_state (replicate 16 0xFFFF ++ ws ++ replicate (240 - length ws) 0xFFFF) (replicate 6656 0)

-- n VRAM words from an address on.
abbrev pub seen : ℕ → ℕ → Adapter → List ℕ
seen at n a = take n (drop at a.vram)

-- The numbers that answers have, their refusals, and the nibbles that were written.
abbrev pub values_of : List Answer → List ℕ
values_of = map (λ (x : Answer). x.value)

abbrev pub refusals_of : List Answer → List ℕ
refusals_of = map (λ (x : Answer). x.refusal)

abbrev pub masks_of : List Answer → List ℕ
masks_of = map (λ (x : Answer). x.mask)
