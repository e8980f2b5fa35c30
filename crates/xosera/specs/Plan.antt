-- What a call asks of the adapter, and carrying it out: host bytes, timer ticks and beam steps are all such acts.
use Rattle.std.specs.Prelude.{◌≡◌, Bool, false, cond, List, ℕ, ◌-◌}
use Rattle.std.specs.Int.Bits.{bit_and, bit_or}
use Rattle.xosera.specs.Fields.{all_status}
use Rattle.xosera.specs.Memories.{word, Store, no_store, stored}
use Rattle.xosera.specs.Adapter.{Side, Adapter, adapter_at, with_host, with_vram_port, with_buffer}
use Rattle.xosera.specs.Blitter.{blit_started}

-- What a call does to the interrupt status: nothing, set bits, or clear bits.
pub data StatusChange : Type 0 where
  unchanged : StatusChange
  raised cleared : ℕ → StatusChange

unfoldable pub changed : StatusChange → ℕ → ℕ
changed unchanged status = status
changed (raised bits) status = bit_or status bits
changed (cleared bits) status = bit_and status (all_status - bits)

-- What a call asks for: the side after it, at most one store to VRAM, whether the VRAM read buffer is loaded from the
-- read address, whether a blit is started or queued, and what becomes of the interrupt status.
pub record Act : Type 0 where
  pub side : Side
  pub store : Store
  pub load : Bool
  pub start : Bool
  pub status : StatusChange

-- A call that changes the side alone.
abbrev pub quiet : Side → Act
quiet s = record { side = s; store = no_store; load = false; start = false; status = unchanged }

-- The VRAM read buffer loaded from the read address.
unfoldable pub vram_loaded : Side → List ℕ → Side
vram_loaded s vram = with_host s (with_vram_port s.host (with_buffer s.host.vram (word vram s.host.vram.rdaddr.0)))

-- The adapter after all that a call asks for but the start of a blit.
abbrev pub carried_out : Act → Adapter → Adapter
carried_out p a = record {
  side = cond p.load (vram_loaded p.side (stored p.store a.vram)) p.side;
  status = changed p.status a.status;
  queued = a.queued;
  engine = a.engine;
  vram = stored p.store a.vram;
}

-- Carrying out what a call asks for.
unfoldable pub perform : Act → Adapter → Adapter
perform p a = cond p.start (blit_started (carried_out p a)) (carried_out p a)

-- From the words ws with the memories u and y a call leaves the words us with v and x, by what it asks of the side.
abbrev pub Performs : (Side → Act) → List ℕ → List ℕ → List ℕ → List ℕ → List ℕ → List ℕ → Type 0
Performs asked ws u y us v x = adapter_at us v x ≡ perform (asked (adapter_at ws u y).side) (adapter_at ws u y)
