-- The word of the state that stands for a stored register of the XR space, and the state with one register written.
use Rattle.std.specs.Prelude.{cond, Option, Some, None, List, [], ◌∷◌, ℕ, ◌+◌, ◌-◌, get_or}
use Rattle.xosera.specs.State.{State}
use Rattle.xosera.specs.XrSpace.{within, video_write, blit_write}

-- The words of the registers from 0x00 on; 0x03 is not stored.
abbrev pub low_places : List (Option ℕ)
low_places = Some 46 ∷ Some 47 ∷ Some 48 ∷ None ∷ Some 49 ∷ Some 50 ∷ []

-- The playfields from 0x10 and 0x18 on, the blitter from 0x40 on, and those below 0x06. None where nothing is stored.
unfoldable pub register_place : ℕ → Option ℕ
register_place a =
    cond (within 0x10 7 a) (Some (51 + (a - 0x10)))
    (cond (within 0x18 7 a) (Some (58 + (a - 0x18)))
    (cond (within 0x40 10 a) (Some (65 + (a - 0x40)))
    (get_or low_places a None)))

-- The state after a write to a register that does no more than store.
abbrev pub register_written : State → ℕ → ℕ → State
register_written s a w = record {
  host = s.host;
  queued = s.queued;
  status = s.status;
  engine = s.engine;
  video = video_write s.video a w;
  blit = blit_write s.blit a w;
  beam = s.beam;
}
