-- What a call can say (document 01, "What a call can say").
use Rattle.std.specs.Prelude.{◌≡◌, Bool, true, cond, not, ◌&&◌, List, [], ◌∷◌, ℕ, ltb, eqb, length, get_or}
use Rattle.xosera.specs.State.{is_set}
use Rattle.xosera.specs.Fields.{is_reconfigure}
use Rattle.xosera.specs.Memories.{is_vram_length, is_xr_length}
use Rattle.xosera.specs.Adapter.{Adapter, state_of}
use Rattle.xosera.specs.XrSpace.{is_blit_register}
use Rattle.xosera.specs.HostBytes.{word_of}
use Rattle.xosera.specs.Ranges.{in_range}
use Rattle.xosera.specs.Events.{Event, write, read, tick, beam, line, call, step, run}

-- 1: VRAM length not as "The memories lent" says.
unfoldable pub bad_vram : Adapter → Bool
bad_vram a = not (is_vram_length (length a.vram))

-- 2: XR memory not 6,656 words.
unfoldable pub bad_xr : Adapter → Bool
bad_xr a = not (is_xr_length (length a.side.xr))

-- 3: state out of its ranges.
unfoldable pub bad_state : Adapter → Bool
bad_state a = not (in_range (state_of a))

-- An adapter to which none of these three applies: it is fit to go on.
pub record Fit (a : Adapter) : Type 0 where
  pub vram : is_vram_length (length a.vram) ≡ true
  pub xr : length a.side.xr ≡ 6656
  pub state : in_range (state_of a) ≡ true

-- 4: register number over 15.
unfoldable pub bad_register : ℕ → Bool
bad_register r = not (ltb r 16)

-- 5: odd-byte write to XM_XDATA, address 0x40 to 0x49, blitter full.
unfoldable pub blitter_full : Adapter → ℕ → Bool → Bool
blitter_full a r odd = odd && eqb r 5 && is_blit_register a.side.host.xr.wrxaddr.0 && is_set a.queued

-- 6: odd-byte write to XM_INT_CTRL whose word has bit 15 set.
unfoldable pub reconfigures : Adapter → ℕ → Bool → ℕ → Bool
reconfigures a r odd b = odd && eqb r 1 && is_reconfigure (word_of (get_or a.side.host.latches r 0) b)

-- A refusal: its number, and whether it applies.
infix 5 ◌when◌
pub record Test : Type 0 where
  pub number : ℕ
  pub applies : Bool

abbrev pub ◌when◌ : ℕ → Bool → Test
n when b = record { number = n; applies = b }

-- A call that is lent both memories tests them, then the state, then what follows.
abbrev pub lent_tests : Adapter → List Test → List Test
lent_tests a more = (1 when bad_vram a) ∷ (2 when bad_xr a) ∷ (3 when bad_state a) ∷ more

-- The tests of an event, in their order. Timer tick and line question take only the state; "a beam step gives 1 to 3".
unfoldable pub tests : Adapter → Event → List Test
tests a (call (write r odd b)) = lent_tests a ((4 when bad_register r) ∷ (5 when blitter_full a r odd) ∷ (6 when reconfigures a r odd b) ∷ [])
tests a (call (read r odd)) = lent_tests a ((4 when bad_register r) ∷ [])
tests a (call tick) = (3 when bad_state a) ∷ []
tests a (call beam) = lent_tests a []
tests a (call line) = (3 when bad_state a) ∷ []
tests a step = lent_tests a []
tests a (run n) = lent_tests a []

-- The number of the first test that applies; 0, done, where none does.
unfoldable pub first : List Test → ℕ
first [] = 0
first (t ∷ more) = cond t.applies t.number (first more)

-- What an event is refused with: the first that applies, and none otherwise.
unfoldable pub refusal : Adapter → Event → ℕ
refusal a e = first (tests a e)
