-- The bits and fields of registers' words, each named once.
use Rattle.std.specs.Prelude.{Bool, cond, ℕ, ◌+◌, ◌/◌, ◌%◌}
use Rattle.xosera.specs.Words.{bit}

-- The interrupt status ("Host bytes", last paragraph; "The blitter"): bit 4 is set by the frame end, when the
-- beam reaches line 480, and by a write to 0x03, bit 5 by the
-- countdown, bit 6 by a blit's end.
abbrev pub frame_ended : ℕ
frame_ended = 16

abbrev pub timer_expired : ℕ
timer_expired = 32

abbrev pub blit_done : ℕ
blit_done = 64

-- All seven bits of the status.
abbrev pub all_status : ℕ
all_status = 127

-- XM_INT_CTRL ("Host bytes", 1): 14:8 the mask, 6:0 the status; bit 15 reconfigures (refusal 6).
abbrev pub int_mask : ℕ → ℕ
int_mask w = w / 256 % 128

abbrev pub int_status : ℕ → ℕ
int_status w = w % 128

abbrev pub is_reconfigure : ℕ → Bool
is_reconfigure w = bit 15 w

-- XM_SYS_CTRL ("Host bytes", 0): 3:0 the nibble mask.
abbrev pub wr_mask : ℕ → ℕ
wr_mask w = w % 16

-- The flags that its high byte shows.
pub record Flags : Type 0 where
  pub full : Bool
  pub busy : Bool
  pub hblank : Bool
  pub vblank : Bool

-- Bit 14 blitter full, bit 13 blitter busy; bit 11 in left blanking, bit 10 from line 480 on (document 02, request 3): bits 6, 5,
-- 3 and 2 of the high byte.
unfoldable pub flag_bits : Flags → ℕ
flag_bits f = cond f.full 64 0 + cond f.busy 32 0 + cond f.hblank 8 0 + cond f.vblank 4 0

-- XR_COPP_CTRL (document 02, request 3): bit 15 enables the copper.
abbrev pub copper_enabled : ℕ → Bool
copper_enabled ctrl = bit 15 ctrl

-- The two words of a copper instruction (source document 001, "Co-processor Instruction Set"). Of the first: 15:13 the opcode; 10:0
-- the line Y of WAIT and SKIP, and the word that JMP goes to; the low bits of a move are its address, 7:0 of MOVER, 12:0 of MOVEF, 8:0 of
-- MOVEP, 10:0 of MOVEC.
abbrev pub opcode : ℕ → ℕ
opcode first = first / 8192

abbrev pub wait_line : ℕ → ℕ
wait_line first = first % 2048

abbrev pub jump_word : ℕ → ℕ
jump_word first = first % 2048

abbrev pub register_number : ℕ → ℕ
register_number first = first % 256

abbrev pub tile_word : ℕ → ℕ
tile_word first = first % 8192

abbrev pub colour_word : ℕ → ℕ
colour_word first = first % 512

abbrev pub program_word : ℕ → ℕ
program_word first = first % 2048

-- Of the second: the data of a move; of WAIT and SKIP 14:4 the pixel X, bit 0 ignores the line, bit 1 the pixel.
abbrev pub wait_pixel : ℕ → ℕ
wait_pixel second = second / 16 % 2048

abbrev pub ignores_line : ℕ → Bool
ignores_line second = bit 0 second

abbrev pub ignores_pixel : ℕ → Bool
ignores_pixel second = bit 1 second

-- XR_BLIT_CTRL ("The blitter", points 1 and 4): bit 0 a constant source, bit 4 the colour test, bit 5 on whole bytes,
-- 15:8 the colour T.
abbrev pub constant_source : ℕ → Bool
constant_source ctrl = bit 0 ctrl

abbrev pub colour_tested : ℕ → Bool
colour_tested ctrl = bit 4 ctrl

abbrev pub whole_bytes : ℕ → Bool
whole_bytes ctrl = bit 5 ctrl

abbrev pub test_colour : ℕ → ℕ
test_colour ctrl = ctrl / 256

-- XR_BLIT_SHIFT ("The blitter", points 2 and 4): 15:12 the first mask, 11:8 the last mask, 1:0 the nibbles to shift by.
abbrev pub first_edge : ℕ → ℕ
first_edge shift = shift / 4096

abbrev pub last_edge : ℕ → ℕ
last_edge shift = shift / 256 % 16

abbrev pub shift_count : ℕ → ℕ
shift_count shift = shift % 4

-- XR_PA_GFX_CTRL and XR_PB_GFX_CTRL (request 6): 15:8 colour base, 7 blank, 6 bitmap, 5:4 depth, 3:2 H and 1:0 V repeat less one.
abbrev pub colour_base : ℕ → ℕ
colour_base gfx = gfx / 256

abbrev pub is_blank : ℕ → Bool
is_blank gfx = bit 7 gfx

abbrev pub is_bitmap : ℕ → Bool
is_bitmap gfx = bit 6 gfx

abbrev pub pixel_depth : ℕ → ℕ
pixel_depth gfx = gfx / 16 % 4

abbrev pub h_repeat : ℕ → ℕ
h_repeat gfx = gfx / 4 % 4 + 1

abbrev pub v_repeat : ℕ → ℕ
v_repeat gfx = gfx % 4 + 1

-- XR_VID_CTRL (request 6): 7:0 the colour index of the border.
abbrev pub border_index : ℕ → ℕ
border_index ctrl = ctrl % 256
