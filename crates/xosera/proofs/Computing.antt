-- The definitions opened for computing: a proof by computing says `unfolding computing`, and a new definition is added here.
use Rattle.xosera.specs.State.{beam_words}
use Rattle.xosera.specs.Words.{wrap, bit, nibble, without_bit, chosen, merged, shifted, combined, is_colour, colour_mask}
use Rattle.xosera.specs.Fields.{flag_bits}
use Rattle.xosera.specs.Memories.{is_vram_length, is_xr_length, place, word, stored, bad_pixel}
use Rattle.xosera.specs.Blitter.{launched, started_engine, is_constant, fetched, sourced, first_mask, last_word, last_mask, test_mask, write_mask}
use Rattle.xosera.specs.Blitter.{drawing, drawn, first_step, last_step, next_source, next_dest, next, succeeding, stepped, steps}
use Rattle.xosera.specs.Blitter.{step_mask, nth_mask, blit_words, engine_left, words_left}
use Rattle.xosera.specs.Plan.{changed, vram_loaded, perform}
use Rattle.xosera.specs.XrSpace.{within, is_blit_register, playfield_read, register_read, xr_read, put, video_write, blit_write}
use Rattle.xosera.specs.XrSpace.{xr_memory_write, beam_write, xr_write}
use Rattle.xosera.specs.Beam.{line_ends, next_line, beam_moved, reaches, h_blank, v_blank, at_rest}
use Rattle.xosera.specs.Copper.{pixel_reached, line_reached, place_reached, position_reached, copper_at, move, program_at}
use Rattle.xosera.specs.Copper.{instruction, arrived, copper_acts, beam_step}
use Rattle.xosera.specs.HostBytes.{word_of, latched, xr_loaded, vram_load, write_word, write_byte, shown, high_byte, low_byte, timer_saved, read_byte}
use Rattle.xosera.specs.TimerTick.{expires, lowered, ticked, tick}
use Rattle.xosera.specs.Ranges.{timer_in_range, are_bytes, host_in_range, starts_empty, running_in_range, is_no_regs, idle_in_range, engine_in_range}
use Rattle.xosera.specs.Ranges.{beam_in_range, copper_in_range, in_range}
use Rattle.xosera.specs.Acts.{act_of, done, line_up, given, wrote, all_done, all_given}

unfoldable pub computing : Unit {0}
unfolding beam_words wrap bit nibble without_bit chosen merged shifted combined is_colour colour_mask flag_bits
    is_vram_length is_xr_length place word stored bad_pixel
    launched started_engine is_constant fetched sourced first_mask last_word last_mask test_mask write_mask
    drawing drawn first_step last_step next_source next_dest next succeeding stepped steps step_mask nth_mask blit_words engine_left words_left
    changed vram_loaded perform
    within is_blit_register playfield_read register_read xr_read put video_write blit_write xr_memory_write beam_write xr_write
    word_of latched xr_loaded vram_load write_word write_byte shown high_byte low_byte timer_saved read_byte
    expires lowered ticked tick
    line_ends next_line beam_moved reaches h_blank v_blank at_rest
    pixel_reached line_reached place_reached position_reached copper_at move program_at instruction arrived copper_acts beam_step
    timer_in_range are_bytes host_in_range starts_empty running_in_range is_no_regs idle_in_range engine_in_range beam_in_range copper_in_range in_range
    act_of done line_up given wrote all_done all_given
computing = tt
