-- The definitions of calls opened for computing, with those below them.
use Rattle.xosera.proofs.Computing.{computing}
use Rattle.calls.specs.Refusals.{bad_vram, bad_xr, bad_state, bad_register, blitter_full, reconfigures, tests, first, refusal}
use Rattle.calls.specs.Calls.{after, answer}
use Rattle.calls.specs.Sequences.{words_of, after_all, all_answers}

unfoldable pub computing-calls : Unit {0}
unfolding computing bad_vram bad_xr bad_state bad_register blitter_full reconfigures tests first refusal after answer words_of after_all all_answers
computing-calls = tt
