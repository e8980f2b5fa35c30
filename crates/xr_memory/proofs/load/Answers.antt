-- A word of the lent colour part is one of the whole, 5,120 words on.
use Rattle.std.proofs.Common.{◌-◌, ◌∙◌, arith}
use Rattle.std.proofs.lemmas.Bool.Decides.{nat_tests}
use Rattle.xosera.specs.XrSpace.{within, xr_read}
use Rattle.xr_memory.proofs.Parts.{part-word}
use Rattle.xr_memory.proofs.load.Goals as goal

pub returns-in-32768-to-33279 : goal.returns-in-32768-to-33279
unfolding within xr_read
returns-in-32768-to-33279 c =
    λ v b. c.get_word.ensures ∙ part-word c.args.xr.now 5120 512 (c.args.a.0 - 0x8000) (omega arith) ∙ grind (arith, nat_tests)
