-- On by an instruction, then the store.
use Rattle.std.proofs.Common.{Bool, ◌&&◌, ap, ◌∙◌, arith}
use Rattle.xosera.specs.State.{state_at}
use Rattle.xosera.specs.XrSpace.{is_blit_register}
use Rattle.xosera.specs.Adapter.{adapter_at}
use Rattle.xr_memory.proofs.Parts.{above-range}
use Rattle.xr_port.proofs.XrWrites.{memory-write}
use Rattle.copper.proofs.CopperActs.{move-made}
use Rattle.copper.proofs.move_memory.Goals as goal

pub returns : goal.returns
unfolding is_blit_register
returns c =
    let x = c.args.xr.now in
    let a = c.args.a.0 in
    let w = c.args.w in
    let high = c.requires in
    let on = c.go_on.new.s in
    λ full v. move-made full (adapter_at c.args.s.now v x) a w (c.go_on.ensures v x)
    (ap (λ (b : Bool). b && full) (above-range 0x40 10 a (omega (arith, high))))
    (ap (adapter_at on v) c.store.ensures ∙ memory-write (state_at on) v x a w high)
