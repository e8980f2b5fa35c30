-- The invariant: so many words are done, and this is known of the nibble. Each turn notes a word that is not the last and passes
-- those that go elsewhere; the last word comes after the loop.
use mathlib.Core.Path.{refl, sym, ◌∙◌}
use native.Mathlib.Omega.{arith}
use Rattle.xosera.specs.Memories.{Pixel}
use Rattle.xosera.proofs.EngineLaws.{next-left}
use Rattle.why.proofs.Noting.{known-first, known-noted, known-all, drawn-all, whole-account, whole-drawing}
use Rattle.why.proofs.Spot.account.Goals as goal

pub loop-vram-init : goal.loop-vram-init
loop-vram-init c = known-first _ _ _

pub loop-vram-smaller : goal.loop-vram-smaller
loop-vram-smaller c = grind (arith, next-left)

pub loop-vram-preserved : goal.loop-vram-preserved
loop-vram-preserved c =
    let one = c.note-noted.ensures in
    let at = c.loop-vram in
    c.pass-at.ensures.keeps _ _ _ _ refl
    (known-noted at.at.running at.invariant (sym c.loop-vram-test.ensures) one.took one.knows one.leaves c.advance.ensures)

pub returns : goal.returns
returns c =
    let at = c.loop-vram in
    let last = sym c.loop-vram-test.ensures in
    let one = c.note.ensures in
    let p : Pixel = record { address = c.args.self.address; nibble = c.args.self.nibble } in
    let launch = c.launch-at.ensures in
    let v = c.args.vram.now in (
      one.knows ∙ known-all at.at.running at.invariant last ∙ whole-account _ v launch p,
      one.leaves ∙ drawn-all at.at.running at.invariant last ∙ whole-drawing _ v launch,
    )
