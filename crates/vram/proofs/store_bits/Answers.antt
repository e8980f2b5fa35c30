-- The merged word at the place of the address; under mask 0 that is the word that was there.
use Rattle.xosera.specs.Memories.{place, word}
use Rattle.vram.proofs.StoredWord.{stored_at}
use Rattle.vram.proofs.store_bits.Goals as goal

pub returns : goal.returns
unfolding word place
returns c m e =
    let a = c.args in
    rw (c.blended.ensures m e, c.place-at.ensures.0)
    (stored_at (record { mask = m; addr = a.a.0; value = a.value }) a.vram.now (c.slice_known-2-1.given _).fits)
