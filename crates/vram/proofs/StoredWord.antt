-- A store as the code does it, whatever the mask.
use mathlib.Core.Path.{◌≡◌, refl}
use mathlib.Core.Bool.{Bool, true, false, cond}
use mathlib.Core.List.{List}
use Prim.Native.Nat.{ℕ, ◌<◌}
use borrow.Author.Tests.{eqb-true}
use lib.Dec.{eqb}
use lib.ListN.{set, get_or}
use lib.Seq.{set-get_or}
use Rattle.xosera.specs.Words.{merged}
use Rattle.xosera.specs.Memories.{Store, place, word, stored}
use Rattle.xosera.proofs.MaskLaws.{merged-none}

pub stored_at : (s : Store) (vram : List ℕ) → word vram s.addr < 65536
    → set vram (place vram s.addr) (merged s.mask (word vram s.addr) s.value) ≡ stored s vram
unfolding stored word
stored_at s vram h = go (eqb s.mask 0) refl
  where
    go : (b : Bool) → eqb s.mask 0 ≡ b → set vram (place vram s.addr) (merged s.mask (get_or vram (place vram s.addr) 0) s.value)
        ≡ cond b vram (set vram (place vram s.addr) (merged s.mask (get_or vram (place vram s.addr) 0) s.value))
    go true e = rw (eqb-true s.mask 0 e, merged-none (get_or vram (place vram s.addr) 0) s.value h, set-get_or vram (place vram s.addr) 0)
    go false e = refl
