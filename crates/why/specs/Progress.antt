-- How far the account of a blit has come, as the functions keep it. That its engine is fit to go on is in the type (`Blit` of crate
-- `engine`).
use Rattle.std.specs.Prelude.{◌≡◌, List, ℕ, ◌+◌, ◌≤◌}
use Rattle.xosera.specs.declared.Engine.{Engine}
use Rattle.reasons.specs.declared.Why.{Why}
use Rattle.xosera.specs.Blitter.{moved, steps, engine_left}
use Rattle.xosera.specs.Memories.{Pixel}
use Rattle.blits.specs.Blits.{blit_of}
use Rattle.reasons.specs.Account.{account}

-- Of the blit of engine e on memory v so many words are done, it goes on from f and u, and this is known of the nibble.
pub record Known (p : Pixel) (e : Engine) (v : List ℕ) (f : Engine) (u : List ℕ) (known : Why) : Type 0 where
  pub done : ℕ
  pub reached : steps done (blit_of e v) ≡ moved (blit_of e v) f u
  pub words_left : done + engine_left f ≡ engine_left e
  pub told : known ≡ account p done (blit_of e v)

-- From engine f and VRAM u some words were done that do not go to an address, and the blit goes on from g and x: what was known of
-- a nibble there is still what is known.
pub record Passed (address : ℕ) (f : Engine) (u : List ℕ) (g : Engine) (x : List ℕ) : Type 0 where
  pub keeps : (p : Pixel) (e : Engine) (v : List ℕ) (known : Why) → p.address ≡ address → Known p e v f u known → Known p e v g x known
  pub fewer : engine_left g ≤ engine_left f
