-- A word of a blit, as the engine's functions compute it.
use Rattle.std.specs.Prelude.{◌≡◌, ℕ, List}
use Rattle.xosera.specs.declared.Engine.{Engine}
use Rattle.engine.specs.declared.Drawn.{Drawn}
use Rattle.xosera.specs.Blitter.{fetched, drawing, drawn}
use Rattle.words.specs.Spread.{spread}

-- One word drawn by engine e on VRAM v leaves u: the word taken, and the spread mask of its store.
pub record DrewOne (e : Engine) (v : List ℕ) (r : Drawn) (u : List ℕ) : Type 0 where
  pub took : r.word ≡ fetched e v
  pub wrote : r.bits ≡ spread (drawing e (fetched e v)).mask
  pub leaves : u ≡ drawn e v
