-- One word of a blit and a nibble, by the engine and the word taken, as the functions compute them. Nibble k is counted from the
-- right.
use Rattle.std.specs.Prelude.{◌≡◌, cond, List, ℕ, eqb}
use Rattle.xosera.specs.declared.Engine.{Engine}
use Rattle.reasons.specs.declared.Why.{Why}
use Rattle.reasons.specs.declared.Why.TheVariants.{Written}
use Rattle.why.specs.declared.Noted.{Noted}
use Rattle.xosera.specs.Words.{bit}
use Rattle.xosera.specs.Memories.{place}
use Rattle.xosera.specs.Blitter.{fetched, sourced, drawing, drawn}
use Rattle.reasons.specs.Account.{held_back_by, unless_written}

-- What is known of it after a word that reached it.
unfoldable pub after_reach : Engine → ℕ → ℕ → Why → Why
after_reach e w k known = cond (bit k (drawing e w).mask) (Written e.line e.word) (unless_written known (held_back_by e (sourced e w) k))

-- The same after any word, which may go to the address or elsewhere.
abbrev pub noted_at : Engine → List ℕ → ℕ → ℕ → Why → Why
noted_at e v address k known = cond (eqb (place v e.regs.dstd) address) (after_reach e (fetched e v) k known) known

-- One word drawn by engine e on VRAM v leaves u: the word taken, and what is known of the nibble at an address.
pub record NotedOne (e : Engine) (v : List ℕ) (address : ℕ) (k : ℕ) (known : Why) (r : Noted) (u : List ℕ) : Type 0 where
  pub took : r.word ≡ fetched e v
  pub knows : r.why ≡ noted_at e v address k known
  pub leaves : u ≡ drawn e v
