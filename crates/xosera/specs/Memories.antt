-- The memories lent to a call (document 01, "The memories lent").
use Rattle.std.specs.Prelude.{Bool, cond, ◌||◌, List, ℕ, ◌-◌, ◌%◌, leb, ltb, eqb, length, get_or, set}
use Rattle.xosera.specs.Words.{merged}

-- VRAM has a power of two from 256 to 65,536 words.
unfoldable pub is_vram_length : ℕ → Bool
is_vram_length n = eqb n 256 || eqb n 512 || eqb n 1024 || eqb n 2048 || eqb n 4096 || eqb n 8192 || eqb n 16384 || eqb n 32768 || eqb n 65536

-- XR memory has 6,656 words: tile 5,120, then colour 512, then copper 1,024.
unfoldable pub is_xr_length : ℕ → Bool
is_xr_length n = eqb n 6656

-- Where a VRAM address lies: it is taken modulo the length when memory is touched.
unfoldable pub place : List ℕ → ℕ → ℕ
place vram a = a % length vram

-- The VRAM word at an address.
unfoldable pub word : List ℕ → ℕ → ℕ
word vram a = get_or vram (place vram a) 0

-- A store to VRAM under a nibble mask. Mask 0 stores nothing.
pub record Store : Type 0 where
  pub mask : ℕ
  pub addr : ℕ
  pub value : ℕ

-- No store.
abbrev pub no_store : Store
no_store = record { mask = 0; addr = 0; value = 0 }

-- VRAM after a store: the nibbles under the mask are new, all else stays.
unfoldable pub stored : Store → List ℕ → List ℕ
stored s vram = cond (eqb s.mask 0) vram (set vram (place vram s.addr) (merged s.mask (word vram s.addr) s.value))

-- A nibble's place (document 02, requests 5 and 13: "address; 0 to 3 from the left").
pub record Pixel : Type 0 where
  pub address : ℕ
  pub nibble : ℕ

-- The same from the right, as the bits of a mask count.
abbrev pub from_right : Pixel → ℕ
from_right p = 3 - p.nibble

-- No such nibble: "over 3 or address not below the VRAM length", by that length.
unfoldable pub bad_pixel : ℕ → Pixel → Bool
bad_pixel words p = ltb 3 p.nibble || leb words p.address
