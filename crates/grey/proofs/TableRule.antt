-- The rule of a table, by one test over all of it, and carried to each word by its lower twelve bits.
use mathlib.Core.Path.{◌≡◌, sym, ◌∙◌}
use mathlib.Core.List.{List}
use Prim.Native.Nat.{ℕ, ◌/◌, ◌%◌}
use native.Mathlib.Omega.{arith}
use lib.Dec.{T, eqb, eqb→eq}
use Rattle.xosera.proofs.Tables.{all_below, below-tested}
use Rattle.grey.specs.Grey.{grey_level}
use Rattle.grey.specs.LevelTable.{level_in, HoldsLevels}
use Rattle.grey.proofs.ClaimsHold.{grey-claims}

-- The test computes for a table that is written out.
pub holds-tested : (table : List ℕ) → T (all_below 4096 (λ c. eqb (level_in table c) (grey_level c))) → HoldsLevels table
holds-tested table t = record {
  each = λ c h. eqb→eq _ _ (below-tested 4096 (λ (k : ℕ). eqb (level_in table k) (grey_level k)) t c (omega (arith, h)));
}

-- The top four bits have no part in it.
in-lower : (table : List ℕ) (colour : ℕ) → level_in table (colour % 4096) ≡ level_in table colour
unfolding level_in
in-lower table colour =
    let digit : colour % 4096 % 16 ≡ colour % 16 = omega arith in
    let word : colour % 4096 % 4096 / 16 ≡ colour % 4096 / 16 = omega arith in
    rw (digit, word)

pub each_word : (table : List ℕ) → HoldsLevels table → (colour : ℕ) → level_in table colour ≡ grey_level colour
each_word table holds colour =
    sym (in-lower table colour) ∙ holds.each (colour % 4096) (omega arith) ∙ grey-claims.top-ignored (colour % 4096) colour (omega arith)
