-- Worked examples of levels, and of how a table holds them.
use Rattle.std.specs.Prelude.{◌≡◌, [], ◌∷◌, map}
use Rattle.grey.specs.Grey.{grey_level}
use Rattle.grey.specs.LevelTable.{level_in}

pub record GreyExamples : Type 0 where
  -- One or two of the three parts at 15.
  pub primaries : map grey_level (0xF00 ∷ 0x0F0 ∷ 0x00F ∷ 0xFF0 ∷ 0xF0F ∷ 0x0FF ∷ []) ≡ 4 ∷ 9 ∷ 2 ∷ 13 ∷ 6 ∷ 11 ∷ []
  -- 12 x 299 + 8 x 114 is 4,500; 587 + 8 x 114 is 1,499. Both also with the top four bits set.
  pub halves : map grey_level (0xC08 ∷ 0x018 ∷ 0xFC08 ∷ 0xF018 ∷ []) ≡ 5 ∷ 1 ∷ 5 ∷ 1 ∷ []
  -- The ends of a table's word 0x00, a level of its word 0x01, that with the top four bits set, and one of word 0x10, which is not there.
  pub in_words : map (level_in (0x0123456789ABCDEF ∷ 0xFEDCBA9876543210 ∷ [])) (0x000 ∷ 0x00F ∷ 0x01A ∷ 0xF01A ∷ 0x102 ∷ [])
      ≡ 0x0 ∷ 0xF ∷ 0x5 ∷ 0x5 ∷ 0x0 ∷ []
