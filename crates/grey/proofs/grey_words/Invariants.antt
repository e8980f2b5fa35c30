-- The words before an index are levels, the others as they were.
use Rattle.std.proofs.Common.{◌≡◌, ℕ, ◌<◌, ◌≤◌, get_or}
use Rattle.grey.specs.Grey.{grey_level}
use Rattle.grey.proofs.grey_words.Given as goal

abbrev pub invariant-loop-word : goal.invariant-loop-word
invariant-loop-word l =
    ((k : ℕ) → k < l.word-index → get_or l.words k 0 ≡ grey_level (get_or l.fn.words k 0))
    × ((k : ℕ) → l.word-index ≤ k → get_or l.words k 0 ≡ get_or l.fn.words k 0)
