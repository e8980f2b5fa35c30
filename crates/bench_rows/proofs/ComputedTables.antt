-- The bench table and the further examples hold: a test over all of a table, which antt computes, and a lemma that turns the
-- test into the equation.
use mathlib.Core.Path.{◌≡◌, refl, ap₂}
use mathlib.Core.Bool.{Bool, true, false, ◌&&◌}
use mathlib.Core.List.{List, [], ◌∷◌, map}
use Prim.Native.Nat.{ℕ}
use lib.Dec.{T, eqb, eqb→eq}
use Rattle.bench_rows.specs.BenchTable.{Row, table, TableHolds}
use Rattle.bench_rows.specs.Examples.{examples, ExamplesHold}
use Rattle.bench_rows.specs.BeamExamples.{beam_examples, BeamExamplesHold}
use Rattle.xosera.proofs.Branches.{both}
use Rattle.calls.proofs.ComputingCalls.{computing-calls}

abbrev pub same : List ℕ → List ℕ → Bool
same [] [] = true
same [] (y ∷ ys) = false
same (x ∷ xs) [] = false
same (x ∷ xs) (y ∷ ys) = eqb x y && same xs ys

pub same-equal : (xs ys : List ℕ) → T (same xs ys) → xs ≡ ys
same-equal [] [] t = refl
same-equal [] (y ∷ ys) t = absurd t
same-equal (x ∷ xs) [] t = absurd t
same-equal (x ∷ xs) (y ∷ ys) t = let h = both (eqb x y) (same xs ys) t in ap₂ ◌∷◌ (eqb→eq x y h.0) (same-equal xs ys h.1)

abbrev pub all_same : List Row → Bool
all_same [] = true
all_same (r ∷ rows) = same r.given r.should && all_same rows

pub all-equal : (rows : List Row) → T (all_same rows) → map (λ (r : Row). r.given) rows ≡ map (λ (r : Row). r.should) rows
all-equal [] t = refl
all-equal (r ∷ rows) t =
    let h = both (same r.given r.should) (all_same rows) t in ap₂ ◌∷◌ (same-equal r.given r.should h.0) (all-equal rows h.1)

table-computed : T (all_same table)
unfolding computing-calls
table-computed = tt

pub bench-table : TableHolds
bench-table = all-equal table table-computed

examples-computed : T (all_same examples)
unfolding computing-calls
examples-computed = tt

pub examples-hold : ExamplesHold
examples-hold = all-equal examples examples-computed

beam-examples-computed : T (all_same beam_examples)
unfolding computing-calls
beam-examples-computed = tt

pub beam-examples-hold : BeamExamplesHold
beam-examples-hold = all-equal beam_examples beam-examples-computed
