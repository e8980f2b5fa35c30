-- The test of all pairs decides whether the two are equal, as `same_bytes` does; parts of two lengths differ.
use Rattle.std.proofs.Common.{ap, length, rules, tests}
use borrow.Author.Tests.{eqb-true}
use Rattle.std.proofs.lemmas.Bool.Decides.{same_from_decides}
use Rattle.std.proofs.lemmas.Iterator.{YieldsList-from_slice, YieldsList-from_zip, same_from_all}
use Rattle.saved_file.proofs.SameLaws.{same_decides}
use Rattle.file_bytes.proofs.same.Goals as goal

pub returns-then-a-b : goal.returns-then-a-b
returns-then-a-b c =
    same_from_decides _ _
    (same_from_all c.all.new.self _ _ _ _ c.all.ensures.ran
    (YieldsList-from_zip (YieldsList-from_slice c.args.a.now cc) (YieldsList-from_slice c.args.b.now cc))
    (search rules) (λ x q k. search (rules, tests)) (λ x q k. search (rules, tests)))
    (same_decides _ _)

pub returns-else-a-b : goal.returns-else-a-b
returns-else-a-b c =
    same_from_decides _ _ (λ e. absurd (c.if-a-b.false (eqb-true _ _ e)), λ e. absurd (c.if-a-b.false (ap length e))) (same_decides _ _)
