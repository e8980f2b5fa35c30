-- One colour from end to end.
use Rattle.std.proofs.Common.{length, ◌∙◌, rules}
use Rattle.std.proofs.lemmas.List.{length-replicate, get_or-replicate}
use Rattle.scanline.proofs.LineLaws.{across-all}
use Rattle.paint.proofs.paint_blank.Goals as goal

pub returns : goal.returns
returns c =
    let n = length c.args.pixels.now in
    c.fill.ensures.after (λ y e. e) ∙ across-all n _ _ (length-replicate n _) (λ x h. get_or-replicate n x _ 0 h ∙ search rules)
