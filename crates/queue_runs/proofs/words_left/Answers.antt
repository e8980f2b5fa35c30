-- None on an idle engine; else those of the running blit and of the queued one, as it will be launched.
use Rattle.std.proofs.Common.{◌≡◌, ◌+◌, sym, ap, ap₂, ◌∙◌, arith}
use Rattle.xosera.specs.State.{state_at}
use Rattle.xosera.specs.Adapter.{adapter_at}
use Rattle.xosera.specs.Blitter.{blit_words, engine_left, words_left}
use Rattle.xosera.proofs.Branches.{cond_yes, cond_no}
use Rattle.xosera.proofs.EngineLaws.{launched-left}
use Rattle.xosera.proofs.StepLaws.{idle-none-left}
use Rattle.queue_runs.proofs.words_left.Goals as goal
use Rattle.queue_runs.proofs.words_left.Goals.{After-words_left-left}

-- The words of the running blit.
first : (c : After-words_left-left) → c.words_left-left.result ≡ engine_left (state_at c.args.s.now).engine
first c = c.words_left-left.ensures.0 ∙ ap engine_left c.in-Some.ensures

pub returns-in_default : goal.returns-in_default
returns-in_default c v x = sym (idle-none-left (adapter_at c.args.s.now v x) c.requires c.in_default.ensures)

pub returns-in-Some-queued_blit : goal.returns-in-Some-queued_blit
unfolding words_left
returns-in-Some-queued_blit c v x =
    let waits = c.in-Some-queued_blit.ensures in
    let second = c.words_left.ensures.0 ∙ ap engine_left waits.1 ∙ launched-left _ in
    ap₂ ◌+◌ (first (goal.at.returns-in-Some-queued_blit c).After-words_left-left) (second ∙ sym (cond_yes _ 0 waits.0))

pub returns-in-None : goal.returns-in-None
unfolding words_left
returns-in-None c v x =
    let none = cond_no (blit_words (state_at c.args.s.now).blit) 0 c.in-None.ensures in
    omega (arith, first (goal.at.returns-in-None c).After-words_left-left, none)
