-- The arms that hand on, each by what it calls.
use Rattle.std.proofs.Common.{refl, inl, inr}
use Rattle.xosera.specs.HostBytes.{write_word}
use Rattle.access.proofs.write_word.Goals as goal

pub returns-in-Data-clause-done : goal.returns-in-Data-clause-done
unfolding write_word
returns-in-Data-clause-done c =
    elim c.in-Data.is [ inl e ↦ rw e (c.write-in-Data.ensures.done _) | inr e ↦ rw e (c.write-in-Data.ensures.done _) ]

pub returns-in-IntCtrl-clause-done : goal.returns-in-IntCtrl-clause-done
unfolding write_word
returns-in-IntCtrl-clause-done c = rw c.in-IntCtrl.is (c.write_int_ctrl.ensures _ _)

pub returns-in-Timer-clause-done : goal.returns-in-Timer-clause-done
unfolding write_word
returns-in-Timer-clause-done c = rw c.in-Timer.is (c.set_countdown.ensures _ _)

pub returns-in-Timer-clause-mask : goal.returns-in-Timer-clause-mask
unfolding write_word
returns-in-Timer-clause-mask c = rw c.in-Timer.is refl

pub returns-in-RdXaddr-clause-done : goal.returns-in-RdXaddr-clause-done
unfolding write_word
returns-in-RdXaddr-clause-done c = rw c.in-RdXaddr.is (c.load.ensures _)

pub returns-in-Xdata-clause-done : goal.returns-in-Xdata-clause-done
unfolding write_word
returns-in-Xdata-clause-done c = rw c.in-Xdata.is (c.write.ensures _)

pub returns-in-RdAddr-clause-done : goal.returns-in-RdAddr-clause-done
unfolding write_word
returns-in-RdAddr-clause-done c = rw c.in-RdAddr.is (c.load-in-RdAddr.ensures _)
