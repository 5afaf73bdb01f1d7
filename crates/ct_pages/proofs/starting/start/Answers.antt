use Rattle.ct_pages.specs.Areas.{Anything}
use Rattle.ct_pages.proofs.Spares.{keeps_named}
use Rattle.ct_pages.proofs.starting.start.Goals as goal

pub returns-in_err-restart-clause-named : goal.returns-in_err-restart-clause-named
returns-in_err-restart-clause-named g c = λ h.
    let a = c.args in
    let D = g.D.Disk in
    keeps_named a.area _ _ (D.images a.disk.now) (D.images c.restart.new.disk) Anything c.requires.above (c.requires.spare h) (c.restart.ensures.images h)

pub returns-clause-named : goal.returns-clause-named
returns-clause-named g c = λ h.
    let a = c.args in
    let D = g.D.Disk in
    keeps_named a.area _ _ (D.images a.disk.now) (D.images c.restart.new.disk) Anything c.requires.above (c.requires.spare h) (c.restart.ensures.images h)
