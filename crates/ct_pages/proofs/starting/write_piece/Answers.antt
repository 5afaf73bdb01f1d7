use Rattle.std.proofs.Common.{length}
use Rattle.ct_faults.specs.Disk.{MayTear}
use Rattle.ct_pages.proofs.Spares.{keeps_named}
use Rattle.ct_pages.proofs.starting.write_piece.Goals as goal

pub returns-in_err-write_at-clause-named : goal.returns-in_err-write_at-clause-named
returns-in_err-write_at-clause-named g c = λ h.
    let a = c.args in
    let D = g.D.Disk in
    keeps_named a.area _ _ (D.images a.disk.now) (D.images c.write_at.new.self) (MayTear a.at (length a.bytes.now)) c.requires.above (c.requires.spare h) (c.write_at.ensures.images h)

pub returns-clause-named : goal.returns-clause-named
returns-clause-named g c = λ h.
    let a = c.args in
    let D = g.D.Disk in
    keeps_named a.area _ _ (D.images a.disk.now) (D.images c.write_at.new.self) (MayTear a.at (length a.bytes.now)) c.requires.above (c.requires.spare h) (c.write_at.ensures.images h)
