use Rattle.std.proofs.Common.{◌≡◌, IfOk, Some, None, find, sym, ap, ◌∙◌, subst}
use Rattle.std.specs.Option.{option_copied}
use Rattle.ct_model.specs.Versions.{version_row_of}
use Rattle.ct_database.specs.Steps.{is_version}
use Rattle.ct_database.proofs.Lasts.{noted_low, noted_gone, noted_there}
use Rattle.ct_database.proofs.last.noted_last.Goals as goal

pub returns-then-version-floor : goal.returns-then-version-floor
returns-then-version-floor c =
    c.no_row.ensures ∙ sym (ap version_row_of (noted_low c.args.table c.args.floor c.args.key.now c.args.older.now c.args.version c.rise.ensures c.requires c.if-version-floor.true))

pub returns-in-None : goal.returns-in-None
returns-in-None c =
    let none : find (is_version c.args.version) c.args.older.now ≡ None = sym c.in_ok-at.ensures ∙ ap option_copied c.in-None.is in
    c.no_row-in-None.ensures ∙ sym (ap version_row_of (noted_gone c.args.table c.args.floor c.args.key.now c.args.older.now c.args.version c.rise.ensures c.requires none))

pub returns-in-Some : goal.returns-in-Some
returns-in-Some c =
    let there : find (is_version c.args.version) c.args.older.now ≡ Some c.in-Some.one.now = sym c.in_ok-at.ensures ∙ ap option_copied c.in-Some.is in
    subst (λ row. IfOk c.row_in.result (λ made. made ≡ row))
    (sym (ap version_row_of (noted_there c.args.table c.args.floor c.args.key.now c.args.older.now c.args.version c.in-Some.one.now c.rise.ensures c.requires c.if-version-floor.false there)))
    c.row_in.ensures
