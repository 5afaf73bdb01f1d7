use Rattle.std.proofs.Common.{◌≡◌, None, sym, ap, ◌∙◌, subst}
use Rattle.std.specs.Option.{option_copied}
use Rattle.ct_model.specs.Versions.{version_row_of}
use Rattle.ct_ptree.specs.Pairs.{value_at}
use Rattle.ct_database.specs.Steps.{IsNoted, own_key}
use Rattle.ct_database.proofs.Lasts.{not_noted}
use Rattle.ct_database.proofs.last.looked_up_last.Goals as goal

pub returns-in-None : goal.returns-in-None
returns-in-None c =
    let none : value_at c.args.lasts.now (own_key c.args.table c.args.key.now) ≡ None = ap (value_at c.args.lasts.now) (sym c.in_ok-own.ensures) ∙ sym c.get.ensures ∙ ap option_copied c.in-None.is in
    let noted : IsNoted c.args.table c.args.key.now c.args.older.now None = subst (IsNoted c.args.table c.args.key.now c.args.older.now) none c.requires in
    c.no_row.ensures ∙ sym (ap version_row_of (not_noted c.args.table c.args.floor c.args.key.now c.args.older.now noted))
