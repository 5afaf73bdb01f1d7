use Rattle.std.proofs.Common.{◌≡◌, ◌++◌, ◌∷◌, [], IfOk, List, Some, None, nat_lt, if◌then◌else◌, sym, ap, ◌∙◌, subst}
use Rattle.std.specs.Option.{option_copied, option_map}
use Rattle.ct_types.specs.declared.entry.Kept.{Kept}
use Rattle.ct_model.specs.declared.db.Dated.{Dated}
use Rattle.ct_model.specs.Net.{changes_above, last_of, window}
use Rattle.ct_model.specs.Versions.{version_row_of}
use Rattle.ct_database.specs.Steps.{StoredCommits, AreNewest, newest_of, dated, last_here, last_in}
use Rattle.ct_database.proofs.Lasts.{newest_has, newest_has_none}
use Rattle.ct_database.proofs.commits.Commits.last.Goals as goal
use Rattle.ct_database.proofs.commits.Commits.last.Goals.{in-Some+in_default-last_change, in_default}

pub returns-in-Some-last_change : goal.returns-in-Some-last_change
returns-in-Some-last_change c =
    let one = c.in-Some.newest.value in
    let older = c.self.inside.older in
    let change = c.in-Some-last_change.change.now in
    let last : Dated = dated c.in-Some.newest.value.version c.in-Some-last_change.change.now in
    let newest : newest_of c.self.inside.newest ≡ c.in-Some.newest.value ∷ [] = ap newest_of c.in-Some.is in
    let above : AreNewest c.self.inside.older (c.in-Some.newest.value ∷ []) = subst (AreNewest c.self.inside.older) newest c.self.invariant.0 in
    let has : last_here c.args.table c.in-Some.newest.value.version c.args.key.now c.in-Some.newest.value.changes ≡ Some (dated c.in-Some.newest.value.version c.in-Some-last_change.change.now) =
    sym
    (ap (λ found. option_map (dated one.version) (option_copied found)) (sym c.in-Some-last_change.is) ∙ c.last_change.ensures one.version
    ∙ ap (last_here c.args.table one.version c.args.key.now) (c.as_slice.ensures ∙ ap (λ (it : Kept). it.changes) c.deref.ensures)) in
    subst (λ row. IfOk c.row_above.result (λ made. made ≡ row))
    (ap (λ (it : Kept). version_row_of (if nat_lt c.args.floor it.version then Some (dated it.version change) else None)) c.deref-in-Some-last_change.ensures
    ∙ ap version_row_of (sym (newest_has c.args.table c.args.floor c.args.key.now older one last above has))
    ∙ ap (λ (added : List Kept). version_row_of (last_of (window (changes_above c.args.table c.args.floor (older ++ added)) c.args.key.now))) (sym newest)
    ∙ ap (λ (it : StoredCommits). version_row_of (last_of (window (changes_above c.args.table c.args.floor it.commits) c.args.key.now))) c.self.view_is)
    c.row_above.ensures

pub returns : goal.returns
returns c =
    let older = c.self.inside.older in
    let newest = newest_of c.self.inside.newest in
    let none : last_in c.args.table c.args.key.now (newest_of c.self.inside.newest) ≡ None = elim c.match-self.branch [
      | in-Some+in_default-last_change w ↦
          (let one = w.in-Some.newest.value in
          let has : None ≡ last_here c.args.table w.in-Some.newest.value.version c.args.key.now w.in-Some.newest.value.changes =
          ap (λ found. option_map (dated one.version) (option_copied found)) (sym w.in_default-last_change.is) ∙ w.last_change.ensures one.version
          ∙ ap (last_here c.args.table one.version c.args.key.now) (w.as_slice.ensures ∙ ap (λ (it : Kept). it.changes) w.deref.ensures) in
          ap (λ it. last_in c.args.table c.args.key.now (newest_of it)) w.in-Some.is ∙ sym has)
      | in_default w ↦ ap (λ it. last_in c.args.table c.args.key.now (newest_of it)) w.in_default.is
    ] in
    subst (λ row. IfOk c.older_last.result (λ made. made ≡ row))
    (ap version_row_of (sym (newest_has_none c.args.table c.args.floor c.args.key.now older newest none))
    ∙ ap (λ (it : StoredCommits). version_row_of (last_of (window (changes_above c.args.table c.args.floor it.commits) c.args.key.now))) c.self.view_is)
    c.older_last.ensures
