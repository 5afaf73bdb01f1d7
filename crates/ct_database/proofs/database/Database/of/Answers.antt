use Rattle.std.proofs.Common.{◌≡◌, List, ap, ◌∙◌, subst}
use Rattle.ct_types.specs.declared.entry.Kept.{Kept}
use Rattle.ct_model.specs.declared.db.Db.{Db}
use Rattle.ct_model.specs.declared.db.Table.{Table}
use Rattle.ct_model.specs.Apply.{trim}
use Rattle.ct_database.proofs.ValidStored.{valid_keyed, valid_count, valid_rises, valid_within, valid_trimmed}
use Rattle.ct_database.proofs.database.Database.of.Goals as goal

pub tables_of-requires-clause-keyed : goal.tables_of-requires-clause-keyed
tables_of-requires-clause-keyed c = valid_keyed c.args.db c.requires

pub commits_of-requires-clause-count : goal.commits_of-requires-clause-count
commits_of-requires-clause-count c = valid_count c.args.db c.requires

pub commits_of-requires-clause-rising : goal.commits_of-requires-clause-rising
commits_of-requires-clause-rising c = valid_rises c.args.db c.requires

pub invariant_of-result : goal.invariant_of-result
invariant_of-result c = c.in_ok-kept.ensures.within c.args.db.version (valid_within c.args.db c.requires)

pub returns : goal.returns
returns c =
    let db = c.args.db in
    let commits = c.in_ok-kept.kept.commits in
    let made : List Table → List Kept → Db = (λ tables kept. record { version = c.args.db.version; time = c.args.db.time; last_xdes = c.args.db.last_xdes; keep = c.args.db.keep; tables = tables; kept = kept }) in
    let tables : c.as_slice.result.now ≡ c.args.db.tables = c.as_slice.ensures ∙ c.in_ok-tables.ensures in
    let kept : trim c.args.db.tables c.in_ok-kept.kept.commits ≡ c.args.db.kept =
    subst (λ (ts : List Table). trim ts commits ≡ trim ts db.kept) tables c.in_ok-kept.ensures.counted ∙ valid_trimmed db c.requires in
    ap (λ (ts : List Table). made ts (trim ts commits)) c.in_ok-tables.ensures ∙ ap (made db.tables) kept
