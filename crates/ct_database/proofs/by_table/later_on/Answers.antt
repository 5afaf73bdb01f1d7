use Rattle.std.proofs.Common.{◌≡◌, Some, None, filter, sym, ap, ◌∙◌, subst}
use Rattle.std.specs.Option.{option_copied}
use Rattle.std.proofs.lemmas.Result.{IfOk-weaker}
use Rattle.ct_ptree.specs.Pairs.{value_at}
use Rattle.ct_source.specs.Rows.{lent}
use Rattle.ct_database.specs.Steps.{Rise, StandAtLasts, commits_in, commits_of, found_chunks, is_later, table_key}
use Rattle.ct_database.proofs.ByTable.{found_stand, found_rise, found_later}
use Rattle.ct_database.proofs.by_table.later_on.Goals as goal

pub returns-in-None : goal.returns-in-None
returns-in-None c =
    let by_table = c.args.by_table.now in
    let none : value_at c.args.by_table.now (table_key c.args.table) ≡ None = ap (value_at by_table) (sym c.in_ok-own.ensures) ∙ sym c.get.ensures ∙ ap option_copied c.in-None.is in
    ap lent c.new.ensures ∙ sym (ap (λ found. filter (is_later c.args.version) (commits_in (found_chunks found))) none)

pub later-requires-clause-keyed : goal.later-requires-clause-keyed
later-requires-clause-keyed c =
    let by_table = c.args.by_table.now in
    let some : value_at c.args.by_table.now (table_key c.args.table) ≡ Some c.in-Some.chunks.now = ap (value_at by_table) (sym c.in_ok-own.ensures) ∙ sym c.get.ensures ∙ ap option_copied c.in-Some.is in
    found_stand c.in-Some.chunks.now (subst (λ found. StandAtLasts (found_chunks found)) some c.requires.keyed)

pub later-requires-clause-rising : goal.later-requires-clause-rising
later-requires-clause-rising c =
    let by_table = c.args.by_table.now in
    let some : value_at c.args.by_table.now (table_key c.args.table) ≡ Some c.in-Some.chunks.now = ap (value_at by_table) (sym c.in_ok-own.ensures) ∙ sym c.get.ensures ∙ ap option_copied c.in-Some.is in
    found_rise c.in-Some.chunks.now (subst (λ found. Rise (commits_in (found_chunks found))) some c.requires.rising)

pub returns : goal.returns
returns c =
    let by_table = c.args.by_table.now in
    let version = c.args.version in
    let chunks = c.in-Some.chunks.now in
    let some : value_at c.args.by_table.now (table_key c.args.table) ≡ Some c.in-Some.chunks.now = ap (value_at by_table) (sym c.in_ok-own.ensures) ∙ sym c.get.ensures ∙ ap option_copied c.in-Some.is in
    IfOk-weaker c.later.result (λ made. lent made ≡ filter (is_later version) (commits_of chunks)) (λ made. lent made ≡ filter (is_later version) (commits_in (found_chunks (value_at by_table (table_key c.args.table)))))
    (λ made e. e ∙ found_later chunks version ∙ sym (ap (λ found. filter (is_later version) (commits_in (found_chunks found))) some))
    c.later.ensures
