use Rattle.std.proofs.Common.{◌≡◌, ℕ, ◌<◌, ◌≤◌, ◌++◌, List, MatchBool, Option, sym, subst, ap, ◌∙◌}
use Rattle.ct_types.specs.declared.entry.Keep.{Keep}
use Rattle.ct_types.specs.declared.entry.Kept.{Kept}
use Rattle.ct_model.specs.declared.db.Table.{Table}
use Rattle.ct_model.specs.declared.db.Db.{Db}
use Rattle.ct_model.specs.Apply.{apply, trim}
use Rattle.ct_database.specs.Storable.{IsActStorable}
use Rattle.ct_database.specs.Steps.{AreNewest, AreWithin, added_by}
use Rattle.ct_database.proofs.Trimmed.{counts_after, added_within, added_newest}
use Rattle.ct_database.proofs.database.Database.apply.Goals as goal

pub returns-clause-ok : goal.returns-clause-ok
unfolding apply
returns-clause-ok c =
    let entry = c.args.entry in
    let inside = c.self.inside in
    let db : Db = record { version = c.self.inside.version; time = c.self.inside.time; last_xdes = c.self.inside.last_xdes; keep = c.self.inside.keep; tables = c.self.inside.tables; kept = trim c.self.inside.tables c.self.inside.kept.commits } in
    let act : IsActStorable c.self.inside.tables c.args.entry.act = subst (λ (it : Db). IsActStorable it.tables c.args.entry.act) (sym c.self.view_is) c.requires.act in
    let later : MatchBool c.args.entry.draws (c.self.inside.version < c.args.entry.version) (c.self.inside.version ≤ c.args.entry.version) =
    subst (λ (it : Db). MatchBool c.args.entry.draws (it.version < c.args.entry.version) (it.version ≤ c.args.entry.version)) (sym c.self.view_is) c.requires.version in
    let stored = c.make_room.new.self.commits in
    let now : c.act_on.new.kept.commits ≡ c.make_room.new.self.commits ++ added_by c.args.entry = c.in_ok-act_on.ensures.kept ∙ ap (λ (added : List Kept). stored ++ added) c.in_ok-fresh.ensures in
    let within : AreWithin c.self.inside.version c.make_room.new.self.commits = c.make_room.ensures.within c.self.inside.version c.self.invariant in
    let same : trim c.self.inside.tables c.self.inside.kept.commits ≡ trim c.self.inside.tables c.make_room.new.self.commits =
    subst (λ (tables : List Table). trim tables inside.kept.commits ≡ trim tables stored) c.as_slice.ensures (sym c.make_room.ensures.counted) in
    let counts = counts_after db entry stored c.act_on.new.kept.commits c.act_on.new.tables act c.are_numbered.ensures later within same c.in_ok-act_on.ensures.tables now in
    let made : ℕ → Option Keep → List Table → List Kept → Db =
    (λ last keep tables kept. record { version = c.args.entry.version; time = c.args.entry.time; last_xdes = last; keep = keep; tables = tables; kept = kept }) in
    let counted = trim c.act_on.new.tables c.act_on.new.kept.commits in
    ap (λ last. made last c.keep_of-keep.result c.act_on.new.tables counted) c.max-self-inside.ensures
    ∙ ap (λ keep. made (apply db entry).last_xdes keep c.act_on.new.tables counted) c.keep_of-keep.ensures
    ∙ ap (λ tables. made (apply db entry).last_xdes (apply db entry).keep tables counted) c.in_ok-act_on.ensures.tables
    ∙ ap (made (apply db entry).last_xdes (apply db entry).keep (apply db entry).tables) counts
    ∙ ap (λ (it : Db). apply it c.args.entry) c.self.view_is

pub invariant_of-self : goal.invariant_of-self
invariant_of-self c = c.make_room.ensures.within c.self.inside.version c.self.invariant

pub act_on-requires-clause-above : goal.act_on-requires-clause-above
act_on-requires-clause-above c =
    let later : MatchBool c.args.entry.draws (c.self.inside.version < c.args.entry.version) (c.self.inside.version ≤ c.args.entry.version) =
    subst (λ (it : Db). MatchBool c.args.entry.draws (it.version < c.args.entry.version) (it.version ≤ c.args.entry.version)) (sym c.self.view_is) c.requires.version in
    subst (AreNewest c.make_room.new.self.commits) (sym c.in_ok-fresh.ensures)
    (added_newest c.args.entry c.self.inside.version c.make_room.new.self.commits later (c.make_room.ensures.within c.self.inside.version c.self.invariant))

pub invariant_of-self-in_err-act_on : goal.invariant_of-self-in_err-act_on
invariant_of-self-in_err-act_on c = subst (AreWithin c.self.inside.version) (sym c.in_err-act_on.ensures.unkept) (c.make_room.ensures.within c.self.inside.version c.self.invariant)

pub invariant_of-self-2 : goal.invariant_of-self-2
invariant_of-self-2 c =
    let later : MatchBool c.args.entry.draws (c.self.inside.version < c.args.entry.version) (c.self.inside.version ≤ c.args.entry.version) =
    subst (λ (it : Db). MatchBool c.args.entry.draws (it.version < c.args.entry.version) (it.version ≤ c.args.entry.version)) (sym c.self.view_is) c.requires.version in
    let stored = c.make_room.new.self.commits in
    let now : c.act_on.new.kept.commits ≡ c.make_room.new.self.commits ++ added_by c.args.entry = c.in_ok-act_on.ensures.kept ∙ ap (λ (added : List Kept). stored ++ added) c.in_ok-fresh.ensures in
    added_within c.args.entry c.self.inside.version stored c.act_on.new.kept.commits later (c.make_room.ensures.within c.self.inside.version c.self.invariant) now
