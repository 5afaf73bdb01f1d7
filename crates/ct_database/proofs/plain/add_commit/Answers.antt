use Rattle.std.proofs.Common.{◌≡◌, ◌++◌, ◌∷◌, [], sym, ap, ◌∙◌, subst}
use Rattle.ct_types.specs.declared.entry.Kept.{Kept}
use Rattle.ct_database.specs.Steps.{AreNewest, AreWithin}
use Rattle.ct_database.proofs.ValidStored.{still_newest, within_more}
use Rattle.ct_database.proofs.plain.add_commit.Goals as goal

pub push-requires-clause-above : goal.push-requires-clause-above
push-requires-clause-above c =
    let room = c.make_room.new.self.commits in
    let pointed : c.in_ok-one.one.value ≡ c.args.one = c.in_ok-one.ensures.ok in
    subst (λ (one : Kept). AreNewest room (one ∷ [])) (sym pointed) (still_newest c.args.commits.now.commits room c.args.one c.requires.counts c.make_room.ensures.within c.requires.above)

pub returns-clause-within : goal.returns-clause-within
returns-clause-within c = λ version all.
    let room = c.make_room.new.self.commits in
    let pointed : c.in_ok-one.one.value ≡ c.args.one = c.in_ok-one.ensures.ok in
    let pushed : c.push.new.self.commits ≡ c.make_room.new.self.commits ++ c.args.one ∷ [] = c.push.ensures ∙ ap (λ (one : Kept). room ++ one ∷ []) pointed in
    subst (AreWithin version) (sym pushed) (within_more c.args.commits.now.commits room c.args.one c.make_room.ensures.within version all)
