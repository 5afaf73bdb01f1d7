use Rattle.std.proofs.Common.{◌≡◌, ◌∷◌, sym, ◌∙◌, subst}
use Rattle.ct_database.specs.Steps.{Rise, commits_of}
use Rattle.ct_database.proofs.Rising.{rise_front}
use Rattle.ct_database.proofs.sealed.first_unneeded.Goals as goal

pub is_unneeded-requires : goal.is_unneeded-requires
is_unneeded-requires c =
    let all : c.args.sealed.now ≡ c.in-Some.pair.now ∷ c.next.new.self = sym c.pairs-pairs.ensures.all ∙ c.in-Some.ensures.steps in
    subst Rise (sym c.deref.ensures) (rise_front c.in-Some.pair.now.value.value (commits_of c.next.new.self) (subst (λ pairs. Rise (commits_of pairs)) all c.requires))
