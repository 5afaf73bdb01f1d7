use Rattle.std.proofs.Common.{◌++◌, ◌∷◌, [], List, sym, subst}
use Rattle.ct_types.specs.declared.entry.Kept.{Kept}
use Rattle.ct_source.proofs.PairsByKey.{after_change}
use Rattle.ct_database.specs.Steps.{AreNewest, Rise, commits_of, older_of}
use Rattle.ct_database.proofs.Rising.{rise_behind}
use Rattle.ct_database.proofs.older.Older.push.Goals as goal

pub invariant_of-self-2 : goal.invariant_of-self-2
invariant_of-self-2 c =
    let inside = c.self.inside in
    let one = c.args.one.now.value in
    let above : AreNewest (older_of c.self.inside.sealed c.self.inside.recent) (c.args.one.now.value ∷ []) = subst (λ (older : List Kept). AreNewest older (c.args.one.now.value ∷ [])) (sym c.self.view_is) c.requires in (
      c.self.invariant.0,
      c.self.invariant.1,
      after_change (λ (recent : List Kept). Rise (older_of c.self.inside.sealed recent)) c.push.result inside.recent (inside.recent ++ c.in_ok-try_clone.field-0.value ∷ []) c.push.new.self c.self.invariant.2
          (rise_behind (commits_of c.self.inside.sealed) inside.recent one c.in_ok-try_clone.field-0.value c.self.invariant.2 above c.in_ok-try_clone.ensures) c.push.ensures.ok c.push.ensures.err,
    )
