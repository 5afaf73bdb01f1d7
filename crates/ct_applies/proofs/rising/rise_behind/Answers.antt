use Rattle.std.proofs.Common.{◌++◌, IfOk, IsTrue, ◌↔◌, sym, subst}
use Rattle.ct_model.specs.Valid.{AreRising}
use Rattle.ct_applies.proofs.Climbing.{told_behind, none_before}
use Rattle.ct_applies.proofs.rising.rise_behind.Goals as goal

pub returns-in-Some : goal.returns-in-Some
returns-in-Some c = told_behind c.args.schema.now c.args.before.now c.in-Some.last.now c.args.rows.now c.climb_from.result c.requires c.in-Some.ensures.value c.climb_from.ensures

pub returns-in-None : goal.returns-in-None
returns-in-None c =
    let none = none_before c.args.before.now c.in-None.ensures.value in
    subst (λ before. IfOk c.are_rising.result (λ b. IsTrue b ↔ AreRising c.args.schema.now (before ++ c.args.rows.now))) (sym none) c.are_rising.ensures
