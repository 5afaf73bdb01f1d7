use Rattle.std.proofs.Common.{◌≡◌, Bool, true, false, not, refl, sym, ◌∙◌}
use Rattle.ct_database.proofs.Swept.{all_unneeded}
use Rattle.ct_database.proofs.sealed.is_unneeded.Goals as goal

turned : (b : Bool) → not b ≡ true → b ≡ false
turned true e = absurd (let bad : false ≡ true = e in cc)
turned false e = refl

pub returns-in-Some : goal.returns-in-Some
returns-in-Some c =
    λ none. all_unneeded c.args.tables.now c.args.chunk.now c.in-Some.one.now c.in-Some.ensures c.requires (sym c.is_needed.ensures ∙ turned c.is_needed.result none)
