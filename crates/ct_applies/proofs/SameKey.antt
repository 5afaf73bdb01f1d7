-- Keys that stand equal are the same, and the other way round.
use Rattle.std.proofs.Common.{◌≡◌, ◌↔◌, Bool, true, sym, ap, ◌∙◌, subst}
use Rattle.std.specs.declared.cmp.Ordering.TheVariants.{Equal}
use Rattle.std.specs.Ordering.{is_eq}
use Rattle.std.proofs.lemmas.Cmp.{tied_itself}
use Rattle.ct_types.specs.Order.{key_cmp}
use Rattle.ct_types.specs.declared.value.Key.{Key}
use Rattle.ct_types.proofs.Orders.{key_cmp_total, key_cmp_exact}
use Rattle.ct_model.proofs.Rising.{equal_of}

itself : (a b : Key) → a ≡ b → key_cmp a b ≡ Equal
itself a b same = subst (λ (k : Key). key_cmp a k ≡ Equal) same (tied_itself key_cmp_total a)

pub same_key : (a b : Key) (told : Bool) → told ≡ is_eq (key_cmp a b) → (told ≡ true) ↔ (a ≡ b)
same_key a b told says = (λ e. key_cmp_exact a b (equal_of (key_cmp a b) (sym says ∙ e)), λ same. says ∙ ap is_eq (itself a b same))
