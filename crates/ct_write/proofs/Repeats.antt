-- Inserts of which none repeats a key: each key is absent from the rows, and all differ.
use Rattle.std.proofs.Common.{◌≡◌, ◌≢◌, Bool, true, false, ◌&&◌, ◌||◌, List, [], ◌∷◌, ◌++◌, length, Some, None, refl, sym, ap, ◌∙◌, if◌then◌else◌}
use Rattle.std.specs.List.{AllByRecursion, list_any}
use Rattle.std.specs.Ordering.{is_eq}
use Rattle.std.proofs.lemmas.Cmp.{tied_itself}
use Rattle.std.proofs.lemmas.List.Folds.{list_any-append}
use Rattle.ct_types.proofs.Orders.{key_cmp_total}
use Rattle.ct_types.specs.Order.{key_cmp}
use Rattle.ct_types.specs.declared.entry.Op.{Op}
use Rattle.ct_types.specs.declared.entry.Op.TheVariants.{Insert}
use Rattle.ct_types.specs.declared.entry.Write.{Write}
use Rattle.ct_types.specs.declared.schema.Schema.{Schema}
use Rattle.ct_types.specs.declared.value.Key.{Key}
use Rattle.ct_types.specs.declared.value.Row.{Row}
use Rattle.ct_model.specs.Lists.{EachToLater}
use Rattle.ct_model.specs.Tables.{has_row}
use Rattle.ct_model.proofs.Members.{all_weaken}
use Rattle.ct_write.specs.Duplicates.{is_insert, inserts_key, repeats, duplicate_from}

record Neither (a b : Bool) : Type 0 where
  left : a ≡ false
  right : b ≡ false

neither : (a b : Bool) → (a || b) ≡ false → Neither a b
neither true b e = cc
neither false b e = record { left = refl; right = e }

-- an insert that does not repeat
pub record IsNew (schema : Schema) (rows : List Row) (earlier : List Write) (write : Write) : Type 0 where
  pub absent : has_row schema rows write.key ≡ false
  pub alone : list_any (inserts_key write.key) earlier ≡ false

new_of : (schema : Schema) (rows : List Row) (earlier : List Write) (write : Write) → write.op ≡ Insert → repeats schema rows earlier write ≡ false
    → IsNew schema rows earlier write
new_of schema rows earlier write op not =
    let both : (has_row schema rows write.key || list_any (inserts_key write.key) earlier) ≡ false =
    sym (ap (λ (o : Op). is_insert o && (has_row schema rows write.key || list_any (inserts_key write.key) earlier)) op) ∙ not in
    let parts = neither (has_row schema rows write.key) _ both in
    record { absent = parts.left; alone = parts.right }

-- behind one earlier insert more, the key is not that one's
differs : (earlier : List Write) (w later : Write) → w.op ≡ Insert → list_any (inserts_key later.key) (earlier ++ w ∷ []) ≡ false → w.key ≢ later.key
differs earlier w later op none same =
    let parts = neither (list_any (inserts_key later.key) earlier) (inserts_key later.key w || false) (sym (list_any-append (inserts_key later.key) earlier (w ∷ [])) ∙ none) in
    let not : inserts_key later.key w ≡ false = (neither (inserts_key later.key w) false parts.right).left in
    let tied : is_eq (key_cmp w.key later.key) ≡ true = ap (λ (k : Key). is_eq (key_cmp w.key k)) (sym same) ∙ ap is_eq (tied_itself key_cmp_total w.key) in
    let both : inserts_key later.key w ≡ true = ap (λ (o : Op). is_insert o && is_eq (key_cmp w.key later.key)) op ∙ tied in
    let clash : true ≡ false = sym both ∙ not in
    cc

pub record AreNew (schema : Schema) (rows : List Row) (earlier writes : List Write) : Type 0 where
  pub each : AllByRecursion (IsNew schema rows earlier) writes
  pub apart : EachToLater (λ a b. a.key ≢ b.key) writes

record Goes (schema : Schema) (rows : List Row) (earlier : List Write) (w : Write) (writes : List Write) : Type 0 where
  here : repeats schema rows earlier w ≡ false
  later : duplicate_from schema rows (earlier ++ w ∷ []) writes ≡ None

goes : (schema : Schema) (rows : List Row) (earlier : List Write) (w : Write) (writes : List Write) → duplicate_from schema rows earlier (w ∷ writes) ≡ None
    → Goes schema rows earlier w writes
goes schema rows earlier w writes none =
    let step : (b : Bool) → b ≡ repeats schema rows earlier w → (if b then Some (length earlier) else duplicate_from schema rows (earlier ++ w ∷ []) writes) ≡ None → Goes schema rows earlier w writes =
    elim [ true ↦ (λ is e. cc) | false ↦ (λ is e. record { here = sym is; later = e }) ] in
    step (repeats schema rows earlier w) refl none

still_new : (schema : Schema) (rows : List Row) (earlier : List Write) (w later : Write) → IsNew schema rows (earlier ++ w ∷ []) later → IsNew schema rows earlier later
still_new schema rows earlier w later new = record {
  absent = new.absent;
  alone = (neither (list_any (inserts_key later.key) earlier) _ (sym (list_any-append (inserts_key later.key) earlier (w ∷ [])) ∙ new.alone)).left;
}

pub are_new : (schema : Schema) (rows : List Row) (earlier writes : List Write) → AllByRecursion (λ w. w.op ≡ Insert) writes
    → duplicate_from schema rows earlier writes ≡ None → AreNew schema rows earlier writes
are_new schema rows earlier [] inserts none = record { each = tt; apart = tt }
are_new schema rows earlier (w ∷ writes) inserts none =
    let g = goes schema rows earlier w writes none in
    let more = are_new schema rows (earlier ++ w ∷ []) writes inserts.1 g.later in
    record {
      each = (new_of schema rows earlier w inserts.0 g.here, all_weaken _ _ (λ later new. still_new schema rows earlier w later new) writes more.each);
      apart = (all_weaken _ _ (λ later new. differs earlier w later inserts.0 new.alone) writes more.each, more.apart);
    }
