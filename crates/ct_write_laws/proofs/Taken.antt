-- An insert repeats a key where the tests say so.
use Rattle.std.proofs.Common.{◌≡◌, ◌<◌, Bool, true, ◌&&◌, ◌||◌, ◌⊎◌, List, ◌∷◌, ◌++◌, length, inl, inr, refl, sym, ap, ◌∙◌, subst}
use Rattle.std.specs.List.{list_any}
use Rattle.std.specs.Ordering.{is_eq}
use Rattle.std.proofs.lemmas.Bool.{or_cases, or_right}
use Rattle.std.proofs.lemmas.Cmp.{tied_itself}
use Rattle.std.proofs.lemmas.Map.Keys.{any_passes_from_place}
use Rattle.std.proofs.lemmas.Option.{slice_get_within, same_Some}
use Rattle.ct_types.proofs.Lists.{at_end}
use Rattle.ct_types.proofs.Orders.{key_cmp_total, key_cmp_exact}
use Rattle.ct_types.proofs.Tests.{both}
use Rattle.ct_types.specs.Order.{key_cmp}
use Rattle.ct_types.specs.declared.entry.Op.{Op}
use Rattle.ct_types.specs.declared.entry.Op.TheVariants.{Insert, Update, Delete}
use Rattle.ct_types.specs.declared.entry.Write.{Write}
use Rattle.ct_types.specs.declared.schema.Schema.{Schema}
use Rattle.ct_types.specs.declared.value.Key.{Key}
use Rattle.ct_types.specs.declared.value.Row.{Row}
use Rattle.ct_model.specs.Tables.{key_of, has_that_key, has_row}
use Rattle.ct_model.proofs.Rising.{equal_of}
use Rattle.ct_write.specs.Duplicates.{is_insert, inserts_key, repeats}
use Rattle.ct_write_laws.specs.Laws.{HasKey, InsertsBefore, RepeatsAt}
use Rattle.ct_write_laws.proofs.Places.{some_passes, contained, stands_at, front_stays}

-- ---- keys and operations

same_key : (a b : Key) → is_eq (key_cmp a b) ≡ true → a ≡ b
same_key a b e = key_cmp_exact a b (equal_of (key_cmp a b) e)

tied_key : (a b : Key) → a ≡ b → is_eq (key_cmp a b) ≡ true
tied_key a b e = ap (λ (k : Key). is_eq (key_cmp a k)) (sym e) ∙ ap is_eq (tied_itself key_cmp_total a)

insert_of : (op : Op) → is_insert op ≡ true → op ≡ Insert
insert_of Insert e = refl
insert_of Update e = absurd cc
insert_of Delete e = absurd cc

-- ---- a key of the rows

key_there : (schema : Schema) (rows : List Row) (key : Key) → has_row schema rows key ≡ true → HasKey schema rows key
key_there schema rows key e =
    let it = some_passes (has_that_key schema key) rows e in
    (it.one, contained rows it.place it.one it.stands, same_key (key_of schema it.one) key it.passes)

row_there : (schema : Schema) (rows : List Row) (key : Key) → HasKey schema rows key → has_row schema rows key ≡ true
row_there schema rows key has =
    any_passes_from_place (has_that_key schema key) rows has.1.0 has.0 (stands_at rows has.0 has.1) (tied_key (key_of schema has.0) key has.2)

-- ---- a key of an earlier insert

inserted_before : (earlier more : List Write) (key : Key) → list_any (inserts_key key) earlier ≡ true → InsertsBefore (earlier ++ more) (length earlier) key
inserted_before earlier more key e =
    let it = some_passes (inserts_key key) earlier e in
    let tests = both (is_insert it.one.op) (is_eq (key_cmp it.one.key key)) it.passes in
    let below : it.place < length earlier = slice_get_within earlier it.place it.one it.stands in
    (it.place, below, (it.one, front_stays earlier more it.place below ∙ it.stands, insert_of it.one.op tests.0, same_key it.one.key key tests.1))

inserts : (write : Write) (key : Key) → write.op ≡ Insert → write.key ≡ key → inserts_key key write ≡ true
inserts write key op same = ap (λ (o : Op). is_insert o && is_eq (key_cmp write.key key)) op ∙ tied_key write.key key same

earlier_inserts : (earlier more : List Write) (key : Key) → InsertsBefore (earlier ++ more) (length earlier) key → list_any (inserts_key key) earlier ≡ true
earlier_inserts earlier more key before =
    let at = before.2 in
    any_passes_from_place (inserts_key key) earlier before.0 at.0 (sym (front_stays earlier more before.0 before.1) ∙ at.1) (inserts at.0 key at.2 at.3)

-- ---- the insert that follows the earlier ones

taken_of : (schema : Schema) (rows : List Row) (earlier more : List Write) (key : Key) → (has_row schema rows key || list_any (inserts_key key) earlier) ≡ true
    → HasKey schema rows key ⊎ InsertsBefore (earlier ++ more) (length earlier) key
taken_of schema rows earlier more key e =
    elim (or_cases (has_row schema rows key) (list_any (inserts_key key) earlier) e) [
      | inl here ↦ inl (key_there schema rows key here)
      | inr before ↦ inr (inserted_before earlier more key before)
    ]

tests_of : (schema : Schema) (rows : List Row) (earlier more : List Write) (key : Key) → HasKey schema rows key ⊎ InsertsBefore (earlier ++ more) (length earlier) key
    → (has_row schema rows key || list_any (inserts_key key) earlier) ≡ true
tests_of schema rows earlier more key (inl has) = ap (λ (b : Bool). b || list_any (inserts_key key) earlier) (row_there schema rows key has)
tests_of schema rows earlier more key (inr before) = or_right (has_row schema rows key) (list_any (inserts_key key) earlier) (earlier_inserts earlier more key before)

pub repeats_at : (schema : Schema) (rows : List Row) (earlier : List Write) (write : Write) (more : List Write) → repeats schema rows earlier write ≡ true
    → RepeatsAt schema rows (earlier ++ write ∷ more) (length earlier)
repeats_at schema rows earlier write more e =
    let tests = both (is_insert write.op) (has_row schema rows write.key || list_any (inserts_key write.key) earlier) e in
    (write.key, (write, at_end earlier write more, insert_of write.op tests.0, refl), taken_of schema rows earlier (write ∷ more) write.key tests.1)

pub at_repeats : (schema : Schema) (rows : List Row) (earlier : List Write) (write : Write) (more : List Write) → RepeatsAt schema rows (earlier ++ write ∷ more) (length earlier)
    → repeats schema rows earlier write ≡ true
at_repeats schema rows earlier write more at =
    let here = at.1 in
    let same : write ≡ here.0 = same_Some write here.0 (sym (at_end earlier write more) ∙ here.1) in
    let op : write.op ≡ Insert = ap (λ (w : Write). w.op) same ∙ here.2 in
    let key : at.0 ≡ write.key = sym (ap (λ (w : Write). w.key) same ∙ here.3) in
    let tests : (has_row schema rows write.key || list_any (inserts_key write.key) earlier) ≡ true =
    subst (λ (k : Key). (has_row schema rows k || list_any (inserts_key k) earlier) ≡ true) key (tests_of schema rows earlier (write ∷ more) at.0 at.2) in
    ap (λ (o : Op). is_insert o && (has_row schema rows write.key || list_any (inserts_key write.key) earlier)) op ∙ tests
