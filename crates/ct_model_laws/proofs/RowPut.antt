-- A row, or none, that is put at its key is what the key has then; and what writes of a table leave at a key.
use Rattle.std.proofs.Common.{◌≡◌, ◌↔◌, ℕ, Bool, true, false, cond, eqb, eqb-true, eq-eqb, List, [], ◌∷◌, ◌++◌, map, filter, find, Option, None, Some, option_to_list, is_some, refl, sym, ap, ◌∙◌, subst, ◌==◌}
use Rattle.std.specs.Option.{option_or}
use Rattle.std.specs.Ordering.{is_lt, is_eq, is_gt}
use Rattle.std.specs.declared.cmp.Ordering.{Ordering}
use Rattle.std.specs.declared.cmp.Ordering.TheVariants.{Less, Equal, Greater}
use Rattle.std.proofs.lemmas.Cmp.{tied_itself}
use Rattle.std.proofs.lemmas.List.Folds.{find-append}
use Rattle.ct_types.specs.Order.{key_cmp}
use Rattle.ct_types.proofs.Orders.{key_cmp_total, key_cmp_exact}
use Rattle.ct_types.specs.declared.value.Key.{Key}
use Rattle.ct_types.specs.declared.value.Row.{Row}
use Rattle.ct_types.specs.declared.schema.Schema.{Schema}
use Rattle.ct_types.specs.declared.entry.Change.{Change}
use Rattle.ct_types.specs.declared.entry.Op.{Op}
use Rattle.ct_types.specs.declared.entry.Op.TheVariants.{Insert, Update, Delete}
use Rattle.ct_types.specs.declared.entry.Write.{Write}
use Rattle.ct_model.specs.declared.db.Dated.{Dated}
use Rattle.ct_model.specs.declared.db.Table.{Table}
use Rattle.ct_model.specs.Applies.{RowIsOf, WriteFits}
use Rattle.ct_model.specs.Apply.{change_of, written}
use Rattle.ct_model.specs.Net.{last_of, window}
use Rattle.ct_model.specs.Tables.{has_that_key, key_of, row_at, rows_with}
use Rattle.ct_model.proofs.Members.{all_weaken}
use Rattle.ct_model.proofs.Rising.{IsAt, equal_of}
use Rattle.ct_model.proofs.RowAt.{row_stays}
use Rattle.ct_model_laws.proofs.Fitting.{written_row}
use Rattle.ct_model_laws.proofs.Following.{after_writes, written_schema, written_tracked}
use Rattle.ct_model_laws.proofs.Moving.{WritesOn}

-- ---- the row that is put

find_none : {X : Type 0} (p q : X → Bool) → ((x : X) → q x ≡ true → p x ≡ false) → (xs : List X) → find p (filter q xs) ≡ None
find_none p q fails [] = refl
find_none p q fails (x ∷ xs) =
    let step : (b : Bool) → b ≡ q x → find p (cond b (x ∷ filter q xs) (filter q xs)) ≡ None =
    elim [ true ↦ (λ e. rw (fails x (sym e)) (find_none p q fails xs)) | false ↦ (λ e. find_none p q fails xs) ] in
    step (q x) refl

lesser_other : (o : Ordering) → is_lt o ≡ true → is_eq o ≡ false
lesser_other Less e = refl
lesser_other Equal e = cc
lesser_other Greater e = cc

greater_other : (o : Ordering) → is_gt o ≡ true → is_eq o ≡ false
greater_other Less e = cc
greater_other Equal e = cc
greater_other Greater e = refl

is_itself : (key : Key) → is_eq (key_cmp key key) ≡ true
is_itself key = ap is_eq (tied_itself key_cmp_total key)

put_found : (schema : Schema) (key : Key) (row : Option Row) → IsAt schema key row → find (has_that_key schema key) (option_to_list row) ≡ row
put_found schema key None at = refl
put_found schema key (Some row) at = rw (ap (λ k. is_eq (key_cmp k key)) at.0 ∙ is_itself key) refl

joined : (o p q r : Option Row) → o ≡ None → p ≡ r → q ≡ None → option_or (option_or o p) q ≡ r
joined None None q r e f g = g ∙ f
joined None (Some x) q r e f g = f
joined (Some x) p q r e f g = cc

row_put : (schema : Schema) (rows : List Row) (key : Key) (row : Option Row) → IsAt schema key row → row_at schema (rows_with schema rows key row) key ≡ row
row_put schema rows key row at =
    let here : Row → Bool = has_that_key schema key in
    let lows : List Row = filter (λ r. is_lt (key_cmp (key_of schema r) key)) rows in
    let highs : List Row = filter (λ r. is_gt (key_cmp (key_of schema r) key)) rows in
    find-append here (lows ++ option_to_list row) highs ∙ ap (λ o. option_or o (find here highs)) (find-append here lows (option_to_list row))
    ∙ joined (find here lows) (find here (option_to_list row)) (find here highs) row
    (find_none here (λ r. is_lt (key_cmp (key_of schema r) key)) (λ r e. lesser_other _ e) rows) (put_found schema key row at)
    (find_none here (λ r. is_gt (key_cmp (key_of schema r) key)) (λ r e. greater_other _ e) rows)

-- a write is a delete exactly where it has no row
none_deletes : (schema : Schema) (op : Op) (key : Key) (row : Option Row) → RowIsOf schema op key row → (op ≡ Delete) ↔ (row ≡ None)
none_deletes schema Insert key None is = elim is [ ]
none_deletes schema Insert key (Some row) is = (λ e. cc, λ e. cc)
none_deletes schema Update key None is = elim is [ ]
none_deletes schema Update key (Some row) is = (λ e. cc, λ e. cc)
none_deletes schema Delete key None is = (λ e. refl, λ e. refl)
none_deletes schema Delete key (Some row) is = elim is [ ]

-- ---- what the last of some changes of a key leaves

-- the last change is a delete exactly where the key has no row after it; where there is none, the row is the old one
abbrev pub Leaves : Option Dated → Option Row → Option Row → Type 0
Leaves None old new = new ≡ old
Leaves (Some last) old new = (last.change.op ≡ Delete) ↔ (new ≡ None)

leaves_more : (one : Dated) (more : List Dated) (mid old new : Option Row) → Leaves (last_of (one ∷ more)) mid new → Leaves (last_of (one ∷ more)) old new
leaves_more one [] mid old new leaves = leaves
leaves_more one (next ∷ more) mid old new leaves = leaves_more next more mid old new leaves

leaves_next : (one : Dated) (more : List Dated) (old mid new : Option Row) → Leaves (Some one) old mid → Leaves (last_of more) mid new
    → Leaves (last_of (one ∷ more)) old new
leaves_next one [] old mid new first later = subst (λ row. (one.change.op ≡ Delete) ↔ (row ≡ None)) (sym later) first
leaves_next one (next ∷ more) old mid new first later = leaves_more next more mid old new later

-- ---- a write

abbrev pub dated_of : ℕ → Write → Dated
dated_of version write = record { version = version; change = change_of write }

-- the dated changes of a table
abbrev pub dated_here : ℕ → ℕ → List Change → List Dated
dated_here id version changes = map (λ change. record { version = version; change = change }) (filter (λ change. change.table == id) changes)

is_at : (t : Table) (write : Write) → WriteFits write t → IsAt t.schema write.key write.row
is_at t write fits = all_weaken _ (λ r. key_of t.schema r ≡ write.key) (λ r is. is.1) _ (written_row t.schema write.op write.key write.row fits.row)

write_else : (t : Table) (write : Write) (key : Key) → (t.schema.id ≡ write.table → ⊥) → row_at t.schema (written write t).rows key ≡ row_at t.schema t.rows key
write_else t write key other =
    let step : (b : Bool) → b ≡ eqb t.schema.id write.table → row_at t.schema (cond b (record t { rows = rows_with t.schema t.rows write.key write.row }) t).rows key ≡ row_at t.schema t.rows key =
    elim [ true ↦ (λ e. absurd (other (eqb-true _ _ (sym e)))) | false ↦ (λ e. refl) ] in
    step (eqb t.schema.id write.table) refl

write_here : (t : Table) (write : Write) (key : Key) → t.schema.id ≡ write.table
    → row_at t.schema (written write t).rows key ≡ row_at t.schema (rows_with t.schema t.rows write.key write.row) key
write_here t write key here = rw (eq-eqb t.schema.id write.table here) refl

write_beside : (t : Table) (write : Write) (key : Key) → t.schema.id ≡ write.table → WriteFits write t → is_eq (key_cmp write.key key) ≡ false
    → row_at t.schema (written write t).rows key ≡ row_at t.schema t.rows key
write_beside t write key here fits other =
    write_here t write key here
    ∙ row_stays t.schema t.rows write.key key write.row (is_at t write fits) (λ same. cc (other, ap (λ k. is_eq (key_cmp k key)) same, is_itself key))

write_leaves : (t : Table) (version : ℕ) (write : Write) (key : Key) (old : Option Row) → t.schema.id ≡ write.table → WriteFits write t
    → is_eq (key_cmp write.key key) ≡ true → Leaves (Some (dated_of version write)) old (row_at t.schema (written write t).rows key)
write_leaves t version write key old here fits same =
    let key_is : write.key ≡ key = key_cmp_exact write.key key (equal_of _ same) in
    let put : row_at t.schema (written write t).rows key ≡ write.row =
    write_here t write key here
    ∙ subst (λ k. row_at t.schema (rows_with t.schema t.rows write.key write.row) k ≡ write.row) key_is (row_put t.schema t.rows write.key write.row (is_at t write fits)) in
    subst (λ row. (write.op ≡ Delete) ↔ (row ≡ None)) (sym put) (none_deletes t.schema write.op write.key write.row fits.row)

-- ---- writes

-- a write and those after it, where these leave something
next_leaves : (t : Table) (version : ℕ) (write : Write) (more : List Change) (key : Key) (new : Option Row) → is_some t.tracked ≡ true
    → (t.schema.id ≡ write.table → WriteFits write t)
    → Leaves (last_of (window (dated_here t.schema.id version more) key)) (row_at t.schema (written write t).rows key) new
    → (b : Bool) → b ≡ write.tracked
    → Leaves (last_of (window (dated_here t.schema.id version (cond b (change_of write ∷ more) more)) key)) (row_at t.schema t.rows key) new
next_leaves t version write more key new on fits later = tracked
  where
    stay : row_at t.schema (written write t).rows key ≡ row_at t.schema t.rows key
        → Leaves (last_of (window (dated_here t.schema.id version more) key)) (row_at t.schema t.rows key) new
    stay same = subst (λ old. Leaves (last_of (window (dated_here t.schema.id version more) key)) old new) same later

    keyed : t.schema.id ≡ write.table → (b : Bool) → b ≡ is_eq (key_cmp write.key key)
        → Leaves (last_of (cond b (dated_of version write ∷ window (dated_here t.schema.id version more) key) (window (dated_here t.schema.id version more) key))) (row_at t.schema t.rows key) new
    keyed here true e =
        leaves_next (dated_of version write) (window (dated_here t.schema.id version more) key) (row_at t.schema t.rows key) _ new
        (write_leaves t version write key (row_at t.schema t.rows key) here (fits here) (sym e)) later
    keyed here false e = stay (write_beside t write key here (fits here) (sym e))

    tabled : (b : Bool) → b ≡ eqb write.table t.schema.id
        → Leaves (last_of (window (map (λ change. record { version = version; change = change }) (cond b (change_of write ∷ filter (λ change. change.table == t.schema.id) more) (filter (λ change. change.table == t.schema.id) more))) key)) (row_at t.schema t.rows key) new
    tabled true e = keyed (sym (eqb-true _ _ (sym e))) (is_eq (key_cmp write.key key)) refl
    tabled false e = stay (write_else t write key (λ same. cc (e, eq-eqb write.table t.schema.id (sym same))))

    tracked : (b : Bool) → b ≡ write.tracked
        → Leaves (last_of (window (dated_here t.schema.id version (cond b (change_of write ∷ more) more)) key)) (row_at t.schema t.rows key) new
    tracked true e = tabled (eqb write.table t.schema.id) refl
    tracked false e = stay (write_else t write key (λ same. let fit : WriteFits write t = fits same in let is : write.tracked ≡ is_some t.tracked = fit.tracked in cc))

map_cond : (b : Bool) (write : Write) (more : List Write) → map change_of (cond b (write ∷ more) more) ≡ cond b (change_of write ∷ map change_of more) (map change_of more)
map_cond true write more = refl
map_cond false write more = refl

pub writes_leave : (writes : List Write) (t : Table) (version : ℕ) (key : Key) → is_some t.tracked ≡ true → WritesOn writes t
    → Leaves (last_of (window (dated_here t.schema.id version (map change_of (filter (λ write. write.tracked) writes))) key)) (row_at t.schema t.rows key)
    (row_at t.schema (after_writes writes t).rows key)
writes_leave [] t version key on fits = refl
writes_leave (write ∷ writes) t version key on fits =
    let more : List Change = map change_of (filter (λ write. write.tracked) writes) in
    let later : Leaves (last_of (window (dated_here t.schema.id version more) key)) (row_at t.schema (written write t).rows key) (row_at t.schema (after_writes writes (written write t)).rows key) =
    subst (λ s. Leaves (last_of (window (dated_here s.id version more) key)) (row_at s (written write t).rows key) (row_at s (after_writes writes (written write t)).rows key)) (written_schema write t)
    (writes_leave writes (written write t) version key (ap is_some (written_tracked write t) ∙ on) fits.1) in
    subst (λ changes. Leaves (last_of (window (dated_here t.schema.id version changes) key)) (row_at t.schema t.rows key) (row_at t.schema (after_writes writes (written write t)).rows key))
    (sym (map_cond write.tracked write (filter (λ write. write.tracked) writes)))
    (next_leaves t version write more key _ on fits.0 later write.tracked refl)
