-- What is kept tells of one entry more, once this is stamped.
use Rattle.std.proofs.Common.{◌≡◌, ℕ, ◌+◌, ◌<◌, ◌≤◌, nat_lt, Bool, true, false, if◌then◌else◌, List, [], ◌∷◌, ◌++◌, length, drop, Option, Some, None, refl, sym, ap, ◌∙◌, length-append, arith}
use Rattle.std.proofs.lemmas.Bool.{lt-ltb, le-ltb, ltb-true, ltb-false}
use Rattle.std.proofs.lemmas.List.{drop-append-le, drop_all}
use Rattle.ct_types.specs.declared.entry.Act.{Act}
use Rattle.ct_types.specs.declared.entry.Entry.{Entry}
use Rattle.ct_conflicts.specs.Conflicts.{alters, writes_key, last_number}
use Rattle.ct_conflicts.specs.Later.{last_alter, last_write, number_after, IsLater}
use Rattle.ct_conflicts.specs.Stamped.{IsStamped}
use Rattle.ct_conflicts.specs.declared.stamps.Stamp.{Stamp}
use Rattle.ct_conflicts.specs.declared.stamps.TableStamps.{TableStamps}

last_append : (test : Act → Bool) (before : Option ℕ) (xs ys : List Entry) → last_number test before (xs ++ ys) ≡ last_number test (last_number test before xs) ys
last_append test before [] ys = refl
last_append test before (x ∷ xs) ys = last_append test (if test x.act then Some x.xdes else before) xs ys

-- a view that the entry is after
after_view : (hit : Bool) (view : ℕ) (xdes : ℕ) (found : Option ℕ) (old new : Option Stamp) (stamp : Stamp) → view < stamp.at → stamp.xdes ≡ xdes → found ≡ number_after view old
    → new ≡ (if hit then Some stamp else old) → (if hit then Some xdes else found) ≡ number_after view new
after_view true view xdes found old new stamp below same before is =
    let late : nat_lt view stamp.at ≡ true = lt-ltb view stamp.at below in
    ap Some (sym same) ∙ sym (ap (number_after view) is ∙ ap (λ b. if b then Some stamp.xdes else None) late)
after_view false view xdes found old new stamp below same before is = before ∙ ap (number_after view) (sym is)

-- a view that sees it
at_view : (hit : Bool) (view : ℕ) (old new : Option Stamp) (stamp : Stamp) → stamp.at ≤ view → None ≡ number_after view old → new ≡ (if hit then Some stamp else old) → None ≡ number_after view new
at_view true view old new stamp above before is =
    let late : nat_lt view stamp.at ≡ false = le-ltb view stamp.at above in
    sym (ap (number_after view) is ∙ ap (λ b. if b then Some stamp.xdes else None) late)
at_view false view old new stamp above before is = before ∙ ap (number_after view) (sym is)

module _ (past : List Entry) (entry : Entry) (stamp : Stamp) (at : stamp.at ≡ length past + 1) (same : stamp.xdes ≡ entry.xdes) where
  more_told : (test : Act → Bool) (view : ℕ) (old new : Option Stamp) → last_number test None (drop view past) ≡ number_after view old → new ≡ (if test entry.act then Some stamp else old)
      → last_number test None (drop view (past ++ entry ∷ [])) ≡ number_after view new
  more_told test view old new before is =
      let step : (b : Bool) → nat_lt view stamp.at ≡ b → last_number test None (drop view (past ++ entry ∷ [])) ≡ number_after view new =
      elim [
        | true ↦ (λ e.
            let below : view < stamp.at = ltb-true view stamp.at e in
            let within : view ≤ length past = omega arith in
            ap (last_number test None) (drop-append-le view past (entry ∷ []) within)
            ∙ last_append test None (drop view past) (entry ∷ [])
            ∙ after_view (test entry.act) view entry.xdes (last_number test None (drop view past)) old new stamp below same before is)
        | false ↦ (λ e.
            let above : stamp.at ≤ view = ltb-false view stamp.at e in
            let over : length (past ++ entry ∷ []) ≤ view = rw (length-append past (entry ∷ [])) (omega arith) in
            let gone : drop view past ≡ [] = drop_all view past (omega arith) in
            ap (last_number test None) (drop_all view (past ++ entry ∷ []) over)
            ∙ at_view (test entry.act) view old new stamp above (sym (ap (last_number test None) gone) ∙ before) is)
      ] in
      step (nat_lt view stamp.at) refl

  pub more_later : (old new : List TableStamps) (from : ℕ) → IsStamped new old stamp (λ table key. writes_key table key entry.act) (λ table. alters table entry.act)
      → IsLater old past from → IsLater new (past ++ entry ∷ []) from
  more_later old new from stamped later = record {
    tells = λ view above. record {
      written = λ table key. more_told (writes_key table key) view (last_write old table key) (last_write new table key) ((later.tells view above).written table key) (stamped.keys table key);
      altered = λ table. more_told (alters table) view (last_alter old table) (last_alter new table) ((later.tells view above).altered table) (stamped.tables table);
    };
  }
