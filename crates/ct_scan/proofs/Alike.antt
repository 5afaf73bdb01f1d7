-- The pairs of a table's rows, which rise by their key, with right rows that pin it to values that rise.
use Rattle.std.proofs.Common.{◌≡◌, ℕ, ◌+◌, ◌<◌, ◌≤◌, Bool, true, false, cond, List, [], ◌∷◌, length, Option, Some, None, option_to_list, Ok, Err, refl, sym, ap, subst, ◌∙◌, inl, inr, if◌then◌else◌, arith}
use Rattle.std.specs.List.{AllByRecursion, filter}
use Rattle.std.specs.declared.cmp.Ordering.{Ordering}
use Rattle.std.specs.declared.cmp.Ordering.TheVariants.{Less, Equal, Greater}
use Rattle.std.specs.Ordering.{is_eq, ordering_reverse, ordering_then}
use Rattle.ct_types.proofs.Lists.{all_join}
use Rattle.ct_types.proofs.Orders.{value_cmp_total, key_cmp_total}
use Rattle.ct_types.specs.Answers.{Answer, ◌>>=◌}
use Rattle.ct_types.specs.Order.{value_cmp, key_cmp}
use Rattle.ct_types.specs.declared.bound.BoundExpr.{BoundExpr}
use Rattle.ct_types.specs.declared.schema.Schema.{Schema}
use Rattle.ct_types.specs.declared.value.Key.{Key}
use Rattle.ct_types.specs.declared.value.Row.{Row}
use Rattle.ct_types.specs.declared.value.Value.{Value}
use Rattle.ct_model.proofs.Members.{all_weaken}
use Rattle.ct_model.specs.Tables.{key_of}
use Rattle.ct_model.specs.Valid.{AreRising}
use Rattle.ct_source.specs.Cells.{or_null, has_value}
use Rattle.ct_source.specs.Rows.{HasKeyColumns, IsWhole}
use Rattle.ct_source.proofs.OneColumn.{one_has_value}
use Rattle.ct_expr.specs.Environment.{Environment}
use Rattle.ct_expr.specs.Meaning.{World, holds}
use Rattle.ct_expr.specs.Numbers.{is_null}
use Rattle.ct_scan.specs.Enough.{StandAlike, pair_row}
use Rattle.ct_scan.specs.Steps.{pin_of, with_pinned, IsAbove, PinsRise}
use Rattle.ct_scan.proofs.Candidates.{pinned_are_lefts}
use Rattle.ct_scan.proofs.Crossing as crossing

-- ---- values that rise

value_there : (last o : Option Value) → IsAbove last o → o ≡ Some (or_null o)
value_there last None above = absurd above
value_there None (Some v) above = refl
value_there (Some u) (Some v) above = refl

above_last : (u : Value) (o : Option Value) → IsAbove (Some u) o → value_cmp u (or_null o) ≡ Less
above_last u None above = absurd above
above_last u (Some v) above = above

-- a condition that keeps none of one row is false on it
false_on : (row : Row) (asked : Answer Bool) → Ok [] ≡ (asked >>= (λ passes. Ok (if passes then row ∷ [] else []))) → asked ≡ Ok false
false_on row (Err refusal) e = absurd cc
false_on row (Ok true) e = absurd cc
false_on row (Ok false) e = refl

-- ---- keys before and behind others

less_first : (a b c : Key) → key_cmp a b ≡ Equal → key_cmp b c ≡ Less → key_cmp a c ≡ Less
less_first a b c same less = key_cmp_total.congr a b c same ∙ less

turned_less : (a b : Key) → key_cmp a b ≡ Less → key_cmp b a ≡ Greater
turned_less a b less = key_cmp_total.antisymm b a ∙ ap ordering_reverse less

greater_next : (a b c : Key) → key_cmp a b ≡ Greater → key_cmp a c ≡ Less → key_cmp c b ≡ Greater
greater_next a b c greater less = turned_less b c (key_cmp_total.trans b a c (key_cmp_total.antisymm b a ∙ ap ordering_reverse greater) less)

equal_next : (a b c : Key) → key_cmp a b ≡ Equal → key_cmp a c ≡ Less → key_cmp c b ≡ Greater
equal_next a b c same less = turned_less b c (sym (key_cmp_total.congr a b c same) ∙ less)

one_value : (u v : Value) → value_cmp u v ≡ Less → key_cmp (record { 0 = u ∷ [] }) (record { 0 = v ∷ [] }) ≡ Less
one_value u v less = ap (λ (o : Ordering). ordering_then o Equal) less

-- ---- rows of a table and right rows

module _ (world : World) (schema : Schema) (at : ℕ) (on : BoundExpr) (columns : HasKeyColumns schema) (only_key : schema.key ≡ (at + 1) ∷ []) where
  abbrev pin : Row → Option Value
  pin right = pin_of world.env on at (length schema.columns) right

  abbrev wanted : Row → Key
  wanted right = record { 0 = or_null (pin right) ∷ [] }

  abbrev key : Row → Key
  key left = key_of schema left

  abbrev test : Row → Answer Bool
  test row = holds world (Some on) row

  abbrev IsPinned : Row → Type 0
  IsPinned right = pin right ≡ Some (or_null (pin right))

  abbrev Fails : Row → Row → Type 0
  Fails left right = crossing.Fails pair_row test left right

  within : at < length schema.columns
  within = let place = (subst (λ (ids : List ℕ). AllByRecursion (λ id. (1 ≤ id) × (id ≤ length schema.columns)) ids) only_key columns).0 in omega arith

  still_none : (null : Bool) (kept : List Row) → [] ≡ kept → [] ≡ (if null then [] else kept)
  still_none true kept e = refl
  still_none false kept e = e

  -- a row with another key makes no pair
  fails : (left right : Row) → IsWhole schema left → IsPinned right → is_eq (key_cmp (key left) (wanted right)) ≡ false → Fails left right
  fails left right whole pins apart =
      let value = or_null (pin right) in
      let none : [] ≡ filter (has_value at value) (left ∷ []) =
      sym (one_has_value schema (left ∷ []) at value (tt, tt) (whole, tt) columns only_key ∙ ap (λ (b : Bool). option_to_list (cond b (Some left) None)) apart) in
      let asked : [] ≡ with_pinned at (pin right) (left ∷ []) =
      still_none (is_null value) (filter (has_value at value) (left ∷ [])) none ∙ ap (λ (o : Option Value). with_pinned at o (left ∷ [])) (sym pins) in
      false_on left (test (pair_row left right)) (pinned_are_lefts world.env (length schema.columns) at on right (left ∷ []) [] within (whole, tt) asked world refl)

  abbrev Rises : Row → Row → Type 0
  Rises left later = key_cmp (key left) (key later) ≡ Less

  abbrev PinsAbove : Row → Row → Type 0
  PinsAbove right later = key_cmp (wanted right) (wanted later) ≡ Less

  meets_at : (o : Ordering) (left : Row) (lefts : List Row) (right : Row) (rights : List Row) → key_cmp (key left) (wanted right) ≡ o
      → IsWhole schema left → AllByRecursion (IsWhole schema) lefts → IsPinned right → AllByRecursion IsPinned rights
      → AllByRecursion (Rises left) lefts → AllByRecursion (PinsAbove right) rights → crossing.Meets pair_row test left lefts right rights
  meets_at Less left lefts right rights is whole wholes pins all_pin rise above =
      inl (
        fails left right whole pins (ap is_eq is),
        all_join IsPinned (PinsAbove right) (Fails left) (λ later p a. fails left later whole p (ap is_eq (key_cmp_total.trans (key left) (wanted right) (wanted later) is a))) rights all_pin above,
      )
  meets_at Greater left lefts right rights is whole wholes pins all_pin rise above =
      inr (inl (
        fails left right whole pins (ap is_eq is),
        all_join (IsWhole schema) (Rises left) (λ later. Fails later right) (λ later w r. fails later right w pins (ap is_eq (greater_next (key left) (wanted right) (key later) is r))) lefts wholes rise,
      ))
  meets_at Equal left lefts right rights is whole wholes pins all_pin rise above =
      inr (inr (
        all_join IsPinned (PinsAbove right) (Fails left) (λ later p a. fails left later whole p (ap is_eq (less_first (key left) (wanted right) (wanted later) is a))) rights all_pin above,
        all_join (IsWhole schema) (Rises left) (λ later. Fails later right) (λ later w r. fails later right w pins (ap is_eq (equal_next (key left) (wanted right) (key later) is r))) lefts wholes rise,
      ))

  at_right : (lefts : List Row) (right : Row) (rights : List Row) → AreRising schema lefts → AllByRecursion (IsWhole schema) lefts
      → IsPinned right → AllByRecursion IsPinned rights → AllByRecursion (PinsAbove right) rights → crossing.AtRight pair_row test lefts right rights
  at_right [] right rights rising whole pins all_pin above = tt
  at_right (left ∷ lefts) right rights rising whole pins all_pin above =
      (meets_at (key_cmp (key left) (wanted right)) left lefts right rights refl whole.0 whole.1 pins all_pin rising.0 above, at_right lefts right rights rising.1 whole.1 pins all_pin above)

  all_pinned : (last : Option Value) (rights : List Row) → PinsRise world.env on at (length schema.columns) last rights → AllByRecursion IsPinned rights
  all_pinned last [] rise = tt
  all_pinned last (right ∷ rights) rise = (value_there last (pin right) rise.0, all_pinned (pin right) rights rise.1)

  values_above : (u : Value) (rights : List Row) → PinsRise world.env on at (length schema.columns) (Some u) rights → AllByRecursion (λ (later : Row). value_cmp u (or_null (pin later)) ≡ Less) rights
  values_above u [] rise = tt
  values_above u (right ∷ rights) rise =
      let less : value_cmp u (or_null (pin right)) ≡ Less = above_last u (pin right) rise.0 in
      let from_here : PinsRise world.env on at (length schema.columns) (Some (or_null (pin right))) rights =
      subst (λ (o : Option Value). PinsRise world.env on at (length schema.columns) o rights) (value_there (Some u) (pin right) rise.0) rise.1 in (
        less,
        all_weaken (λ (later : Row). value_cmp (or_null (pin right)) (or_null (pin later)) ≡ Less) (λ (later : Row). value_cmp u (or_null (pin later)) ≡ Less)
            (λ later more. value_cmp_total.trans u (or_null (pin right)) (or_null (pin later)) less more) rights (values_above (or_null (pin right)) rights from_here),
      )

  uncrossed : (lefts rights : List Row) (last : Option Value) → AreRising schema lefts → AllByRecursion (IsWhole schema) lefts
      → PinsRise world.env on at (length schema.columns) last rights → crossing.Uncrossed pair_row test lefts rights
  uncrossed lefts [] last rising whole rise = tt
  uncrossed lefts (right ∷ rights) last rising whole rise =
      let there : IsPinned right = value_there last (pin right) rise.0 in
      let from_here : PinsRise world.env on at (length schema.columns) (Some (or_null (pin right))) rights =
      subst (λ (o : Option Value). PinsRise world.env on at (length schema.columns) o rights) there rise.1 in
      let above : AllByRecursion (PinsAbove right) rights =
      all_weaken (λ (later : Row). value_cmp (or_null (pin right)) (or_null (pin later)) ≡ Less) (PinsAbove right) (λ later less. one_value (or_null (pin right)) (or_null (pin later)) less) rights
      (values_above (or_null (pin right)) rights from_here) in
      (at_right lefts right rights rising whole there (all_pinned (pin right) rights rise.1) above, uncrossed lefts rights (pin right) rising whole rise.1)

pub pins_stand_alike : (env : Environment) (schema : Schema) (at : ℕ) (on : BoundExpr) (lefts rights : List Row) → HasKeyColumns schema → schema.key ≡ (at + 1) ∷ []
    → AreRising schema lefts → AllByRecursion (IsWhole schema) lefts → PinsRise env on at (length schema.columns) None rights → StandAlike env (Some on) lefts rights
pins_stand_alike env schema at on lefts rights columns only_key rising whole rise world is =
    let here : PinsRise world.env on at (length schema.columns) None rights = subst (λ (e : Environment). PinsRise e on at (length schema.columns) None rights) (sym is) rise in
    crossing.stand_alike pair_row (holds world (Some on)) lefts rights (uncrossed world schema at on columns only_key lefts rights None rising whole here)
