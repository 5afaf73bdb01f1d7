-- Rows stay in rising order of keys, and go on to fit, where a row or none is put at its key.
use Rattle.std.proofs.Common.{◌≡◌, ◌++◌, List, Bool, true, filter, Option, None, Some, refl, sym, ap, ◌∙◌, subst}
use Rattle.std.specs.List.{AllByRecursion}
use Rattle.std.specs.Option.{option_to_list}
use Rattle.std.specs.declared.cmp.Ordering.{Ordering}
use Rattle.std.specs.declared.cmp.Ordering.TheVariants.{Less, Equal, Greater}
use Rattle.std.specs.Ordering.{is_lt, is_eq, is_gt, ordering_reverse}
use Rattle.ct_types.specs.Order.{key_cmp}
use Rattle.ct_types.proofs.Orders.{key_cmp_total}
use Rattle.ct_types.specs.declared.value.Key.{Key}
use Rattle.ct_types.specs.declared.value.Row.{Row}
use Rattle.ct_types.specs.declared.schema.Schema.{Schema}
use Rattle.ct_model.specs.Schemas.{RowFits}
use Rattle.ct_model.specs.Tables.{key_of, rows_with}
use Rattle.ct_model.specs.Valid.{AreRising}
use Rattle.ct_types.proofs.Lists.{all_everywhere, all_append}
use Rattle.ct_model.proofs.Members.{all_weaken, all_filter, each_filter, each_append}

pub less_of : (o : Ordering) → is_lt o ≡ true → o ≡ Less
less_of Less e = refl
less_of Equal e = cc
less_of Greater e = cc

pub equal_of : (o : Ordering) → is_eq o ≡ true → o ≡ Equal
equal_of Less e = cc
equal_of Equal e = refl
equal_of Greater e = cc

pub greater_of : (o : Ordering) → is_gt o ≡ true → o ≡ Greater
greater_of Less e = cc
greater_of Equal e = cc
greater_of Greater e = refl

pub turned : (a b : Key) → key_cmp a b ≡ Greater → key_cmp b a ≡ Less
turned a b e = key_cmp_total.antisymm b a ∙ ap ordering_reverse e

-- a row has this key, where there is one
abbrev pub IsAt : Schema → Key → Option Row → Type 0
IsAt schema key row = AllByRecursion (λ r. key_of schema r ≡ key) (option_to_list row)

one_rises : (schema : Schema) (row : Option Row) → AreRising schema (option_to_list row)
one_rises schema None = tt
one_rises schema (Some row) = (tt, tt)

pub rows_rise : (schema : Schema) (rows : List Row) (key : Key) (row : Option Row) → AreRising schema rows → IsAt schema key row
    → AreRising schema (rows_with schema rows key row)
rows_rise schema rows key row rising at =
    let R : Row → Row → Type 0 = (λ a b. key_cmp (key_of schema a) (key_of schema b) ≡ Less) in
    let is_low : Row → Bool = (λ r. is_lt (key_cmp (key_of schema r) key)) in
    let is_high : Row → Bool = (λ r. is_gt (key_cmp (key_of schema r) key)) in
    let lows : List Row = filter is_low rows in
    let mids : List Row = option_to_list row in
    let highs : List Row = filter is_high rows in
    let below : AllByRecursion (λ r. key_cmp (key_of schema r) key ≡ Less) lows =
    all_filter (λ r. Unit {0}) _ is_low (λ r e u. less_of _ e) rows (all_everywhere _ (λ r. tt) rows) in
    let above : AllByRecursion (λ r. key_cmp key (key_of schema r) ≡ Less) highs =
    all_filter (λ r. Unit {0}) _ is_high (λ r e u. turned (key_of schema r) key (greater_of _ e)) rows (all_everywhere _ (λ r. tt) rows) in
    let low_mid : AllByRecursion (λ a. AllByRecursion (R a) mids) lows =
    all_weaken _ _ (λ a low. all_weaken _ _ (λ b e. subst (λ k. key_cmp (key_of schema a) k ≡ Less) (sym e) low) mids at) lows below in
    let low_high : AllByRecursion (λ a. AllByRecursion (R a) highs) lows =
    all_weaken _ _ (λ a low. all_weaken _ _ (λ b high. key_cmp_total.trans (key_of schema a) key (key_of schema b) low high) highs above) lows below in
    let mid_high : AllByRecursion (λ a. AllByRecursion (R a) highs) mids =
    all_weaken _ _ (λ a e. all_weaken _ _ (λ b high. subst (λ k. key_cmp k (key_of schema b) ≡ Less) (sym e) high) highs above) mids at in
    each_append R (lows ++ mids) highs (each_append R lows mids (each_filter R is_low rows rising) (one_rises schema row) low_mid)
    (each_filter R is_high rows rising) (all_append _ lows mids low_high mid_high)

pub rows_fit : (schema : Schema) (rows : List Row) (key : Key) (row : Option Row) → AllByRecursion (RowFits schema) rows
    → AllByRecursion (RowFits schema) (option_to_list row) → AllByRecursion (RowFits schema) (rows_with schema rows key row)
rows_fit schema rows key row fit here =
    let lows = filter (λ r. is_lt (key_cmp (key_of schema r) key)) rows in
    let highs = filter (λ r. is_gt (key_cmp (key_of schema r) key)) rows in
    all_append (RowFits schema) (lows ++ option_to_list row) highs (all_append (RowFits schema) lows (option_to_list row) (all_filter _ _ _ (λ r e fits. fits) rows fit) here)
    (all_filter _ _ _ (λ r e fits. fits) rows fit)
