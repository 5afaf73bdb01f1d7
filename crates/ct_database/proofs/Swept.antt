-- The first chunk is removed, of which no table needs a commit: what counts stays the same.
use Rattle.std.proofs.Common.{◌≡◌, ℕ, ◌<◌, ◌≤◌, inr, true, false, List, [], ◌∷◌, ◌++◌, map, Option, None, Some, refl, sym, ap, ap₂, ◌∙◌, subst, append_assoc, arith, tests}
use Rattle.std.specs.Prelude.{Result, Ok, Err, IfOk, OnErr}
use Rattle.std.specs.List.{AllByRecursion}
use Rattle.std.specs.declared.sync.Arc.{Arc}
use Rattle.std.specs.declared.cmp.Ordering.TheVariants.{Equal}
use Rattle.std.proofs.lemmas.Cmp.{tied_itself}
use Rattle.ct_types.specs.Order.{key_cmp}
use Rattle.ct_types.proofs.Lists.{all_back}
use Rattle.ct_types.proofs.Orders.{key_cmp_total}
use Rattle.ct_types.specs.declared.value.Key.{Key}
use Rattle.ct_types.specs.declared.tracked.Tracked.{Tracked}
use Rattle.ct_types.specs.declared.entry.Kept.{Kept}
use Rattle.ct_model.specs.declared.db.Table.{Table}
use Rattle.ct_model.specs.Apply.{commit_stays, trim, trim_one}
use Rattle.ct_model.specs.Tables.{is_above}
use Rattle.ct_model.proofs.Members.{all_weaken}
use Rattle.ct_ptree.specs.declared.pair.Pair.{Pair}
use Rattle.ct_ptree.specs.Pairs.{Ascends, AllAbove, without}
use Rattle.ct_ptree.proofs.Around.{lows_of_high, highs_of_high}
use Rattle.ct_ptree.proofs.Lists.{filter_none}
use Rattle.ct_ptree.proofs.Rising.{above_rest}
use Rattle.ct_database.specs.Steps.{AreAtLasts, AreNewest, AreUnneeded, AreWithin, BeginsUnneeded, EndsWith, Rise, commits_of, gone_of}
use Rattle.ct_database.proofs.Needs.{or_weaker}
use Rattle.ct_database.proofs.Rising.{rise_back, ends_within}
use Rattle.ct_database.proofs.Trimmed.{fails_too, trim_joined}

-- ---- what no table needs

above_later : (one later : ℕ) (tracked : Option Tracked) → one ≤ later → is_above one tracked ≡ true → is_above later tracked ≡ true
above_later one later None le e = e
above_later one later (Some tracked) le e = search (tests, arith)

-- a later commit is needed where an earlier one is
stays_later : (tables : List Table) (one later : Kept) → one.version ≤ later.version → commit_stays tables one ≡ true → commit_stays tables later ≡ true
stays_later [] one later le e = e
stays_later (table ∷ tables) one later le e =
    or_weaker (is_above one.version table.tracked) (commit_stays tables one) (is_above later.version table.tracked) (commit_stays tables later)
    (above_later one.version later.version table.tracked le) (stays_later tables one later le) e

-- where no table needs the last commit, none needs one
pub all_unneeded : (tables : List Table) (commits : List Kept) (last : Kept) → EndsWith last commits → Rise commits → commit_stays tables last ≡ false → AreUnneeded tables commits
all_unneeded tables commits last ends rising none =
    all_weaken (λ (one : Kept). one.version ≤ last.version) (λ (one : Kept). commit_stays tables one ≡ false)
    (λ one le. fails_too (commit_stays tables last) (commit_stays tables one) (stays_later tables one last le) (sym none)) commits (ends_within commits last ends rising)

-- ---- the first chunk

pub without_head : {V : Type 0} (key : Key) (first : Pair V) (rest : List (Pair V)) → key_cmp first.key key ≡ Equal → AllAbove key rest → without (first ∷ rest) key ≡ rest
without_head key first rest at high = rw (at, lows_of_high key rest high, highs_of_high key rest high) refl

pub without_first : {V : Type 0} (key : Key) (first : Pair V) (rest : List (Pair V)) → first.key ≡ key → Ascends (first ∷ rest) → without (first ∷ rest) key ≡ rest
without_first key first rest is rising =
    let at : key_cmp first.key key ≡ Equal = ap (key_cmp first.key) (sym is) ∙ tied_itself key_cmp_total first.key in
    without_head key first rest at (above_rest key first rest rising (inr at))

module _ {Z : Type 0} where
  pub taken_keyed : (tables : List Table) (made : Pair (Arc (List Kept) Z)) (sealed : List (Pair (Arc (List Kept) Z))) → Ascends sealed → BeginsUnneeded tables sealed made → AreAtLasts sealed
      → AreAtLasts (without sealed made.key)
  taken_keyed tables made [] rising begins keyed = absurd begins
  taken_keyed tables made (first ∷ rest) rising begins keyed = subst AreAtLasts (sym (without_first made.key first rest begins.0 rising)) keyed.1

  pub taken_parts : (tables : List Table) (made : Pair (Arc (List Kept) Z)) (sealed : List (Pair (Arc (List Kept) Z))) → Ascends sealed → BeginsUnneeded tables sealed made
      → commits_of sealed ≡ made.value.value ++ commits_of (without sealed made.key)
  taken_parts tables made [] rising begins = absurd begins
  taken_parts tables made (first ∷ rest) rising begins =
      ap₂ (λ (gone left : List Kept). gone ++ left) begins.1 (ap commits_of (sym (without_first made.key first rest begins.0 rising)))

  -- what is left rises
  pub rise_left : {E : Type 0} (r : Result (Option (Arc (List Kept) Z)) E) (old left recent : List Kept) → Rise (old ++ recent)
      → IfOk r (λ gone. old ≡ gone_of gone ++ left) → OnErr r (left ≡ old) → Rise (left ++ recent)
  rise_left (Ok gone) old left recent rising parts same =
      let cut : old ++ recent ≡ gone_of gone ++ (left ++ recent) = ap (λ (kept : List Kept). kept ++ recent) parts ∙ append_assoc (gone_of gone) left recent in
      rise_back (gone_of gone) (left ++ recent) (subst Rise cut rising)
  rise_left (Err e) old left recent rising parts same = subst (λ (kept : List Kept). Rise (kept ++ recent)) (sym same) rising

-- ---- what holds of what is left

pub newest_left : (gone left newest : List Kept) → AreNewest (gone ++ left) newest → AreNewest left newest
newest_left gone left newest above =
    all_weaken (λ (one : Kept). AllByRecursion (λ (old : Kept). old.version < one.version) (gone ++ left)) (λ (one : Kept). AllByRecursion (λ (old : Kept). old.version < one.version) left)
    (λ one all. all_back (λ (old : Kept). old.version < one.version) gone left all) newest above

pub counted_left : (tables : List Table) (old gone left newest : List Kept) → old ≡ gone ++ left → AreUnneeded tables gone → trim tables (left ++ newest) ≡ trim tables (old ++ newest)
counted_left tables old gone left newest parts unneeded =
    sym
    (trim_joined tables old newest
    ∙ ap (λ (kept : List Kept). kept ++ trim tables newest)
    (ap (trim tables) parts ∙ trim_joined tables gone left ∙ ap (λ (kept : List Kept). map (trim_one tables) kept ++ trim tables left) (filter_none (commit_stays tables) gone unneeded))
    ∙ sym (trim_joined tables left newest))

pub within_left : (version : ℕ) (old gone left newest : List Kept) → old ≡ gone ++ left → AreWithin version (old ++ newest) → AreWithin version (left ++ newest)
within_left version old gone left newest parts within =
    let cut : old ++ newest ≡ gone ++ (left ++ newest) = ap (λ (kept : List Kept). kept ++ newest) parts ∙ append_assoc gone left newest in
    all_back (λ (one : Kept). one.version ≤ version) gone (left ++ newest) (subst (AreWithin version) cut within)
