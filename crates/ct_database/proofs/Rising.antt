-- Commits whose versions rise strictly: the last one, and those above a version.
use Rattle.std.proofs.Common.{◌≡◌, ℕ, ◌<◌, ◌≤◌, true, false, List, [], ◌∷◌, ◌++◌, filter, find, None, refl, sym, ap, ◌∙◌, subst, append_assoc, arith, tests}
use Rattle.std.specs.List.{AllByRecursion}
use Rattle.ct_types.specs.declared.entry.Kept.{Kept}
use Rattle.ct_types.proofs.Lists.{all_append}
use Rattle.ct_model.proofs.Members.{all_weaken, each_added}
use Rattle.ct_ptree.proofs.Lists.{find_none}
use Rattle.ct_database.specs.Steps.{AreNewest, AreWithin, AreBehind, EndsWith, Rise, is_later, is_version}
use Rattle.ct_database.proofs.Numbered.{not_equal}
use Rattle.ct_database.proofs.Placed.{each_front, each_back, each_before}

-- ---- parts

pub rise_front : (front back : List Kept) → Rise (front ++ back) → Rise front
rise_front front back rising = each_front (λ (one later : Kept). one.version < later.version) front back rising

pub rise_back : (front back : List Kept) → Rise (front ++ back) → Rise back
rise_back front back rising = each_back (λ (one later : Kept). one.version < later.version) front back rising

rise_more : (older : List Kept) (one : Kept) → Rise older → AreNewest older (one ∷ []) → Rise (older ++ one ∷ [])
rise_more older one rising above = each_added (λ (one later : Kept). one.version < later.version) true older one rising (λ e. above.0)

-- the same, where the one comes behind recent commits
pub rise_behind : (front recent : List Kept) (one value : Kept) → Rise (front ++ recent) → AreNewest (front ++ recent) (one ∷ []) → value ≡ one → Rise (front ++ (recent ++ value ∷ []))
rise_behind front recent one value rising above is =
    let more : Rise ((front ++ recent) ++ one ∷ []) = rise_more (front ++ recent) one rising above in
    subst (λ (last : Kept). Rise (front ++ (recent ++ last ∷ []))) (sym is) (subst Rise (append_assoc front recent (one ∷ [])) more)

-- ---- the last one

-- none is above the last one
pub ends_within : (commits : List Kept) (last : Kept) → EndsWith last commits → Rise commits → AreWithin last.version commits
ends_within commits last ends rising =
    let before : AllByRecursion (λ (one : Kept). one.version < last.version) ends.0 = each_before (λ (one later : Kept). one.version < later.version) ends.0 last [] (subst Rise ends.1 rising) in
    let here : last.version ≤ last.version = omega arith in
    subst (AreWithin last.version) (sym ends.1)
    (all_append (λ (one : Kept). one.version ≤ last.version) ends.0 (last ∷ [])
    (all_weaken (λ (one : Kept). one.version < last.version) (λ (one : Kept). one.version ≤ last.version) (λ one less. omega arith) ends.0 before) (here, tt))

-- all behind are above the last one
pub ends_behind : (commits after : List Kept) (last : Kept) → EndsWith last commits → Rise (commits ++ after) → AreBehind last.version after
ends_behind commits after last ends rising =
    let cut : commits ++ after ≡ ends.0 ++ (last ∷ after) = ap (λ (front : List Kept). front ++ after) ends.1 ∙ append_assoc ends.0 (last ∷ []) after in
    (rise_back ends.0 (last ∷ after) (subst Rise cut rising)).0

-- ---- by version

-- nothing is left of commits at or before a version
pub all_gone : (floor : ℕ) (kept : List Kept) → AreWithin floor kept → filter (is_later floor) kept ≡ []
all_gone floor [] all = refl
all_gone floor (one ∷ kept) all = let no : is_later floor one ≡ false = search (tests, arith) in rw no (all_gone floor kept all.1)

-- no commit below a version has it, and none above it
pub none_below : (version : ℕ) (kept : List Kept) → AllByRecursion (λ (one : Kept). one.version < version) kept → find (is_version version) kept ≡ None
none_below version kept below =
    find_none (is_version version) kept
    (all_weaken (λ (one : Kept). one.version < version) (λ (one : Kept). is_version version one ≡ false) (λ one less. not_equal one.version version (λ e. absurd (omega (arith, e)))) kept below)

pub none_above : (version : ℕ) (kept : List Kept) → AreBehind version kept → find (is_version version) kept ≡ None
none_above version kept above =
    find_none (is_version version) kept
    (all_weaken (λ (one : Kept). version < one.version) (λ (one : Kept). is_version version one ≡ false) (λ one less. not_equal one.version version (λ e. absurd (omega (arith, e)))) kept above)
