-- Trimming what is stored by the tables after an entry is trimming what counted before it.
use Rattle.std.proofs.Common.{◌≡◌, ℕ, ◌<◌, ◌≤◌, Bool, true, false, cond, ◌==◌, List, [], ◌∷◌, ◌++◌, map, filter, MatchBool, refl, sym, ap, ap₂, subst, ◌∙◌, if◌then◌else◌, arith}
use Rattle.std.proofs.lemmas.List.{map-append}
use Rattle.std.proofs.lemmas.Simd.{map-map}
use Rattle.std.proofs.lemmas.List.Elements.{filter-append}
use Rattle.ct_types.specs.declared.entry.Change.{Change}
use Rattle.ct_types.specs.declared.entry.Kept.{Kept}
use Rattle.ct_types.specs.declared.entry.Entry.{Entry}
use Rattle.ct_types.proofs.Lists.{all_append}
use Rattle.ct_model.specs.declared.db.Table.{Table}
use Rattle.ct_model.specs.declared.db.Db.{Db}
use Rattle.ct_model.specs.Apply.{apply, tables_after, change_stays, commit_stays, trim_one, trim, kept_of}
use Rattle.ct_model.specs.Valid.{AreNumbered}
use Rattle.ct_model.proofs.Members.{all_weaken}
use Rattle.ct_database.specs.Commits.{committed}
use Rattle.ct_database.specs.Storable.{IsActStorable}
use Rattle.ct_database.specs.Steps.{AreWithin, AreNewest, added_by}
use Rattle.ct_database.proofs.Needs.{needed, act_needs}

-- a test that fails fails the narrower one
pub fails_too : (wide narrow : Bool) → (narrow ≡ true → wide ≡ true) → false ≡ wide → narrow ≡ false
fails_too wide true weaker e = absurd (let bad : false ≡ true = e ∙ weaker refl in cc)
fails_too wide false weaker e = refl

pub filter_narrower : {X : Type 0} (wide narrow : X → Bool) → ((x : X) → narrow x ≡ true → wide x ≡ true) → (xs : List X) → filter narrow (filter wide xs) ≡ filter narrow xs
filter_narrower wide narrow weaker [] = refl
filter_narrower wide narrow weaker (x ∷ xs) =
    let more : filter narrow (filter wide xs) ≡ filter narrow xs = filter_narrower wide narrow weaker xs in
    let step : (b : Bool) → b ≡ wide x → filter narrow (cond b (x ∷ filter wide xs) (filter wide xs)) ≡ cond (narrow x) (x ∷ filter narrow xs) (filter narrow xs) =
    elim [
      | true ↦ (λ e. ap (λ rest. cond (narrow x) (x ∷ rest) rest) more)
      | false ↦ (λ e. more ∙ sym (ap (λ (b : Bool). cond b (x ∷ filter narrow xs) (filter narrow xs)) (fails_too (wide x) (narrow x) (weaker x) e)))
    ] in
    step (wide x) refl

pub trim_first : (tables : List Table) (one : Kept) (kept : List Kept) → trim tables (one ∷ kept) ≡ cond (commit_stays tables one) (trim_one tables one ∷ trim tables kept) (trim tables kept)
trim_first tables one kept =
    let step : (b : Bool) → map (trim_one tables) (cond b (one ∷ filter (commit_stays tables) kept) (filter (commit_stays tables) kept)) ≡ cond b (trim_one tables one ∷ trim tables kept) (trim tables kept) =
    elim [ true ↦ refl | false ↦ refl ] in
    step (commit_stays tables one)

-- where tables need no more of what is stored than other tables do, what these trimmed is as good as all that is stored
pub trim_again : (version : ℕ) (tables now : List Table) → ((test : ℕ → Bool) (v : ℕ) → v ≤ version → needed test v now ≡ true → needed test v tables ≡ true)
    → (kept : List Kept) → AreWithin version kept → trim now (trim tables kept) ≡ trim now kept
trim_again version tables now fewer [] within = refl
trim_again version tables now fewer (one ∷ kept) within =
    let more : trim now (trim tables kept) ≡ trim now kept = trim_again version tables now fewer kept within.1 in
    let changes : trim_one now (trim_one tables one) ≡ trim_one now one =
    ap (λ (changes : List Change). record one { changes = changes })
    (filter_narrower (change_stays tables one.version) (change_stays now one.version) (λ change. fewer (λ id. id == change.table) one.version within.0) one.changes) in
    let step : (b : Bool) → b ≡ commit_stays tables one
    → trim now (cond b (trim_one tables one ∷ trim tables kept) (trim tables kept)) ≡ cond (commit_stays now one) (trim_one now one ∷ trim now kept) (trim now kept) =
    elim [
      | true ↦ (λ e. trim_first now (trim_one tables one) (trim tables kept) ∙ ap₂ (λ (first : Kept) (rest : List Kept). cond (commit_stays now one) (first ∷ rest) rest) changes more)
      | false ↦
          (λ e. more ∙ sym (ap (λ (b : Bool). cond b (trim_one now one ∷ trim now kept) (trim now kept))
          (fails_too (commit_stays tables one) (commit_stays now one) (fewer (λ id. true) one.version within.0) e)))
    ] in
    ap (trim now) (trim_first tables one kept) ∙ step (commit_stays tables one) refl ∙ sym (trim_first now one kept)

pub trim_joined : (tables : List Table) (kept added : List Kept) → trim tables (kept ++ added) ≡ trim tables kept ++ trim tables added
trim_joined tables kept added =
    ap (map (trim_one tables)) (filter-append (commit_stays tables) kept added) ∙ map-append (trim_one tables) (filter (commit_stays tables) kept) (filter (commit_stays tables) added)

-- what is told of commits is told of them trimmed
pub told_trimmed : (tables : List Table) (kept : List Kept) → map committed (filter (commit_stays tables) kept) ≡ map committed (trim tables kept)
told_trimmed tables kept = sym (map-map committed (trim_one tables) (filter (commit_stays tables) kept))

-- ---- entries

later : (draws : Bool) (before version : ℕ) → MatchBool draws (before < version) (before ≤ version) → before ≤ version
later true before version less = omega arith
later false before version le = le

with_added : (draws : Bool) (one : Kept) (tables : List Table) (stored counts : List Kept) → trim tables counts ≡ trim tables stored
    → trim tables (stored ++ (if draws then one ∷ [] else [])) ≡ trim tables (if draws then counts ++ one ∷ [] else counts)
with_added true one tables stored counts same =
    trim_joined tables stored (one ∷ []) ∙ ap (λ (front : List Kept). front ++ trim tables (one ∷ [])) (sym same) ∙ sym (trim_joined tables counts (one ∷ []))
with_added false one tables stored counts same = trim_joined tables stored [] ∙ append_none (trim tables stored) ∙ sym same
  where
    append_none : (xs : List Kept) → xs ++ [] ≡ xs
    append_none [] = refl
    append_none (x ∷ xs) = ap (λ (rest : List Kept). x ∷ rest) (append_none xs)

-- what counts after an entry
pub counts_after : (db : Db) (entry : Entry) (stored now : List Kept) (tables : List Table) → IsActStorable db.tables entry.act → AreNumbered 1 db.tables
    → MatchBool entry.draws (db.version < entry.version) (db.version ≤ entry.version) → AreWithin db.version stored → db.kept ≡ trim db.tables stored
    → tables ≡ tables_after entry.act entry.version entry.draws db.tables → now ≡ stored ++ added_by entry
    → trim tables now ≡ (apply db entry).kept
unfolding apply
counts_after db entry stored now tables storable numbered version within counts is_tables is_now =
    let after = tables_after entry.act entry.version entry.draws db.tables in
    let all : AreWithin entry.version stored = all_weaken (λ one. one.version ≤ db.version) (λ one. one.version ≤ entry.version) (λ one le. let up = later entry.draws db.version entry.version version in omega arith) stored within in
    let same : trim after db.kept ≡ trim after stored =
    ap (trim after) counts ∙ trim_again entry.version db.tables after (act_needs entry.act entry.version entry.draws db.tables storable numbered) stored all in
    ap₂ (λ (ts : List Table) (ks : List Kept). trim ts ks) is_tables is_now ∙ with_added entry.draws (kept_of entry) after stored db.kept same

-- nothing is stored above the version of an entry, once its commit is added
pub added_within : (entry : Entry) (version : ℕ) (stored now : List Kept) → MatchBool entry.draws (version < entry.version) (version ≤ entry.version)
    → AreWithin version stored → now ≡ stored ++ added_by entry → AreWithin entry.version now
added_within entry version stored now later_version within is_now =
    let up = later entry.draws version entry.version later_version in
    let fresh : (b : Bool) → AreWithin entry.version (if b then kept_of entry ∷ [] else []) = elim [ true ↦ (omega arith, tt) | false ↦ tt ] in
    let old : AreWithin entry.version stored = all_weaken (λ one. one.version ≤ version) (λ one. one.version ≤ entry.version) (λ one le. omega arith) stored within in
    subst (AreWithin entry.version) (sym is_now) (all_append (λ one. one.version ≤ entry.version) stored (added_by entry) old (fresh entry.draws))

-- the commit of an entry is above all that is stored
pub added_newest : (entry : Entry) (version : ℕ) (stored : List Kept) → MatchBool entry.draws (version < entry.version) (version ≤ entry.version)
    → AreWithin version stored → AreNewest stored (added_by entry)
added_newest entry version stored later_version within =
    let step : (b : Bool) → MatchBool b (version < entry.version) (version ≤ entry.version) → AreNewest stored (if b then kept_of entry ∷ [] else []) =
    elim [ true ↦ (λ less. (all_weaken (λ one. one.version ≤ version) (λ one. one.version < entry.version) (λ one le. omega arith) stored within, tt)) | false ↦ (λ le. tt) ] in
    step entry.draws later_version
