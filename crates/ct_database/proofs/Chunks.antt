-- Commits in chunks, which stand in a tree at the keys of their last versions.
use Rattle.std.proofs.Common.{◌≡◌, ℕ, ◌^◌, ◌<◌, ◌≤◌, pos, ◌-ℤ◌, nat_lt, Bool, true, false, not, cond, List, [], ◌∷◌, ◌++◌, filter, find, Option, None, Some, Ordering, Less, Equal, Greater, int_cmp, is_lt, refl, sym, ap, ap₂, ◌∙◌, subst, append_assoc, append-nil, arith, tests}
use Rattle.std.specs.Option.{option_or}
use Rattle.std.specs.Ordering.{ordering_then}
use Rattle.std.specs.declared.sync.Arc.{Arc}
use Rattle.std.proofs.lemmas.Int.{ints}
use Rattle.std.proofs.lemmas.List.Concat.{flat_map-append}
use Rattle.std.proofs.lemmas.List.Elements.{filter-append}
use Rattle.std.proofs.lemmas.List.Folds.{find-append}
use Rattle.ct_types.specs.Order.{key_cmp}
use Rattle.ct_types.specs.declared.value.Key.{Key}
use Rattle.ct_types.specs.declared.entry.Kept.{Kept}
use Rattle.ct_types.proofs.Lists.{all_append, all_back}
use Rattle.ct_model.proofs.Members.{all_weaken}
use Rattle.ct_ptree.specs.declared.pair.Pair.{Pair}
use Rattle.ct_ptree.specs.Pairs.{AllBelow, is_below, set_pair, from_key}
use Rattle.ct_ptree.proofs.Around.{lows_of_low, highs_of_low}
use Rattle.ct_database.specs.Steps.{AreAtLasts, AreBehind, AreWithin, EndsAt, EndsWith, Rise, commits_of, older_of, is_later, is_version, version_key}
use Rattle.ct_database.proofs.Rising.{rise_front, rise_back, ends_within, ends_behind, all_gone, none_below, none_above}

-- ---- the order of the keys

version_below : (a b : ℕ) → a < b → key_cmp (version_key a) (version_key b) ≡ Less
unfolding version_key
version_below a b less = let e : int_cmp (pos a -ℤ pos (2 ^ 63)) (pos b -ℤ pos (2 ^ 63)) ≡ Less = grind (arith, ints) in rw e refl

version_not_below : (a b : ℕ) → b ≤ a → is_lt (key_cmp (version_key a) (version_key b)) ≡ false
unfolding version_key
version_not_below a b le =
    let e : is_lt (int_cmp (pos a -ℤ pos (2 ^ 63)) (pos b -ℤ pos (2 ^ 63))) ≡ false = grind (arith, ints) in
    let step : (o : Ordering) → is_lt o ≡ false → is_lt (ordering_then o Equal) ≡ false = elim [ Less ↦ (λ e. e) | Equal ↦ (λ e. refl) | Greater ↦ (λ e. refl) ] in
    step (int_cmp (pos a -ℤ pos (2 ^ 63)) (pos b -ℤ pos (2 ^ 63))) e

-- keys stand as their versions
key_is_below : (a b : ℕ) → is_lt (key_cmp (version_key a) (version_key b)) ≡ nat_lt a b
key_is_below a b =
    let step : (less : Bool) → less ≡ nat_lt a b → is_lt (key_cmp (version_key a) (version_key b)) ≡ less =
    elim [
      | true ↦ (λ e. let below : a < b = search (tests, arith) in ap is_lt (version_below a b below))
      | false ↦ (λ e. let le : b ≤ a = search (tests, arith) in version_not_below a b le)
    ] in
    step (nat_lt a b) refl

or_nothing : (o : Option Kept) → option_or o None ≡ o
or_nothing None = refl
or_nothing (Some one) = refl

module _ {Z : Type 0} where
  -- the pair's key stands to that of a version as the last version of its chunk
  chunk_is_below : (version : ℕ) (key : Key) (pair : Pair (Arc (List Kept) Z)) (at : EndsAt pair.key pair.value.value) → key ≡ version_key version → is_below key pair ≡ nat_lt at.0.version version
  chunk_is_below version key pair at is = ap₂ (λ (a b : Key). is_lt (key_cmp a b)) at.2 is ∙ key_is_below at.0.version version

  -- ---- those above a version

  -- the commits above a version stand in the chunks that end at or above it
  pub later_in_range : (sealed : List (Pair (Arc (List Kept) Z))) (version : ℕ) (key : Key) → AreAtLasts sealed → Rise (commits_of sealed) → key ≡ version_key version
      → filter (is_later version) (commits_of (from_key sealed key)) ≡ filter (is_later version) (commits_of sealed)
  later_in_range [] version key keyed rising is = refl
  later_in_range (pair ∷ sealed) version key keyed rising is =
      let chunk : List Kept = pair.value.value in
      let last : Kept = keyed.0.0 in
      let more : filter (is_later version) (commits_of (from_key sealed key)) ≡ filter (is_later version) (commits_of sealed) =
      later_in_range sealed version key keyed.1 (rise_back pair.value.value (commits_of sealed) rising) is in
      let within : AreWithin keyed.0.0.version pair.value.value = ends_within pair.value.value keyed.0.0 keyed.0.1 (rise_front pair.value.value (commits_of sealed) rising) in
      let below : is_below key pair ≡ nat_lt keyed.0.0.version version = chunk_is_below version key pair keyed.0 is in
      let step : (b : Bool) → b ≡ is_below key pair
      → filter (is_later version) (commits_of (cond (not b) (pair ∷ from_key sealed key) (from_key sealed key))) ≡ filter (is_later version) (pair.value.value ++ commits_of sealed) =
      elim [
        | true ↦
            (λ e. let less : keyed.0.0.version < version = (let passes : true ≡ nat_lt keyed.0.0.version version = e ∙ below in search (tests, arith)) in
            let gone : filter (is_later version) pair.value.value ≡ [] =
            all_gone version chunk (all_weaken (λ (one : Kept). one.version ≤ last.version) (λ (one : Kept). one.version ≤ version) (λ one le. omega arith) chunk within) in
            more ∙ sym (filter-append (is_later version) chunk (commits_of sealed) ∙ ap (λ (front : List Kept). front ++ filter (is_later version) (commits_of sealed)) gone))
        | false ↦
            (λ e. filter-append (is_later version) chunk (commits_of (from_key sealed key))
            ∙ ap (λ (rest : List Kept). filter (is_later version) chunk ++ rest) more
            ∙ sym (filter-append (is_later version) chunk (commits_of sealed)))
      ] in
      step (is_below key pair) refl

  -- ---- the commit of a version

  -- the first chunk, or the recent commits where there is none
  abbrev pub first_chunk : List (Pair (Arc (List Kept) Z)) → List Kept → List Kept
  first_chunk [] recent = recent
  first_chunk (pair ∷ rest) recent = pair.value.value

  -- only the first chunk that ends at or above a version can have a commit of it
  pub found_in_first : (sealed : List (Pair (Arc (List Kept) Z))) (recent : List Kept) (version : ℕ) (key : Key) → AreAtLasts sealed → Rise (older_of sealed recent) → key ≡ version_key version
      → find (is_version version) (older_of sealed recent) ≡ find (is_version version) (first_chunk (from_key sealed key) recent)
  found_in_first [] recent version key keyed rising is = refl
  found_in_first (pair ∷ sealed) recent version key keyed rising is =
      let chunk : List Kept = pair.value.value in
      let last : Kept = keyed.0.0 in
      let after : List Kept = commits_of sealed ++ recent in
      let cut : (pair.value.value ++ commits_of sealed) ++ recent ≡ pair.value.value ++ (commits_of sealed ++ recent) = append_assoc pair.value.value (commits_of sealed) recent in
      let rises : Rise (pair.value.value ++ (commits_of sealed ++ recent)) = subst Rise cut rising in
      let more : find (is_version version) (commits_of sealed ++ recent) ≡ find (is_version version) (first_chunk (from_key sealed key) recent) =
      found_in_first sealed recent version key keyed.1 (rise_back pair.value.value (commits_of sealed ++ recent) rises) is in
      let within : AreWithin keyed.0.0.version pair.value.value = ends_within pair.value.value keyed.0.0 keyed.0.1 (rise_front pair.value.value (commits_of sealed ++ recent) rises) in
      let behind : AreBehind keyed.0.0.version (commits_of sealed ++ recent) = ends_behind pair.value.value (commits_of sealed ++ recent) keyed.0.0 keyed.0.1 rises in
      let below : is_below key pair ≡ nat_lt keyed.0.0.version version = chunk_is_below version key pair keyed.0 is in
      let step : (b : Bool) → b ≡ is_below key pair
      → option_or (find (is_version version) pair.value.value) (find (is_version version) (commits_of sealed ++ recent))
      ≡ find (is_version version) (first_chunk (cond (not b) (pair ∷ from_key sealed key) (from_key sealed key)) recent) =
      elim [
        | true ↦
            (λ e. let less : keyed.0.0.version < version = (let passes : true ≡ nat_lt keyed.0.0.version version = e ∙ below in search (tests, arith)) in
            let none : find (is_version version) pair.value.value ≡ None =
            none_below version chunk (all_weaken (λ (one : Kept). one.version ≤ last.version) (λ (one : Kept). one.version < version) (λ one le. omega arith) chunk within) in
            ap (λ (o : Option Kept). option_or o (find (is_version version) after)) none ∙ more)
        | false ↦
            (λ e. let le : version ≤ keyed.0.0.version = (let fails : false ≡ nat_lt keyed.0.0.version version = e ∙ below in search (tests, arith)) in
            let none : find (is_version version) (commits_of sealed ++ recent) ≡ None =
            none_above version after (all_weaken (λ (one : Kept). last.version < one.version) (λ (one : Kept). version < one.version) (λ one less. omega arith) after behind) in
            ap (λ (o : Option Kept). option_or (find (is_version version) chunk) o) none ∙ or_nothing (find (is_version version) chunk))
      ] in
      ap (λ (all : List Kept). find (is_version version) all) cut ∙ find-append (is_version version) chunk after ∙ step (is_below key pair) refl

  -- ---- one more chunk

  pub all_below : (sealed : List (Pair (Arc (List Kept) Z))) (chunk : List Kept) (last : Kept) → AreAtLasts sealed → EndsWith last chunk → Rise (commits_of sealed ++ chunk) → AllBelow (version_key last.version) sealed
  all_below [] chunk last keyed ends rising = tt
  all_below (pair ∷ sealed) chunk last keyed ends rising =
      let rises : Rise (pair.value.value ++ (commits_of sealed ++ chunk)) = subst Rise (append_assoc pair.value.value (commits_of sealed) chunk) rising in
      let behind : AreBehind keyed.0.0.version (commits_of sealed ++ chunk) = ends_behind pair.value.value (commits_of sealed ++ chunk) keyed.0.0 keyed.0.1 rises in
      let own : AreBehind keyed.0.0.version chunk = all_back (λ (one : Kept). keyed.0.0.version < one.version) (commits_of sealed) chunk behind in
      let at_end : AreBehind keyed.0.0.version (last ∷ []) = all_back (λ (one : Kept). keyed.0.0.version < one.version) ends.0 (last ∷ []) (subst (AreBehind keyed.0.0.version) ends.1 own) in (
        ap (λ (key : Key). key_cmp key (version_key last.version)) keyed.0.2 ∙ version_below keyed.0.0.version last.version at_end.0,
        all_below sealed chunk last keyed.1 ends (rise_back pair.value.value (commits_of sealed ++ chunk) rises),
      )

  pub put_last : (sealed : List (Pair (Arc (List Kept) Z))) (chunk : List Kept) (key : Key) (it : Arc (List Kept) Z) → AreAtLasts sealed → EndsAt key chunk → Rise (commits_of sealed ++ chunk)
      → set_pair sealed key it ≡ sealed ++ record { key = key; value = it } ∷ []
  put_last sealed chunk key it keyed at rising =
      let low : AllBelow key sealed = subst (λ (k : Key). AllBelow k sealed) (sym at.2) (all_below sealed chunk at.0 keyed at.1 rising) in
      ap₂ (λ (lows highs : List (Pair (Arc (List Kept) Z))). lows ++ record { key = key; value = it } ∷ highs) (lows_of_low key sealed low) (highs_of_low key sealed low)

  pub sealed_commits : (sealed : List (Pair (Arc (List Kept) Z))) (chunk : List Kept) (key : Key) (it : Arc (List Kept) Z) → AreAtLasts sealed → EndsAt key chunk → Rise (older_of sealed chunk)
      → it.value ≡ chunk → older_of (set_pair sealed key it) [] ≡ older_of sealed chunk
  sealed_commits sealed chunk key it keyed at rising is =
      append-nil (commits_of (set_pair sealed key it))
      ∙ ap commits_of (put_last sealed chunk key it keyed at rising)
      ∙ flat_map-append (λ (pair : Pair (Arc (List Kept) Z)). pair.value.value) sealed (record { key = key; value = it } ∷ [])
      ∙ ap (λ (last : List Kept). commits_of sealed ++ last) (append-nil it.value ∙ is)

  pub sealed_keyed : (sealed : List (Pair (Arc (List Kept) Z))) (chunk : List Kept) (key : Key) (it : Arc (List Kept) Z) → AreAtLasts sealed → EndsAt key chunk → Rise (older_of sealed chunk)
      → it.value ≡ chunk → AreAtLasts (set_pair sealed key it)
  sealed_keyed sealed chunk key it keyed at rising is =
      subst AreAtLasts (sym (put_last sealed chunk key it keyed at rising))
      (all_append (λ (pair : Pair (Arc (List Kept) Z)). EndsAt pair.key pair.value.value) sealed (record { key = key; value = it } ∷ []) keyed (subst (EndsAt key) (sym is) at, tt))
