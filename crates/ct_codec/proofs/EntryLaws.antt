-- Definitions and entries.
use Rattle.std.proofs.Common.{◌≡◌, ℕ, ◌^◌, ◌<◌, Bool, true, false, cond, eqb, eqb-true, List, [], ◌++◌, Option, Some, None, refl, sym, ◌∙◌, ap, subst, arith}
use Rattle.byteorder.specs.Endian.{little_bytes}
use Rattle.ct_types.specs.declared.schema.ColType.{ColType}
use Rattle.ct_types.specs.declared.schema.ColType.TheVariants as kind
use Rattle.ct_types.specs.declared.tracked.Tracked.{Tracked}
use Rattle.ct_types.specs.declared.entry.Keep.{Keep}
use Rattle.ct_types.specs.declared.entry.Act.{Act}
use Rattle.ct_types.specs.declared.entry.Act.TheVariants.{Commit, Define, Truncate, Enable, Disable, Database, Raise}
use Rattle.ct_codec.specs.Readers.{pair, number}
use Rattle.ct_codec.specs.EntryReaders.{flag, type_of, type_, made_column, column, made_schema, schema, made_keep, no_keep, keep_of, keep, made_tracked, tracked_of, tracked, made_enable, act, made_entry, entry}
use Rattle.ct_codec.specs.Spellings.{IsIn, spell_flag, type_byte, most_of, spell_type, spell_column, ColumnFits, spell_schema, SchemaFits, spell_keep, KeepFits, spell_tracked, TrackedFits, act_byte, spell_act, ActFits, spell_entry, EntryFits}
use Rattle.ct_codec.specs.Codes.{IsCode}
use Rattle.ct_codec.proofs.Combined.{some_same, law_then, law_choosing, law_making, law_as, law_pair}
use Rattle.ct_codec.proofs.Families.{IsSoundAt, none_here, either, constant, variant, variant_back, law_family}
use Rattle.ct_codec.proofs.Numbers.{law_number}
use Rattle.ct_codec.proofs.Lists.{law_text, law_counted}
use Rattle.ct_codec.proofs.ValueLaws.{Any, law_flag, law_one}
use Rattle.ct_codec.proofs.WriteLaws.{law_write, law_min}

-- ---- types and columns

abbrev IsTypeOf : ℕ × ℕ → Option ColType → Type 0
IsTypeOf t found = (type : ColType) → t.1 < 256 ^ 2 → found ≡ Some type → (t ≡ (type_byte type, most_of type)) × (most_of type < 256 ^ 2)

no_type : (t : ℕ × ℕ) → IsTypeOf t None
no_type t type small e = absurd (cc e)

or_type : (t : ℕ × ℕ) (n : ℕ) (here others : Option ColType) → (t.0 ≡ n → IsTypeOf t here) → IsTypeOf t others → IsTypeOf t (cond (eqb t.0 n) here others)
or_type t n here others one more = by (eqb t.0 n) refl
  where
    by : (b : Bool) → eqb t.0 n ≡ b → IsTypeOf t (cond b here others)
    by true is = one (eqb-true t.0 n is)
    by false is = more

the_type : (t : ℕ × ℕ) (type : ColType) → t ≡ (type_byte type, most_of type) → IsTypeOf t (Some type)
the_type t type is found small e =
    let same = some_same type found e in
    (subst (λ x. t ≡ (type_byte x, most_of x)) same is, subst (λ n. n < 256 ^ 2) (ap (λ p. p.1) is ∙ ap most_of same) small)

plain_type : (t : ℕ × ℕ) (type : ColType) → 0 ≡ most_of type → t.0 ≡ type_byte type → IsTypeOf t (cond (eqb t.1 0) (Some type) None)
plain_type t type none first = by (eqb t.1 0) refl
  where
    by : (b : Bool) → eqb t.1 0 ≡ b → IsTypeOf t (cond b (Some type) None)
    by true is = the_type t type (λ i. (first i, (eqb-true t.1 0 is ∙ none) i))
    by false is = no_type t

law_type : IsCode type_ spell_type (λ type. IsIn 2 (most_of type))
unfolding type_
law_type = law_choosing type_of (λ type. (type_byte type, most_of type)) (λ t type f e. let h = found t type f.1 e in (sym h.0, h.1)) (λ type f. (is type, (byte type, f))) (law_pair (law_number 1) (λ type. law_number 2))
  where
    found : (t : ℕ × ℕ) → IsTypeOf t (type_of t)
    found t =
        or_type t 1 _ _ (λ e. plain_type t kind.Int refl e) (or_type t 2 _ _ (λ e. plain_type t kind.BigInt refl e)
        (or_type t 3 _ _ (λ e. the_type t (kind.NVarChar t.1) (λ i. (e i, t.1))) (or_type t 4 _ _ (λ e. the_type t (kind.VarBinary t.1) (λ i. (e i, t.1))) (no_type t))))

    is : (type : ColType) → type_of (type_byte type, most_of type) ≡ Some type
    is kind.Int = refl
    is kind.BigInt = refl
    is (kind.NVarChar n) = refl
    is (kind.VarBinary n) = refl

    byte : (type : ColType) → type_byte type < 256 ^ 1
    byte kind.Int = omega arith
    byte kind.BigInt = omega arith
    byte (kind.NVarChar n) = omega arith
    byte (kind.VarBinary n) = omega arith

pub law_column : IsCode column spell_column ColumnFits
unfolding column
law_column =
    law_making made_column (λ c. (c.name, (c.kind, c.nullable))) (λ x f. (refl, (f.0, f.1.0))) (λ c f. (refl, (f.0, (f.1, tt))))
    (law_pair (law_text 2) (λ name. law_pair law_type (λ kind. law_flag)))

pub law_schema : IsCode schema spell_schema SchemaFits
unfolding schema
law_schema =
    law_making made_schema (λ s. (s.id, (s.name, (s.columns, s.key)))) (λ x f. (refl, (f.0, f.1.0, f.1.1.0, f.1.1.1))) (λ s f. (refl, (f.0, (f.1, (f.2, f.3)))))
    (law_pair (law_number 4) (λ id. law_pair (law_text 2) (λ name. law_pair (law_counted 2 law_column) (λ columns. law_one (law_number 2)))))

-- ---- settings

-- a number and a flag
law_marked : IsCode (pair (number 8) (λ n. flag)) (λ p. little_bytes 8 p.0 ++ spell_flag p.1) (λ p. IsIn 8 p.0 × Any p.1)
law_marked = law_pair (law_number 8) (λ n. law_flag)

abbrev is_on : Option Keep → Bool
is_on None = false
is_on (Some _) = true

abbrev keep_body : Option Keep → List ℕ
keep_body None = little_bytes 8 0 ++ spell_flag false
keep_body (Some k) = little_bytes 8 k.retention ++ spell_flag k.auto

zero_by : (p : ℕ × Bool) (k : Option Keep) (t b : Bool) → eqb p.0 0 ≡ t → p.1 ≡ b → cond {A = Option (Option Keep)} t (cond b None (Some None)) None ≡ Some k → (p ≡ (0, false)) × (k ≡ None)
zero_by p k true false is off e = ((λ i. (eqb-true p.0 0 is i, off i)), sym (some_same {A = Option Keep} None k e))
zero_by p k true true is off e = absurd (cc e)
zero_by p k false b is off e = absurd (cc e)

law_keep_of : (b : Bool) → IsCode (keep_of b) keep_body (λ k. (is_on k ≡ b) × KeepFits k)
unfolding keep_of
law_keep_of true = record { sound = sound; complete = complete }
  where
    sound : (bytes rest : List ℕ) (k : Option Keep) → keep_of true bytes ≡ Some (k, rest) → (bytes ≡ keep_body k ++ rest) × ((is_on k ≡ true) × KeepFits k)
    sound bytes rest k e = let h = (variant {body = keep_body} {tag = λ k. 0} {F = λ k. (is_on k ≡ true) × KeepFits k} {k = 0} made_keep (λ p f. (refl, (refl, (refl, f.0)))) law_marked).was bytes rest k e in (h.0, h.1.1)

    complete : (k : Option Keep) (rest : List ℕ) → (is_on k ≡ true) × KeepFits k → keep_of true (keep_body k ++ rest) ≡ Some (k, rest)
    complete None rest f = absurd (cc f.0)
    complete (Some k) rest f = variant_back made_keep law_marked (k.retention, k.auto) rest (f.1, tt)
law_keep_of false =
    law_as {s = λ k. little_bytes 8 0 ++ spell_flag false} {F = λ k. k ≡ None} (λ k f. off k f) (λ k f. is_none k f.0)
    (law_choosing no_keep (λ k. (0, false)) (λ p k f e. let h = zero_of p k e in (sym h.0, h.1)) (λ k f. (ap Some (sym f), (omega arith, tt))) law_marked)
  where
    off : (k : Option Keep) → k ≡ None → (little_bytes 8 0 ++ spell_flag false ≡ keep_body k) × ((is_on k ≡ false) × KeepFits k)
    off None f = (refl, (refl, tt))
    off (Some k) f = absurd (cc f)

    is_none : (k : Option Keep) → is_on k ≡ false → k ≡ None
    is_none None f = refl
    is_none (Some k) f = absurd (cc f)

    zero_of : (p : ℕ × Bool) (k : Option Keep) → no_keep p ≡ Some k → (p ≡ (0, false)) × (k ≡ None)
    zero_of p k e = zero_by p k (eqb p.0 0) p.1 refl refl e

pub law_keep : IsCode keep spell_keep KeepFits
unfolding keep
law_keep = law_as (λ k f. (told k, f)) (λ k f. f) (law_then is_on (λ k f. tt) law_flag (λ b f. law_keep_of b))
  where
    told : (k : Option Keep) → spell_flag (is_on k) ++ keep_body k ≡ spell_keep k
    told None = refl
    told (Some k) = refl

abbrev is_tracked : Option Tracked → Bool
is_tracked None = false
is_tracked (Some _) = true

abbrev tracked_body : Option Tracked → List ℕ
tracked_body None = []
tracked_body (Some tracked) = little_bytes 8 tracked.min ++ spell_flag tracked.masks

law_tracked_of : (b : Bool) → IsCode (tracked_of b) tracked_body (λ t. (is_tracked t ≡ b) × TrackedFits t)
unfolding tracked_of
law_tracked_of true = record { sound = sound; complete = complete }
  where
    sound : (bytes rest : List ℕ) (t : Option Tracked) → tracked_of true bytes ≡ Some (t, rest) → (bytes ≡ tracked_body t ++ rest) × ((is_tracked t ≡ true) × TrackedFits t)
    sound bytes rest t e = let h = (variant {body = tracked_body} {tag = λ t. 0} {F = λ t. (is_tracked t ≡ true) × TrackedFits t} {k = 0} made_tracked (λ p f. (refl, (refl, (refl, f.0)))) law_marked).was bytes rest t e in (h.0, h.1.1)

    complete : (t : Option Tracked) (rest : List ℕ) → (is_tracked t ≡ true) × TrackedFits t → tracked_of true (tracked_body t ++ rest) ≡ Some (t, rest)
    complete None rest f = absurd (cc f.0)
    complete (Some tracked) rest f = variant_back made_tracked law_marked (tracked.min, tracked.masks) rest (f.1, tt)
law_tracked_of false = record { sound = sound; complete = complete }
  where
    sound : (bytes rest : List ℕ) (t : Option Tracked) → tracked_of false bytes ≡ Some (t, rest) → (bytes ≡ tracked_body t ++ rest) × ((is_tracked t ≡ false) × TrackedFits t)
    sound bytes rest t e = let h = (constant {body = tracked_body} {tag = λ t. 0} {F = λ t. (is_tracked t ≡ false) × TrackedFits t} None refl (refl, tt)).was bytes rest t e in (h.0, h.1.1)

    complete : (t : Option Tracked) (rest : List ℕ) → (is_tracked t ≡ false) × TrackedFits t → tracked_of false (tracked_body t ++ rest) ≡ Some (t, rest)
    complete None rest f = refl
    complete (Some tracked) rest f = absurd (cc f.0)

pub law_tracked : IsCode tracked spell_tracked TrackedFits
unfolding tracked
law_tracked = law_as (λ t f. (told t, f)) (λ t f. f) (law_then is_tracked (λ t f. tt) law_flag (λ b f. law_tracked_of b))
  where
    told : (t : Option Tracked) → spell_flag (is_tracked t) ++ tracked_body t ≡ spell_tracked t
    told None = refl
    told (Some t) = refl

-- ---- entries

act_sound : (k : ℕ) → IsSoundAt spell_act act_byte ActFits k (act k)
unfolding act
act_sound k =
    either k 1 (variant Commit (λ a f. (refl, (refl, f))) (law_counted 4 law_write))
    (either k 2 (variant Define (λ a f. (refl, (refl, f))) law_schema)
    (either k 3 (variant Truncate (λ a f. (refl, (refl, f))) (law_number 4))
    (either k 4 (variant made_enable (λ a f. (refl, (refl, f.0))) (law_pair (law_number 4) (λ table. law_flag)))
    (either k 5 (variant Disable (λ a f. (refl, (refl, f))) (law_number 4))
    (either k 6 (variant Database (λ a f. (refl, (refl, f))) law_keep)
    (either k 7 (variant Raise (λ a f. (refl, (refl, f))) (law_counted 2 law_min)) none_here))))))

act_complete : (a : Act) (rest : List ℕ) → ActFits a → act (act_byte a) (spell_act a ++ rest) ≡ Some (a, rest)
unfolding act
act_complete (Commit writes) rest f = variant_back Commit (law_counted 4 law_write) writes rest f
act_complete (Define schema) rest f = variant_back Define law_schema schema rest f
act_complete (Truncate table) rest f = variant_back Truncate (law_number 4) table rest f
act_complete (Enable table masks) rest f = variant_back made_enable (law_pair (law_number 4) (λ table. law_flag)) (table, masks) rest (f, tt)
act_complete (Disable table) rest f = variant_back Disable (law_number 4) table rest f
act_complete (Database keep) rest f = variant_back Database law_keep keep rest f
act_complete (Raise minima) rest f = variant_back Raise (law_counted 2 law_min) minima rest f

pub law_entry : IsCode entry spell_entry EntryFits
unfolding entry
law_entry =
    law_making made_entry (λ e. (act_byte e.act, (e.draws, (e.version, (e.xdes, (e.time, e.act))))))
    (λ x f. ((λ i. (f.1.1.1.1.1.0 i, x.1)), (f.1.1.0, f.1.1.1.0, f.1.1.1.1.0, f.1.1.1.1.1.1))) (λ e f. (refl, (byte e.act, (tt, (f.0, (f.1, (f.2, (refl, f.3))))))))
    (law_pair (law_number 1) (λ k. law_pair law_flag (λ draws. law_pair (law_number 8) (λ version. law_pair (law_number 8) (λ xdes. law_pair (law_number 8) (λ time. law_family act_sound act_complete k))))))
  where
    byte : (a : Act) → act_byte a < 256 ^ 1
    byte (Commit writes) = omega arith
    byte (Define schema) = omega arith
    byte (Truncate table) = omega arith
    byte (Enable table masks) = omega arith
    byte (Disable table) = omega arith
    byte (Database keep) = omega arith
    byte (Raise minima) = omega arith
