-- An entry that applies leaves a valid database valid.
use Rattle.std.proofs.Common.{◌≡◌, ◌≤◌, ◌<◌, ◌^◌, ℕ, Bool, true, false, if◌then◌else◌, List, [], ◌∷◌, ◌++◌, None, Some, arith}
use Rattle.std.specs.List.{AllByRecursion}
use Rattle.std.proofs.Math.Nat.{le-max_left, le-max_right}
use Rattle.ct_types.specs.declared.entry.Kept.{Kept}
use Rattle.ct_types.specs.declared.entry.Act.{Act}
use Rattle.ct_types.specs.declared.entry.Act.TheVariants.{Commit, Define, Truncate, Enable, Disable, Database, Raise}
use Rattle.ct_types.specs.declared.entry.Entry.{Entry}
use Rattle.ct_model.specs.declared.db.Db.{Db}
use Rattle.ct_model.specs.Applies.{ActApplies, IsNewXdes, XdesApplies, Applies}
use Rattle.ct_model.specs.Apply.{apply, kept_of, keep_after, tables_after}
use Rattle.ct_model.specs.Lists.{EachToLater}
use Rattle.ct_model.specs.Valid.{IsKeepValid, ComesBefore, IsValid}
use Rattle.ct_types.proofs.Lists.{all_join}
use Rattle.ct_model.proofs.Members.{all_weaken, all_added, each_added}
use Rattle.ct_model_laws.proofs.Rises.{version_rises, drawn_rises}
use Rattle.ct_model_laws.proofs.Following.{TablesFollow, tables_follow}
use Rattle.ct_model_laws.proofs.Keeping.{tables_keep}
use Rattle.ct_model_laws.proofs.Carrying.{IsCarried, trim_valid, trim_ordered, still_carried, added_valid}

xdes_within : (db : Db) (act : Act) (xdes : ℕ) → XdesApplies db act xdes → xdes ≤ 2 ^ 62
xdes_within db (Commit writes) xdes new = new.1
xdes_within db (Define schema) xdes new = new.1
xdes_within db (Truncate id) xdes new = new.1
xdes_within db (Enable id masks) xdes new = new.1
xdes_within db (Disable id) xdes new = new.1
xdes_within db (Database keep) xdes new = new.1
xdes_within db (Raise minima) xdes e = omega (arith, e)

-- only an act with a transaction number of its own draws
new_xdes : (db : Db) (version xdes : ℕ) (draws : Bool) (act : Act) → ActApplies db version draws act → XdesApplies db act xdes
    → draws ≡ true → IsNewXdes db xdes
new_xdes db version xdes draws (Commit writes) applies new drawn = new
new_xdes db version xdes draws (Define schema) applies new drawn = new
new_xdes db version xdes draws (Truncate id) applies new drawn = new
new_xdes db version xdes draws (Enable id masks) applies new drawn = new
new_xdes db version xdes draws (Disable id) applies new drawn = new
new_xdes db version xdes draws (Database keep) applies new drawn = new
new_xdes db version xdes draws (Raise minima) applies new drawn = let none : draws ≡ false = applies.3 in cc

keep_stays : (db : Db) (version : ℕ) (draws : Bool) (act : Act) → ActApplies db version draws act → IsKeepValid db.keep
    → IsKeepValid (keep_after act db.keep)
keep_stays db version draws (Commit writes) applies valid = valid
keep_stays db version draws (Define schema) applies valid = valid
keep_stays db version draws (Truncate id) applies valid = valid
keep_stays db version draws (Enable id masks) applies valid = valid
keep_stays db version draws (Disable id) applies valid = valid
keep_stays db version draws (Database None) applies valid = tt
keep_stays db version draws (Database (Some keep)) applies valid = applies.0
keep_stays db version draws (Raise minima) applies valid = valid

-- the kept commits and the new one, before they are trimmed
kepts_of : Db → Entry → List Kept
kepts_of db entry = if entry.draws then db.kept ++ kept_of entry ∷ [] else db.kept

all_carried : (db : Db) (entry : Entry) → IsValid db → Applies db entry → TablesFollow entry.version db.tables (apply db entry).tables
    → AllByRecursion (IsCarried (apply db entry)) (kepts_of db entry)
unfolding apply kepts_of
all_carried db entry valid applies follow =
    all_added (IsCarried (apply db entry)) entry.draws db.kept (kept_of entry)
    (all_weaken _ _
    (λ kept was. still_carried db (apply db entry) (version_rises entry.draws db.version entry.version applies.version) (le-max_left db.last_xdes entry.xdes) applies.time follow.carry follow.numbered kept was)
    db.kept valid.kept)
    (λ drawn. record {
      version = omega arith;
      xdes = le-max_right db.last_xdes entry.xdes;
      time = omega arith;
      changes = added_valid db entry.version entry.draws entry.act applies.act valid.numbered follow.numbered valid.tables;
    })

all_ordered : (db : Db) (entry : Entry) → IsValid db → Applies db entry → EachToLater ComesBefore (kepts_of db entry)
unfolding kepts_of
all_ordered db entry valid applies =
    each_added ComesBefore entry.draws db.kept (kept_of entry) valid.ordered
    (λ drawn.
    let rises : db.version < entry.version = drawn_rises entry.draws db.version entry.version applies.version drawn in
    all_join _ _ (λ kept. ComesBefore kept (kept_of entry))
    (λ kept was other. record { version = omega (arith, was.version); time = omega (arith, was.time, applies.time); xdes = other })
    db.kept valid.kept (new_xdes db entry.version entry.xdes entry.draws entry.act applies.act applies.xdes drawn).2)

pub stays_valid : (db : Db) (entry : Entry) → IsValid db → Applies db entry → IsValid (apply db entry)
unfolding apply kepts_of
stays_valid db entry valid applies =
    let rises : db.version ≤ entry.version = version_rises entry.draws db.version entry.version applies.version in
    let follow : TablesFollow entry.version db.tables (tables_after entry.act entry.version entry.draws db.tables) =
    tables_follow db entry.version entry.draws entry.act applies.act valid.few valid.numbered valid.names in
    record {
      version = applies.version_within;
      time = applies.time_within;
      last_xdes = omega (arith, valid.last_xdes, xdes_within db entry.act entry.xdes applies.xdes);
      keep = keep_stays db entry.version entry.draws entry.act applies.act valid.keep;
      few = follow.few;
      numbered = follow.numbered;
      names = follow.names;
      tables = tables_keep db entry.version entry.draws entry.act rises applies.act valid.numbered valid.tables;
      kept = trim_valid (apply db entry) (kepts_of db entry) (all_carried db entry valid applies follow);
      ordered = trim_ordered (apply db entry).tables (kepts_of db entry) (all_ordered db entry valid applies);
    }
