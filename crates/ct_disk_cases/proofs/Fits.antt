-- What is read can be spelled, and is spelled as it was read.
use Rattle.std.proofs.Common.{◌≡◌, ◌<◌, ◌+◌, ◌^◌, ℕ, List, [], ◌∷◌, length, map, Option, Some, None, refl, sym, ap, subst, ◌∙◌}
use Rattle.std.specs.List.{AllByRecursion}
use Rattle.ct_types.specs.declared.value.Key.{Key}
use Rattle.ct_types.specs.declared.value.Row.{Row}
use Rattle.ct_types.specs.declared.value.Value.{Value}
use Rattle.ct_types.specs.declared.entry.Op.{Op}
use Rattle.ct_types.specs.declared.entry.Write.{Write}
use Rattle.ct_types.specs.declared.entry.Act.{Act}
use Rattle.ct_types.specs.declared.entry.Act.TheVariants.{Commit, Define, Truncate, Enable, Disable, Database, Raise}
use Rattle.ct_types.specs.declared.entry.Entry.{Entry}
use Rattle.ct_types.specs.declared.piece.Piece.{Piece}
use Rattle.ct_faults.specs.Disk.{Image}
use Rattle.ct_model.specs.declared.db.Db.{Db}
use Rattle.ct_pages.specs.declared.slot.Super.{Super}
use Rattle.ct_replay.specs.Replay.{Adds}
use Rattle.ct_recover.specs.Volume.{IsSteady, MayTake}
use Rattle.ct_codec.specs.EntryReaders.{entry_of, piece_of}
use Rattle.ct_codec.specs.Spellings.{TargetFits, WriteFits, ActFits, EntryFits, PieceFits, bare_key, bare_write, bare_act, bare, spell_entry}
use Rattle.ct_codec.proofs.Combined.{whole_is}
use Rattle.ct_codec.proofs.EntryLaws.{law_entry}
use Rattle.ct_codec.proofs.PieceLaws.{law_piece}

bare_key_is : (op : Op) (key : Key) (row : Option Row) → TargetFits op key row → bare_key key row ≡ key
bare_key_is op key None f = refl
bare_key_is op key (Some row) f = sym (ap (λ (values : List Value). record { 0 = values }) f.1)

bare_write_is : (write : Write) → WriteFits write → bare_write write ≡ write
bare_write_is write f =
    ap (λ (key : Key). record { table = write.table; op = write.op; key = key; row = write.row; tracked = write.tracked; mask = write.mask; context = write.context })
    (bare_key_is write.op write.key write.row f.1)

bare_writes_are : (writes : List Write) → AllByRecursion WriteFits writes → map bare_write writes ≡ writes
bare_writes_are [] f = refl
bare_writes_are (write ∷ writes) f = λ i. bare_write_is write f.0 i ∷ bare_writes_are writes f.1 i

bare_act_is : (act : Act) → ActFits act → bare_act act ≡ act
bare_act_is (Commit writes) f = ap (λ l. Commit l) (bare_writes_are writes f.1)
bare_act_is (Define schema) f = refl
bare_act_is (Truncate table) f = refl
bare_act_is (Enable table masks) f = refl
bare_act_is (Disable table) f = refl
bare_act_is (Database keep) f = refl
bare_act_is (Raise minima) f = refl

-- the keys that can be spelled are the ones that are spelled
bare_is : (entry : Entry) → EntryFits entry → bare entry ≡ entry
bare_is entry f = ap (λ (act : Act). record { version = entry.version; draws = entry.draws; xdes = entry.xdes; time = entry.time; act = act }) (bare_act_is entry.act f.3)

pub entry_fits : (bytes : List ℕ) (entry : Entry) → entry_of bytes ≡ Some entry → EntryFits (bare entry)
entry_fits bytes entry is =
    let fits = (whole_is law_entry bytes entry is).1 in
    subst EntryFits (sym (bare_is entry fits)) fits

pub entry_is_spelled : (bytes : List ℕ) (entry : Entry) → entry_of bytes ≡ Some entry → spell_entry (bare entry) ≡ bytes
entry_is_spelled bytes entry is =
    let found = whole_is law_entry bytes entry is in
    ap spell_entry (bare_is entry found.1) ∙ sym found.0

pub entry_is_short : (bytes : List ℕ) (entry : Entry) → entry_of bytes ≡ Some entry → length bytes < 2 ^ 64 → length (spell_entry (bare entry)) < 2 ^ 64
entry_is_short bytes entry is short = subst (λ (spelled : List ℕ). length spelled < 2 ^ 64) (sym (entry_is_spelled bytes entry is)) short

pub piece_fits : (bytes rest : List ℕ) (piece : Piece) → piece_of bytes ≡ Some (piece, rest) → PieceFits piece
piece_fits bytes rest piece is = (law_piece.sound bytes rest piece is).1

-- a payload that adds an entry is the spelling of it, so the entry can be spelled, in as many bytes
pub added_fits : (db : Db) (payload : List ℕ) (entry : Entry) → Adds db payload entry → EntryFits (bare entry)
added_fits db payload entry adds = (whole_is law_entry payload (bare entry) adds.spells).1

pub added_is_short : (db : Db) (payload : List ℕ) (entry : Entry) → Adds db payload entry → length payload + 5 < 2 ^ 64 → length (spell_entry (bare entry)) + 5 < 2 ^ 64
added_is_short db payload entry adds short =
    subst (λ (spelled : List ℕ). length spelled + 5 < 2 ^ 64) (whole_is law_entry payload (bare entry) adds.spells).0 short

-- a disk that is steady at a database takes an entry that a payload adds to that
pub may_take :
    (slot : Super) (used : ℕ) (content : Image) (images : Image → Type 0) (db : Db) (payload : List ℕ) (entry : Entry)
    → IsSteady slot used content images db → Adds db payload entry → MayTake slot used content images entry
may_take slot used content images db payload entry steady adds = record { db = db; steady = steady; applies = adds.applies }
