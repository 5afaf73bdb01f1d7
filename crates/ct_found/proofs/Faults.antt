-- A reading meets one fault first, and none where the disk stands for a database.
use Rattle.std.proofs.Common.{◌≡◌, ◌≢◌, ⊎_elim, ℕ, zero, suc, ◌<◌, List, [], ◌∷◌, ◌++◌, length, take, refl, sym, ◌∙◌, ap, subst, arith, append_assoc, length-append}
use Rattle.std.specs.List.{AllByRecursion}
use Rattle.std.proofs.lemmas.List.{append_cancel_left, take_at, append-nil}
use Rattle.ct_types.specs.declared.piece.Piece.{Piece}
use Rattle.ct_faults.specs.Disk.{Image}
use Rattle.ct_model.specs.declared.db.Db.{Db}
use Rattle.ct_model.specs.Valid.{IsValid}
use Rattle.ct_codec.specs.Spellings.{spell_piece, PieceFits}
use Rattle.ct_pages.specs.declared.slot.Super.{Super}
use Rattle.ct_pages.proofs.Decoding.{one_slot, one_offset, one_of_three}
use Rattle.ct_replay.specs.Replay.{Replays, BreaksOff}
use Rattle.ct_replay.proofs.Once.{one_replay, one_break, replays_do_not_break}
use Rattle.ct_found.specs.Pieces.{pieces_of, spell_pieces}
use Rattle.ct_found.specs.Checkpoint.{IsCheckpoint, BeginDatabase, PiecesStop, IsNoCheckpoint}
use Rattle.ct_found.specs.Found.{last_of, BeginsIn, Begins, EarlierBy, Makes}
use Rattle.ct_found.specs.Foreign.{CheckpointFails, FirstFails, SecondFails, AreaFails}
use Rattle.ct_found.specs.Laws.{StandingIsNotForeign, ForeignOnce}
use Rattle.ct_found.proofs.Apart.{last_one, last_two}
use Rattle.ct_found.proofs.Meeting.{Goes, meet}
use Rattle.ct_found.proofs.Once.{begins_once}

-- ---- a checkpoint

-- nothing follows where pieces stop
nothing_follows : (bytes : List ℕ) (offset : ℕ) (x : PiecesStop bytes offset) (pieces : List Piece) (rest : List ℕ) → BeginDatabase pieces → (goes : Goes x.pieces pieces x.rest rest) → x.pieces ≡ pieces
nothing_follows bytes offset x pieces rest begin goes = by goes.more goes.is goes.fit goes.behind_is
  where
    by : (more : List Piece) → pieces ≡ x.pieces ++ more → AllByRecursion PieceFits more → x.rest ≡ spell_pieces more ++ rest → x.pieces ≡ pieces
    by [] is fit behind = sym (is ∙ append-nil x.pieces)
    by (p ∷ more) is fit behind =
        absurd (x.none p (spell_pieces more ++ rest) fit.0 (behind ∙ append_assoc (spell_piece p) (spell_pieces more) rest) (record {
          db = begin.db;
          more = more ++ begin.more;
          valid = begin.valid;
          is = begin.is ∙ ap (λ l. l ++ begin.more) is ∙ append_assoc x.pieces (p ∷ more) begin.more ∙ sym (append_assoc x.pieces (p ∷ []) (more ++ begin.more));
        }))

stops_once : (bytes : List ℕ) (offset at : ℕ) → PiecesStop bytes offset → PiecesStop bytes at → offset ≡ at
stops_once bytes offset at x y =
    let same : x.pieces ≡ y.pieces =
    ⊎_elim
    (λ goes. nothing_follows bytes offset x y.pieces y.rest y.begin goes)
    (λ goes. sym (nothing_follows bytes at y x.pieces x.rest x.begin goes))
    (meet x.pieces y.pieces x.rest y.rest x.fit y.fit (sym x.split ∙ y.split)) in
    x.offset_is ∙ ap (λ l. length (spell_pieces l)) same ∙ sym y.offset_is

-- pieces stop nowhere in those of a valid database
pub no_stop : (bytes : List ℕ) (offset : ℕ) (db : Db) → IsValid db → AllByRecursion PieceFits (pieces_of db) → bytes ≡ spell_pieces (pieces_of db) → PiecesStop bytes offset → ⊥
no_stop bytes offset db valid fit is x =
    let whole : spell_pieces (pieces_of db) ++ [] ≡ bytes = append-nil (spell_pieces (pieces_of db)) ∙ sym is in
    let begin : BeginDatabase (pieces_of db) = record { db = db; more = []; valid = valid; is = sym (append-nil (pieces_of db)) } in
    let same : x.pieces ≡ pieces_of db =
    ⊎_elim
    (λ goes. longer goes)
    (λ goes. nothing_follows bytes offset x (pieces_of db) [] begin goes)
    (meet (pieces_of db) x.pieces [] x.rest fit x.fit (whole ∙ x.split)) in
    x.unfinished db valid (sym same)
    (append_cancel_left (spell_pieces x.pieces) x.rest [] (sym x.split ∙ is ∙ ap (λ l. spell_pieces l) (sym same) ∙ sym (append-nil (spell_pieces x.pieces))))
  where
    longer : Goes (pieces_of db) x.pieces [] x.rest → x.pieces ≡ pieces_of db
    longer goes = by goes.more goes.is goes.behind_is
      where
        by : (more : List Piece) → x.pieces ≡ pieces_of db ++ more → [] ≡ spell_pieces more ++ x.rest → x.pieces ≡ pieces_of db
        by [] is none = is ∙ append-nil (pieces_of db)
        by (p ∷ more) is none = absurd (omega (arith, ap length (none ∙ append_assoc (spell_piece p) (spell_pieces more) x.rest), length-append (spell_piece p) (spell_pieces more ++ x.rest)))

checkpoint_does_not_fail : (bytes : List ℕ) (size offset : ℕ) (db : Db) → IsCheckpoint bytes size db → IsNoCheckpoint bytes size offset → ⊥
checkpoint_does_not_fail bytes size offset db is fault =
    ⊎_elim
    (λ short. omega (arith, short.0, is.size_is, ap length is.split, length-append (spell_pieces (pieces_of db)) is.ignored))
    (λ stops. no_stop (take size bytes) offset db is.valid is.fit (ap (λ l. take size l) is.split ∙ take_at (spell_pieces (pieces_of db)) is.ignored size (sym is.size_is)) stops.1)
    fault

checkpoint_fails_once : (bytes : List ℕ) (size offset at : ℕ) → IsNoCheckpoint bytes size offset → IsNoCheckpoint bytes size at → offset ≡ at
checkpoint_fails_once bytes size offset at x y =
    ⊎_elim
    (λ e. ⊎_elim (λ f. e.1 ∙ sym f.1) (λ f. absurd (omega (arith, e.0, f.0))) y)
    (λ e. ⊎_elim (λ f. absurd (omega (arith, e.0, f.0))) (λ f. stops_once (take size bytes) offset at e.1 f.1) y)
    x

begins_checkpoint : (area size : ℕ) (image : Image) (db : Db) → area ≢ 0 → BeginsIn area size image db → IsCheckpoint (image area) size db
begins_checkpoint zero size image db some begins = absurd (some refl)
begins_checkpoint (suc area) size image db some begins = begins

-- ---- the areas that a slot names

positive : (n : ℕ) → n ≢ 0 → 0 < n
positive zero some = absurd (some refl)
positive (suc n) some = omega arith

-- what the first log makes
pub record FirstMakes (slot : Super) (image : Image) (start : Db) : Type 0 where
  pub before : Db
  pub records : ℕ
  pub used : ℕ
  pub first : Replays start (image slot.first) before records used

first_makes : (slot : Super) (image : Image) (db : Db) (records used : ℕ) (makes : Makes slot image db records used) → FirstMakes slot image makes.start
first_makes slot image db records used makes = by slot.second refl makes.earlier
  where
    by : (n : ℕ) → n ≡ slot.second → EarlierBy n (image slot.first) makes.start makes.before makes.earlier_records → FirstMakes slot image makes.start
    by zero none earlier = record {
      before = db;
      records = makes.last_records;
      used = used;
      first = subst (λ area. Replays makes.start (image area) db makes.last_records used) (last_one slot (sym none))
          (subst (λ d. Replays d (image (last_of slot)) db makes.last_records used) earlier.0 makes.last);
    }
    by (suc n) some earlier = record { before = makes.before; records = makes.earlier_records; used = earlier.0; first = earlier.1 }

earlier_replays : (second : ℕ) (bytes : List ℕ) (start before : Db) (records : ℕ) → second ≢ 0 → EarlierBy second bytes start before records → (used : ℕ) × Replays start bytes before records used
earlier_replays zero bytes start before records some earlier = absurd (some refl)
earlier_replays (suc second) bytes start before records some earlier = earlier

checkpoint_and_begins : (slot : Super) (image : Image) (db : Db) (area offset : ℕ) → Begins slot image db → CheckpointFails slot image area offset → ⊥
checkpoint_and_begins slot image db area offset begins fails =
    checkpoint_does_not_fail (image slot.checkpoint) slot.length offset db (begins_checkpoint slot.checkpoint slot.length image db fails.some begins) fails.fault

start_once : (slot : Super) (image : Image) (a b : Db) → Begins slot image a → Begins slot image b → a ≡ b
start_once slot image a b x y = begins_once slot.checkpoint slot.length image a b x y

first_and_replays : (slot : Super) (image : Image) (start before : Db) (records used area offset : ℕ) → Begins slot image start → Replays start (image slot.first) before records used → FirstFails slot image area offset → ⊥
first_and_replays slot image start before records used area offset begins replays fails =
    replays_do_not_break start before (image slot.first) records used offset replays
    (subst (λ d. BreaksOff d (image slot.first) offset) (start_once slot image fails.start start fails.begins begins) fails.fault)

area_does_not_fail : (slot : Super) (image : Image) (db : Db) (records used area offset : ℕ) → Makes slot image db records used → AreaFails slot image area offset → ⊥
area_does_not_fail slot image db records used area offset makes fails =
    ⊎_elim
    (λ f. checkpoint_and_begins slot image makes.start area offset makes.begins f)
    (λ g. ⊎_elim
    (λ f. let first = first_makes slot image db records used makes in
    first_and_replays slot image makes.start first.before first.records first.used area offset makes.begins first.first f)
    (λ f. second f)
    g)
    fails
  where
    second : SecondFails slot image area offset → ⊥
    second f =
        let start = start_once slot image f.start makes.start f.begins makes.begins in
        let earlier = earlier_replays slot.second (image slot.first) makes.start makes.before makes.earlier_records f.some makes.earlier in
        let before = one_replay.database makes.start f.before makes.before (image slot.first) f.records makes.earlier_records f.used earlier.0
        (subst (λ d. Replays d (image slot.first) f.before f.records f.used) start f.first) earlier.1 in
        let last : Replays makes.before (image slot.second) db makes.last_records used = subst (λ a. Replays makes.before (image a) db makes.last_records used) (last_two slot (positive slot.second f.some)) makes.last in
        replays_do_not_break makes.before db (image slot.second) makes.last_records used offset last (subst (λ d. BreaksOff d (image slot.second) offset) before f.fault)

first_once : (slot : Super) (image : Image) (area other offset at : ℕ) → FirstFails slot image area offset → FirstFails slot image other at → (area ≡ other) × (offset ≡ at)
first_once slot image area other offset at x y = (
  x.area_is ∙ sym y.area_is,
  one_break x.start (image slot.first) offset at x.fault (subst (λ d. BreaksOff d (image slot.first) at) (start_once slot image y.start x.start y.begins x.begins) y.fault),
)

second_once : (slot : Super) (image : Image) (area other offset at : ℕ) → SecondFails slot image area offset → SecondFails slot image other at → (area ≡ other) × (offset ≡ at)
second_once slot image area other offset at x y =
    let start = start_once slot image y.start x.start y.begins x.begins in
    let before = one_replay.database x.start y.before x.before (image slot.first) y.records x.records y.used x.used (subst (λ d. Replays d (image slot.first) y.before y.records y.used) start y.first) x.first in
    (x.area_is ∙ sym y.area_is, one_break x.before (image slot.second) offset at x.fault (subst (λ d. BreaksOff d (image slot.second) at) before y.fault))

area_once : (slot : Super) (image : Image) (area other offset at : ℕ) → AreaFails slot image area offset → AreaFails slot image other at → (area ≡ other) × (offset ≡ at)
area_once slot image area other offset at x y =
    ⊎_elim
    (λ f. ⊎_elim
    (λ g. (f.area_is ∙ sym g.area_is, checkpoint_fails_once (image slot.checkpoint) slot.length offset at f.fault g.fault))
    (λ h. ⊎_elim
    (λ g. absurd (checkpoint_and_begins slot image g.start area offset g.begins f))
    (λ g. absurd (checkpoint_and_begins slot image g.start area offset g.begins f))
    h)
    y)
    (λ e. ⊎_elim
    (λ f. ⊎_elim
    (λ g. absurd (checkpoint_and_begins slot image f.start other at f.begins g))
    (λ h. ⊎_elim
    (λ g. first_once slot image area other offset at f g)
    (λ g. absurd (first_and_replays slot image g.start g.before g.records g.used area offset g.begins g.first f))
    h)
    y)
    (λ f. ⊎_elim
    (λ g. absurd (checkpoint_and_begins slot image f.start other at f.begins g))
    (λ h. ⊎_elim
    (λ g. absurd (first_and_replays slot image f.start f.before f.records f.used other at f.begins f.first g))
    (λ g. second_once slot image area other offset at f g)
    h)
    y)
    e)
    x

-- ---- six areas

pub standing_is_not_foreign : StandingIsNotForeign
standing_is_not_foreign image db area offset stands foreign =
    ⊎_elim
    (λ fresh. ⊎_elim
    (λ s. one_of_three.unfinished_is_not_foreign (image 0) offset fresh.unfinished s.1)
    (λ n. one_of_three.unfinished_names_none (image 0) n.0 fresh.unfinished n.1)
    foreign)
    (λ one. ⊎_elim
    (λ s. one_of_three.foreign_names_none (image 0) offset one.0 s.1 one.3.names)
    (λ n.
    let same = one_slot (image 0) n.0 one.0 n.1 one.3.names in
    area_does_not_fail one.0 image db one.1 one.2 area offset one.3.makes (subst (λ s. AreaFails s image area offset) same n.2))
    foreign)
    stands

pub foreign_once : ForeignOnce
foreign_once image area other offset at x y =
    ⊎_elim
    (λ s. ⊎_elim
    (λ t. (s.0 ∙ sym t.0, one_offset (image 0) offset at s.1 t.1))
    (λ m. absurd (one_of_three.foreign_names_none (image 0) offset m.0 s.1 m.1))
    y)
    (λ n. ⊎_elim
    (λ t. absurd (one_of_three.foreign_names_none (image 0) at n.0 t.1 n.1))
    (λ m.
    let same = one_slot (image 0) m.0 n.0 m.1 n.1 in
    area_once n.0 image area other offset at n.2 (subst (λ s. AreaFails s image other at) same m.2))
    y)
    x
