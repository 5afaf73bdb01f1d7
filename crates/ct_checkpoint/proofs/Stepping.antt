-- The reading of a checkpoint, step by step.
use Rattle.std.proofs.Common.{◌≡◌, ◌≢◌, ℕ, ◌+◌, ◌-◌, ◌<◌, ◌≤◌, true, Option, Some, None, List, [], ◌∷◌, ◌++◌, IfSome, length, take, drop, fold, refl, sym, ap, ◌∙◌, subst, arith, append_assoc, length-append, length-drop}
use Rattle.std.proofs.lemmas.List.{append-nil, take_all, drop-drop}
use Rattle.std.proofs.lemmas.List.Concat.{flat_map-append}
use Rattle.ct_types.specs.declared.piece.Piece.{Piece}
use Rattle.ct_types.specs.declared.piece.Piece.TheVariants as piece
use Rattle.ct_types.proofs.Lists.{all_append}
use Rattle.ct_model.specs.declared.db.Db.{Db}
use Rattle.ct_model.specs.Apply.{no_db}
use Rattle.ct_codec.specs.EntryReaders.{piece_of}
use Rattle.ct_codec.specs.Spellings.{spell_piece, PieceFits}
use Rattle.ct_codec.proofs.Combined.{found_same}
use Rattle.ct_codec.proofs.PieceLaws.{law_piece}
use Rattle.ct_found.specs.Checkpoint.{IsCheckpoint, BeginDatabase, PiecesStop}
use Rattle.ct_found.specs.Gathered.{Made, gather}
use Rattle.ct_found.specs.Pieces.{pieces_of, front_of, spell_pieces}
use Rattle.ct_found.proofs.Faults.{no_stop}
use Rattle.ct_found.proofs.Gathering.{going, gathered, front_gathered, front_ends, one_database}
use Rattle.ct_checkpoint.specs.Following.{Starts, Follows}
use Rattle.ct_checkpoint.specs.Reading.{ReadsPieces, ReadsUpTo, ReadsWhole, BeginsWith, StepsTo, stepped}
use Rattle.ct_checkpoint.proofs.Growing.{Grows, head_is_valid, grows}
use Rattle.ct_checkpoint.proofs.Order.{follows_of_begin, starts_of_begin, front_begins, whole_begins, nothing_begins}

-- ---- where it stops

-- no piece stands here that goes on
abbrev pub NoneStands : (Piece → Type 0) → List ℕ → Type 0
NoneStands P bytes = (p : Piece) (rest : List ℕ) → P p → piece_of bytes ≡ Some (p, rest) → ⊥

not_ended : (db other : Db) → pieces_of other ≡ front_of db → ⊥
not_ended db other is =
    let one : Made = record { db = other; ended = true } in
    let same : one ≡ going db = sym (gathered other) ∙ ap (λ l. fold gather (going no_db) l) is ∙ front_gathered db in
    cc (ap (λ m. m.ended) same)

pub stops_here : (bytes : List ℕ) (db : Db) (at : ℕ) → ReadsUpTo bytes db at → NoneStands (Follows db) (drop at bytes) → PiecesStop bytes at
stops_here bytes db at reads none = record {
  pieces = front_of db;
  rest = drop at bytes;
  split = reads.so_far.split;
  fit = reads.so_far.fit;
  begin = front_begins db reads.valid;
  unfinished = λ other valid is end. not_ended db other is;
  none = λ p tail fit is begin. none p tail (follows_of_begin db p begin) (ap piece_of is ∙ law_piece.complete p tail fit);
  offset_is = reads.so_far.at_is;
}

pub stops_first : (bytes : List ℕ) → NoneStands Starts bytes → PiecesStop bytes 0
stops_first bytes none = record {
  pieces = [];
  rest = bytes;
  split = refl;
  fit = tt;
  begin = nothing_begins;
  unfinished = λ other valid is end. cc is;
  none = λ p tail fit is begin. none p tail (starts_of_begin p begin) (ap piece_of is ∙ law_piece.complete p tail fit);
  offset_is = refl;
}

-- where no piece stands, or one that does not go on
pub none_stands : (P : Piece → Type 0) (bytes : List ℕ) → piece_of bytes ≡ None → NoneStands P bytes
none_stands P bytes none p rest fits is = cc (sym none ∙ is)

pub other_stands : (P : Piece → Type 0) (bytes : List ℕ) (p : Piece) (size : ℕ) → BeginsWith bytes p size → (P p → ⊥) → NoneStands P bytes
other_stands P bytes p size begins fails other rest fits is = fails (subst P (found_same other p rest (drop size bytes) (sym is ∙ begins.read)).0 fits)

-- ---- where it goes on

pub reads_nothing : (bytes : List ℕ) → ReadsPieces bytes [] 0
reads_nothing bytes = record { split = refl; fit = tt; at_is = refl }

pub long_enough : (bytes : List ℕ) (p : Piece) (size : ℕ) → BeginsWith bytes p size → (size ≤ length bytes) × (0 < size)
long_enough bytes p size begins =
    let was = (law_piece.sound bytes (drop size bytes) p begins.read).0 in
    (omega (arith, ap length was, length-append (spell_piece p) (drop size bytes), begins.size_is), omega (arith, begins.size_is))

reads_push : (bytes : List ℕ) (pieces : List Piece) (at : ℕ) (p : Piece) (size : ℕ) → ReadsPieces bytes pieces at → BeginsWith (drop at bytes) p size → ReadsPieces bytes (pieces ++ p ∷ []) (at + size)
reads_push bytes pieces at p size reads begins =
    let was = law_piece.sound (drop at bytes) (drop size (drop at bytes)) p begins.read in
    let spelled : spell_pieces (pieces ++ p ∷ []) ≡ spell_pieces pieces ++ spell_piece p = flat_map-append spell_piece pieces (p ∷ []) ∙ ap (λ l. spell_pieces pieces ++ l) (append-nil (spell_piece p)) in
    record {
      split =
          reads.split
          ∙ ap (λ l. spell_pieces pieces ++ l) (was.0 ∙ ap (λ l. spell_piece p ++ l) (drop-drop size at bytes))
          ∙ sym (append_assoc (spell_pieces pieces) (spell_piece p) (drop (at + size) bytes))
          ∙ ap (λ l. l ++ drop (at + size) bytes) (sym spelled);
      fit = all_append PieceFits pieces (p ∷ []) reads.fit (was.1, tt);
      at_is = omega (arith, reads.at_is, begins.size_is, ap length spelled, length-append (spell_pieces pieces) (spell_piece p));
    }

grown_further : (bytes : List ℕ) (db : Db) (at : ℕ) (p : Piece) (size : ℕ) (after : Db) → ReadsUpTo bytes db at → BeginsWith (drop at bytes) p size → Grows db p after
    → ReadsUpTo bytes after (at + size) × (at < at + size)
grown_further bytes db at p size after reads begins grown = (
  record { valid = grown.valid; so_far = subst (λ l. ReadsPieces bytes l (at + size)) (sym grown.front) (reads_push bytes (front_of db) at p size reads.so_far begins) },
  omega (arith, (long_enough (drop at bytes) p size begins).1),
)

pub goes_further : (bytes : List ℕ) (db : Db) (at : ℕ) (p : Piece) (size : ℕ) → ReadsUpTo bytes db at → BeginsWith (drop at bytes) p size → Follows db p → StepsTo bytes at (stepped db p (at + size))
goes_further bytes db at (piece.Head version time last_xdes keep) size reads begins follows = absurd follows
goes_further bytes db at (piece.Table schema tracked) size reads begins follows =
    grown_further bytes db at (piece.Table schema tracked) size _ reads begins (grows db (piece.Table schema tracked) reads.valid follows (λ e. cc))
goes_further bytes db at (piece.Rows id rows) size reads begins follows =
    grown_further bytes db at (piece.Rows id rows) size _ reads begins (grows db (piece.Rows id rows) reads.valid follows (λ e. cc))
goes_further bytes db at (piece.Kept kept) size reads begins follows =
    grown_further bytes db at (piece.Kept kept) size _ reads begins (grows db (piece.Kept kept) reads.valid follows (λ e. cc))
goes_further bytes db at piece.End size reads begins follows =
    record { valid = reads.valid; so_far = subst (λ l. ReadsPieces bytes l (at + size)) (sym (front_ends db)) (reads_push bytes (front_of db) at piece.End size reads.so_far begins) }

first_piece : (bytes : List ℕ) (p : Piece) (size : ℕ) → BeginsWith bytes p size → ReadsPieces bytes (p ∷ []) size
first_piece bytes p size begins = let e : 0 + size ≡ size = omega arith in subst (ReadsPieces bytes (p ∷ [])) e (reads_push bytes [] 0 p size (reads_nothing bytes) begins)

pub starts_so : (bytes : List ℕ) (p : Piece) (size : ℕ) → BeginsWith bytes p size → Starts p → StepsTo bytes 0 (stepped no_db p size)
starts_so bytes (piece.Head version time last_xdes keep) size begins starts = (
  record { valid = head_is_valid version time last_xdes keep starts; so_far = first_piece bytes (piece.Head version time last_xdes keep) size begins },
  (long_enough bytes (piece.Head version time last_xdes keep) size begins).1,
)
starts_so bytes (piece.Table schema tracked) size begins starts = absurd starts
starts_so bytes (piece.Rows id rows) size begins starts = absurd starts
starts_so bytes (piece.Kept kept) size begins starts = absurd starts
starts_so bytes piece.End size begins starts = absurd starts

pub within : (bytes : List ℕ) (pieces : List Piece) (at : ℕ) → ReadsPieces bytes pieces at → at + length (drop at bytes) ≡ length bytes
within bytes pieces at reads = omega (arith, ap length reads.split, length-append (spell_pieces pieces) (drop at bytes), reads.at_is)

-- ---- where it ends

pub whole_checkpoint : (bytes : List ℕ) (db : Db) (at : ℕ) → ReadsWhole bytes db at → at ≡ length bytes → IsCheckpoint bytes (length bytes) db
whole_checkpoint bytes db at reads ends = record {
  ignored = drop at bytes;
  split = reads.so_far.split;
  size_is = sym ends ∙ reads.so_far.at_is;
  fit = reads.so_far.fit;
  valid = reads.valid;
}

-- nothing goes on behind all pieces of a database
nothing_behind : (db : Db) (p : Piece) → BeginDatabase (pieces_of db ++ p ∷ []) → ⊥
nothing_behind db p begin =
    let longer : pieces_of begin.db ≡ pieces_of db ++ p ∷ begin.more = begin.is ∙ append_assoc (pieces_of db) (p ∷ []) begin.more in
    let same : begin.db ≡ db = one_database begin.db db (p ∷ begin.more) longer in
    absurd (omega (arith, ap (λ d. length (pieces_of d)) same, ap length longer, length-append (pieces_of db) (p ∷ begin.more)))

pub stops_behind : (bytes : List ℕ) (db : Db) (at : ℕ) → ReadsWhole bytes db at → at ≢ length bytes → PiecesStop bytes at
stops_behind bytes db at reads more = record {
  pieces = pieces_of db;
  rest = drop at bytes;
  split = reads.so_far.split;
  fit = reads.so_far.fit;
  begin = whole_begins db reads.valid;
  unfinished = λ other valid is end. more (omega (arith, within bytes (pieces_of db) at reads.so_far, ap length end));
  none = λ p tail fit is begin. nothing_behind db p begin;
  offset_is = reads.so_far.at_is;
}

-- a checkpoint stops nowhere
pub no_stop_in_checkpoint : (bytes : List ℕ) (offset : ℕ) (db : Db) → IsCheckpoint bytes (length bytes) db → PiecesStop bytes offset → ⊥
no_stop_in_checkpoint bytes offset db is stops =
    let spelled = spell_pieces (pieces_of db) in
    let none : is.ignored ≡ [] = nothing_left is.ignored (omega (arith, is.size_is, ap length is.split, length-append spelled is.ignored)) in
    no_stop bytes offset db is.valid is.fit (is.split ∙ ap (λ l. spelled ++ l) none ∙ append-nil spelled) stops
  where
    nothing_left : (l : List ℕ) → length l ≡ 0 → l ≡ []
    nothing_left [] e = refl
    nothing_left (x ∷ l) e = absurd (omega arith)

-- ---- as the code has it

-- what is left of some bytes
pub left_of : (bytes : List ℕ) (at : ℕ) → take (length bytes - at) (drop at bytes) ≡ drop at bytes
left_of bytes at = take_all (length bytes - at) (drop at bytes) (omega (arith, length-drop at bytes))

pub begins_found : (bytes : List ℕ) (found : Option (Piece × ℕ)) (p : Piece) (size : ℕ) → IfSome found (λ one. BeginsWith bytes one.0 one.1) → found ≡ Some (p, size) → BeginsWith bytes p size
begins_found bytes found p size some is = subst (λ o. IfSome o (λ one. BeginsWith bytes one.0 one.1)) is some
