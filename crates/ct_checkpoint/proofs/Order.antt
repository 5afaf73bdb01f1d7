-- Pieces follow each other exactly where some valid database has them first.
use Rattle.std.proofs.Common.{◌≡◌, true, None, List, [], ◌∷◌, ◌++◌, fold, arith, refl, sym, ap, ◌∙◌, subst, append_assoc}
use Rattle.std.proofs.lemmas.List.{append-nil}
use Rattle.ct_types.specs.declared.piece.Piece.{Piece}
use Rattle.ct_types.specs.declared.piece.Piece.TheVariants as piece
use Rattle.ct_model.specs.declared.db.Db.{Db}
use Rattle.ct_model.specs.Apply.{no_db}
use Rattle.ct_model.specs.Valid.{IsValid}
use Rattle.ct_found.specs.Pieces.{pieces_of, front_of}
use Rattle.ct_found.specs.Gathered.{Made, goes_on, gather}
use Rattle.ct_found.specs.Checkpoint.{BeginDatabase}
use Rattle.ct_found.proofs.Gathering.{going, front_gathered, front_ends}
use Rattle.ct_checkpoint.specs.Following.{Starts, Follows, GoOn, at_first, AreInOrder}
use Rattle.ct_checkpoint.specs.Laws.{OrderIsExact}
use Rattle.ct_checkpoint.proofs.Growing.{Grows, with_head, head_is_valid, grows}
use Rattle.ct_checkpoint.proofs.Going.{in_order}

-- ---- what a database begins with is in order

go_on_front : (made : Made) (front back : List Piece) → GoOn made (front ++ back) → GoOn made front
go_on_front made [] back goes = tt
go_on_front made (p ∷ front) back goes = (goes.0, goes.1, go_on_front (gather made p) front back goes.2)

go_on_back : (made : Made) (front back : List Piece) → GoOn made (front ++ back) → GoOn (fold gather made front) back
go_on_back made [] back goes = goes
go_on_back made (p ∷ front) back goes = go_on_back (gather made p) front back goes.2

order_front : (front back : List Piece) → AreInOrder (front ++ back) → AreInOrder front
order_front [] back order = tt
order_front (p ∷ front) back order = (order.0, go_on_front (gather at_first p) front back order.1)

pub order_of_begin : (pieces : List Piece) → BeginDatabase pieces → AreInOrder pieces
order_of_begin pieces begin = order_front pieces begin.more (subst AreInOrder begin.is (in_order begin.db begin.valid))

order_back : (p : Piece) (front back : List Piece) → AreInOrder (p ∷ (front ++ back)) → GoOn (fold gather at_first (p ∷ front)) back
order_back p front back order = go_on_back (gather at_first p) front back order.1

-- a piece that goes on with the pieces of a database follows it
pub follows_of_begin : (db : Db) (p : Piece) → BeginDatabase (front_of db ++ p ∷ []) → Follows db p
follows_of_begin db p begin =
    let behind = order_back (piece.Head db.version db.time db.last_xdes db.keep) _ (p ∷ []) (order_of_begin (front_of db ++ p ∷ []) begin) in
    (subst (λ made. GoOn made (p ∷ [])) (front_gathered db) behind).1

pub starts_of_begin : (p : Piece) → BeginDatabase (p ∷ []) → Starts p
starts_of_begin p begin = (order_of_begin (p ∷ []) begin).0

-- ---- what is in order begins a database

pub front_begins : (db : Db) → IsValid db → BeginDatabase (front_of db)
front_begins db valid = record { db = db; more = piece.End ∷ []; valid = valid; is = front_ends db }

pub whole_begins : (db : Db) → IsValid db → BeginDatabase (pieces_of db)
whole_begins db valid = record { db = db; more = []; valid = valid; is = sym (append-nil (pieces_of db)) }

pub no_db_is_valid : IsValid no_db
no_db_is_valid = head_is_valid 0 0 0 None (record { version_within = omega arith; time_within = omega arith; xdes_within = omega arith; keep_valid = tt })

pub nothing_begins : BeginDatabase []
nothing_begins = record { db = no_db; more = pieces_of no_db; valid = no_db_is_valid; is = refl }

none_behind : (db : Db) (pieces : List Piece) → GoOn (record { db = db; ended = true }) pieces → pieces ≡ []
none_behind db [] goes = refl
none_behind db (p ∷ pieces) goes = absurd (cc goes.0)

-- what begins with one piece more
grown_begins : (db after : Db) (p : Piece) (pieces : List Piece) → Grows db p after → BeginDatabase (front_of after ++ pieces) → BeginDatabase (front_of db ++ p ∷ pieces)
grown_begins db after p pieces grown begin = subst BeginDatabase (ap (λ l. l ++ pieces) grown.front ∙ append_assoc (front_of db) (p ∷ []) pieces) begin

go_on_begins : (db : Db) (pieces : List Piece) → IsValid db → GoOn (going db) pieces → BeginDatabase (front_of db ++ pieces)
go_on_begins db [] valid goes = subst BeginDatabase (sym (append-nil (front_of db))) (front_begins db valid)
go_on_begins db (piece.Head version time last_xdes keep ∷ pieces) valid goes = absurd goes.1
go_on_begins db (piece.Table schema tracked ∷ pieces) valid goes =
    let grown = grows db (piece.Table schema tracked) valid goes.1 (λ e. cc) in
    grown_begins db (goes_on db (piece.Table schema tracked)).db (piece.Table schema tracked) pieces grown (go_on_begins (goes_on db (piece.Table schema tracked)).db pieces grown.valid goes.2)
go_on_begins db (piece.Rows id rows ∷ pieces) valid goes =
    let grown = grows db (piece.Rows id rows) valid goes.1 (λ e. cc) in
    grown_begins db (goes_on db (piece.Rows id rows)).db (piece.Rows id rows) pieces grown (go_on_begins (goes_on db (piece.Rows id rows)).db pieces grown.valid goes.2)
go_on_begins db (piece.Kept kept ∷ pieces) valid goes =
    let grown = grows db (piece.Kept kept) valid goes.1 (λ e. cc) in
    grown_begins db (goes_on db (piece.Kept kept)).db (piece.Kept kept) pieces grown (go_on_begins (goes_on db (piece.Kept kept)).db pieces grown.valid goes.2)
go_on_begins db (piece.End ∷ pieces) valid goes =
    let none = none_behind db pieces goes.2 in
    subst (λ l. BeginDatabase (front_of db ++ piece.End ∷ l)) (sym none) (subst BeginDatabase (front_ends db) (whole_begins db valid))

begin_of_order : (pieces : List Piece) → AreInOrder pieces → BeginDatabase pieces
begin_of_order [] order = nothing_begins
begin_of_order (piece.Head version time last_xdes keep ∷ pieces) order = go_on_begins (with_head version time last_xdes keep) pieces (head_is_valid version time last_xdes keep order.0) order.1
begin_of_order (piece.Table schema tracked ∷ pieces) order = absurd order.0
begin_of_order (piece.Rows id rows ∷ pieces) order = absurd order.0
begin_of_order (piece.Kept kept ∷ pieces) order = absurd order.0
begin_of_order (piece.End ∷ pieces) order = absurd order.0

pub order_is_exact : OrderIsExact
order_is_exact pieces = (begin_of_order pieces, order_of_begin pieces)
