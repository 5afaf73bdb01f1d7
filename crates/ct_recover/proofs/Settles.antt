-- A disk that is settled stands for what it stood for.
use Rattle.std.proofs.Common.{◌≡◌, inl, inr, ⊎_elim, ℕ, List, [], ◌∷◌, refl, sym, subst, arith}
use Rattle.ct_faults.specs.Disk.{Image}
use Rattle.ct_model.specs.declared.db.Db.{Db}
use Rattle.ct_model.specs.Apply.{no_db}
use Rattle.ct_log.specs.Log.{IsLog}
use Rattle.ct_pages.specs.declared.slot.Super.{Super}
use Rattle.ct_pages.specs.Fresh.{fresh_slot, MayFinish}
use Rattle.ct_pages.specs.Fresh as pages
use Rattle.ct_pages.specs.Slots.{IsUnfinished}
use Rattle.ct_pages.proofs.Decoding.{one_slot, unfinished_names_none}
use Rattle.ct_found.specs.Found.{Stands, StandsFor}
use Rattle.ct_recover.specs.Laws.{SettledStands, SettledKeeps, SettlingStands}

-- a closed gate alone is the log without records
pub empty_log : (bytes : List ℕ) → bytes ≡ 0 ∷ [] → IsLog [] 1 bytes
empty_log bytes is = record { gate = 0; ignored = []; split = is; closed = λ e. cc; fit = tt; used_is = omega arith }

-- a finished disk stands for the empty database
pub fresh_stands : (image : Image) → pages.IsFresh image → Stands fresh_slot image no_db 0 1
fresh_stands image fresh = record {
  names = fresh.names;
  makes = record {
    start = no_db;
    begins = refl;
    before = no_db;
    earlier_records = 0;
    earlier = (refl, refl);
    last_records = 0;
    last = record { payloads = []; log = empty_log (image 3) fresh.log; plays = refl; records_is = refl };
    records_is = omega arith;
  };
}

-- and so does what a crash may leave of the finishing
finishing_stands : (old new : Image) → MayFinish old new → StandsFor new no_db
finishing_stands old new may = ⊎_elim (λ unfinished. inl (record { unfinished = unfinished; db_is = refl })) (λ fresh. inr (fresh_slot, 0, 1, fresh_stands new fresh)) may.stage

-- an unfinished disk stands for the empty database alone
stands_empty : (image : Image) (db : Db) → IsUnfinished (image 0) → StandsFor image db → db ≡ no_db
stands_empty image db unfinished stands = ⊎_elim (λ fresh. fresh.db_is) (λ one. absurd (unfinished_names_none (image 0) one.0 unfinished one.3.names)) stands

pub settled_keeps : SettledKeeps
settled_keeps old new slot other db records used settled stands = ⊎_elim
    (λ same.
    let there : Stands other new db records used = subst (λ (i : Image). Stands other i db records used) (sym same) stands in
    subst (λ s. Stands s new db records used) (one_slot (new 0) other slot there.names settled.names) there)
    (λ was. absurd (unfinished_names_none (old 0) other was.0 stands.names))
    settled.change

abbrev BySlot : Super → Image → Db → Type 0
BySlot slot image db = (records : ℕ) × (used : ℕ) × Stands slot image db records used

pub settled_stands : SettledStands
settled_stands old new slot db settled stands = ⊎_elim stayed finished settled.change
  where
    stayed : new ≡ old → BySlot slot new db
    stayed same = ⊎_elim
        (λ fresh. absurd (unfinished_names_none (new 0) slot (subst (λ (i : Image). IsUnfinished (i 0)) (sym same) fresh.unfinished) settled.names))
        (λ one. (one.1, one.2, settled_keeps old new slot one.0 db one.1 one.2 settled one.3))
        stands

    finished : (IsUnfinished (old 0) × pages.IsFinished old new) → BySlot slot new db
    finished was =
        let there = fresh_stands new was.1.fresh in
        let by_slot : Stands slot new no_db 0 1 = subst (λ s. Stands s new no_db 0 1) (one_slot (new 0) fresh_slot slot there.names settled.names) there in
        (0, 1, subst (λ d. Stands slot new d 0 1) (sym (stands_empty old db was.0 stands)) by_slot)

pub settling_stands : SettlingStands
settling_stands content image db stands may = ⊎_elim
    (λ same. subst (λ (i : Image). StandsFor i db) (sym same) stands)
    (λ finish. subst (StandsFor image) (sym (stands_empty content db finish.0 stands)) (finishing_stands content image finish.1))
    may
