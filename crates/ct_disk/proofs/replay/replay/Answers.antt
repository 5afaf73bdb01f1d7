use Rattle.std.proofs.Common.{◌≡◌, length, ap, ◌∙◌, subst, sym, List, ℕ, take, drop, ◌+◌, ◌-◌, arith}
use Rattle.std.proofs.lemmas.Result.{on_ok_weaker}
use Rattle.std.proofs.lemmas.List.{take_all, take-append-le}
use Rattle.ct_disk.specs.Areas.{area_at}
use Rattle.ct_disk.specs.Mem.{CallWithin}
use Rattle.ct_disk.specs.Crash.{torn_at, torn_bytes, torn_place}
use Rattle.ct_disk.proofs.Placed.{HaveRoom-none}
use Rattle.ct_disk.proofs.Crashes.{torn-length, write-again, cut-again, sync-again, image-changed}
use Rattle.ct_disk.proofs.replay.replay.Goals as goal

pub slice_bounds-from_slice-end : goal.slice_bounds-from_slice-end
slice_bounds-from_slice-end c = omega (arith, (subst (CallWithin (length c.args.written.now)) c.in-Write.is c.requires.within).1)

pub write_again-requires-clause-area : goal.write_again-requires-clause-area
write_again-requires-clause-area c = (subst (CallWithin (length c.args.written.now)) c.in-Write.is c.requires.within).0

pub cut_at-requires-clause-area : goal.cut_at-requires-clause-area
cut_at-requires-clause-area c = omega (arith, subst (CallWithin (length c.args.written.now)) c.in-Cut.is c.requires.within, c.requires.count)

pub cut_at-requires-clause-room : goal.cut_at-requires-clause-room
cut_at-requires-clause-room c = HaveRoom-none _

pub returns-in_ok-bytes-in-Write-clause-image : goal.returns-in_ok-bytes-in-Write-clause-image
returns-in_ok-bytes-in-Write-clause-image c =
    let torn : List ℕ = c.args.torn.now in
    let next : ℕ = c.args.next.now in
    let from : ℕ = c.in-Write.from in
    let there : List ℕ = drop from c.args.written.now in
    let bytes : List ℕ = c.tear_bytes.new.bytes in
    let same : from + c.in-Write.len - from ≡ c.in-Write.len = omega arith in
    let own : c.as_mut_slice.result.now ≡ take c.in-Write.len there =
    c.as_mut_slice.ensures.value ∙ c.in_ok-bytes-in-Write.ensures.items ∙ ap (λ (n : ℕ). take n there) same in
    let long : length bytes ≡ c.in_ok-bytes-in-Write.bytes.len =
    ap length c.tear_bytes.ensures.bytes ∙ torn-length torn next c.as_mut_slice.result.now ∙ ap length c.as_mut_slice.ensures.value ∙ sym c.in_ok-bytes-in-Write.bytes.ok.0 in
    let all : c.as_slice.result.now ≡ bytes =
    c.as_slice.ensures.value ∙ take-append-le c.in_ok-bytes-in-Write.bytes.len bytes _ (omega (arith, long)) ∙ take_all c.in_ok-bytes-in-Write.bytes.len bytes (omega (arith, long)) in
    on_ok_weaker c.write_again.result
    (write-again torn c.args.written.now (area_at c.args.areas.now.items) (area_at c.write_again.new.areas.items) c.args.call next c.tear_bytes.new.next c.in-Write.area c.in-Write.at from c.in-Write.len c.as_slice.result.now c.in-Write.is
    (all ∙ c.tear_bytes.ensures.bytes ∙ ap (torn_bytes torn next) own) (c.tear_bytes.ensures.next ∙ ap (torn_place torn next) own))
    c.write_again.ensures.image

pub returns-in-Cut-clause-image : goal.returns-in-Cut-clause-image
returns-in-Cut-clause-image c = cut-again c.args.torn.now c.args.written.now (area_at c.args.areas.now.items) (area_at c.cut_at.new.areas.items) c.args.call c.args.next.now c.in-Cut.area c.in-Cut.len c.in-Cut.is
    (image-changed (area_at c.args.areas.now.items) (area_at c.cut_at.new.areas.items) c.in-Cut.area (take c.in-Cut.len (area_at c.args.areas.now.items c.in-Cut.area)) c.cut_at.ensures.written c.cut_at.ensures.others)

pub returns-in-Sync-clause-image : goal.returns-in-Sync-clause-image
returns-in-Sync-clause-image c = sync-again c.args.torn.now c.args.written.now (torn_at (area_at c.args.areas.now.items) c.args.next.now) c.args.call c.in-Sync.ok c.in-Sync.is
