-- The first write whose key was written after a view, walked from the front.
use Rattle.std.proofs.Common.{◌≡◌, ℕ, ◌+◌, ◌<◌, List, length, drop, get_or, Option, sym, ap, ◌∙◌}
use Rattle.std.specs.Option.{option_or}
use Rattle.ct_types.specs.declared.entry.Entry.{Entry}
use Rattle.ct_types.specs.declared.entry.Write.{Write}
use Rattle.ct_ptree.proofs.Lists.{drop_at}
use Rattle.ct_conflicts.specs.Conflicts.{conflicting_keys}
use Rattle.ct_conflicts.specs.Later.{last_write, number_after, Tells}
use Rattle.ct_conflicts.specs.declared.stamps.TableStamps.{TableStamps}

-- one write further: what was found for it, else what comes behind
pub one_asked : (later : List TableStamps) (view : ℕ) (entries : List Entry) (writes : List Write) (i : ℕ) (write : Write) (found : Option ℕ) → Tells later view entries
    → i < length writes → write ≡ get_or writes i write → found ≡ number_after view (last_write later write.table write.key)
    → conflicting_keys entries (drop i writes) ≡ option_or found (conflicting_keys entries (drop (i + 1) writes))
one_asked later view entries writes i write found tells within is told =
    ap (conflicting_keys entries) (drop_at writes i write within is)
    ∙ ap (λ o. option_or o (conflicting_keys entries (drop (i + 1) writes))) (tells.written write.table write.key ∙ sym told)
