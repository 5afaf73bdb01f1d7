-- Writes without the keys that their rows have.
use Rattle.std.proofs.Common.{◌≡◌, suc, ◌<◌, ◌^◌, List, [], ◌∷◌, ◌++◌, length, map, refl, ap, subst, ◌∙◌}
use Rattle.std.specs.List.{AllByRecursion, flat_map}
use Rattle.byteorder.specs.Endian.{little_bytes}
use Rattle.ct_types.specs.declared.entry.Act.{Act}
use Rattle.ct_types.specs.declared.entry.Act.TheVariants.{Commit}
use Rattle.ct_types.specs.declared.entry.Write.{Write}
use Rattle.ct_codec.specs.Spellings.{bare_write, bare_act, spell_write, WriteFits, spell_act, ActFits, spell_counted, CountedFit}

pub spell_bare_writes : (writes : List Write) → flat_map spell_write (map bare_write writes) ≡ flat_map (λ write. spell_write (bare_write write)) writes
spell_bare_writes [] = refl
spell_bare_writes (write ∷ writes) = ap (λ l. spell_write (bare_write write) ++ l) (spell_bare_writes writes)

pub bare_writes_fit : (writes : List Write) → AllByRecursion WriteFits (map bare_write writes) → AllByRecursion (λ write. WriteFits (bare_write write)) writes
bare_writes_fit [] f = tt
bare_writes_fit (write ∷ writes) f = (f.0, bare_writes_fit writes f.1)

as_many : (writes : List Write) → length (map bare_write writes) ≡ length writes
as_many [] = refl
as_many (write ∷ writes) = ap (λ n. suc n) (as_many writes)

-- the writes of a commit that can be spelled fit
pub commit_fits : (act : Act) (writes : List Write) → act ≡ Commit writes → ActFits (bare_act act) → CountedFit 4 (λ write. WriteFits (bare_write write)) writes
commit_fits act writes is fits =
    let bare : CountedFit 4 WriteFits (map bare_write writes) = subst (λ a. ActFits (bare_act a)) is fits in
    (subst (λ n. n < 256 ^ 4) (as_many writes) bare.0, bare_writes_fit writes bare.1)

-- a commit is spelled as its writes
pub spell_commit : (act : Act) (writes : List Write) → act ≡ Commit writes → spell_act (bare_act act) ≡ spell_counted 4 (λ write. spell_write (bare_write write)) writes
spell_commit act writes is = ap (λ a. spell_act (bare_act a)) is ∙ (λ i. little_bytes 4 (as_many writes i) ++ spell_bare_writes writes i)
