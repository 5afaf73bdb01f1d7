use Rattle.std.proofs.Common.{◌≡◌, List, ℕ, ◌++◌, ap, ◌∙◌, append_assoc}
use Rattle.byteorder.specs.Endian.{little_bytes}
use Rattle.ct_codec.specs.Spellings.{spell_counted, spell_change}
use Rattle.ct_codec.proofs.Turns.{on_ok}
use Rattle.ct_codec.proofs.piece.put_kept.Goals as goal

behind_three : (out a b c d : List ℕ) → ((out ++ a) ++ (b ++ c)) ++ d ≡ out ++ (a ++ (b ++ (c ++ d)))
behind_three out a b c d = append_assoc (out ++ a) (b ++ c) d ∙ append_assoc out a ((b ++ c) ++ d) ∙ ap (λ l. out ++ (a ++ l)) (append_assoc b c d)

pub returns : goal.returns
returns c =
    let kept = c.args.kept.now in
    let out = c.args.out.now.items in
    let version = little_bytes 8 kept.version in
    let xdes = little_bytes 8 kept.xdes in
    let time = little_bytes 8 kept.time in
    let first : c.put_u64-2.new.out.items ≡ (out ++ version) ++ xdes = c.in_ok-put_u64-2.ensures ∙ ap (λ l. l ++ xdes) c.in_ok-put_u64.ensures in
    let stamps : c.put_u64-3.new.out.items ≡ (out ++ version) ++ (xdes ++ time) = c.in_ok-put_u64-3.ensures ∙ ap (λ l. l ++ time) first ∙ append_assoc (out ++ version) xdes time in
    on_ok c.put_many.result (λ e. e ∙ (λ i. stamps i ++ spell_counted 4 spell_change (c.as_slice.ensures i)) ∙ behind_three out version xdes time (spell_counted 4 spell_change kept.changes)) c.put_many.ensures
