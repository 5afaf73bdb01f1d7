use Rattle.std.proofs.Common.{◌≡◌, sym, ap, ap₂, ◌∙◌}
use Rattle.std.specs.Option.{option_copied}
use Rattle.std.proofs.lemmas.Result.{IfOk-weaker}
use Rattle.ct_ptree.specs.Pairs.{set_pair, without}
use Rattle.ct_database.specs.Steps.{chunks_of, found_chunks, with_chunk}
use Rattle.ct_database.proofs.ByTable.{chunks_put, chunks_taken}
use Rattle.ct_database.proofs.by_table.with_chunk.Goals as goal

pub returns-in-None : goal.returns-in-None
returns-in-None c =
    let old = c.in_ok-made.made in
    let key = c.args.key.now in
    let chunks = found_chunks (option_copied c.args.chunks) in
    IfOk-weaker c.remove.result (λ made. made ≡ without old key) (λ made. chunks_of made ≡ with_chunk (option_copied c.args.chunk) key chunks)
    (λ made e.
    ap chunks_of e ∙ chunks_taken old key ∙ ap (λ chunks. without chunks key) c.in_ok-made.ensures ∙ sym (ap (λ chunk. with_chunk (option_copied chunk) key chunks) c.in-None.is))
    c.remove.ensures

pub returns : goal.returns
returns c =
    let old = c.in_ok-made.made in
    let key = c.args.key.now in
    let copy = c.in_ok-copy-in-Some.field-0 in
    let pointer = c.in_ok-try_clone-in-Some.field-0 in
    let chunks = found_chunks (option_copied c.args.chunks) in
    IfOk-weaker c.insert.result (λ made. made ≡ set_pair old copy pointer) (λ made. chunks_of made ≡ with_chunk (option_copied c.args.chunk) key chunks)
    (λ made e.
    ap chunks_of e
    ∙ chunks_put old copy pointer
    ∙ ap₂ (λ key chunks. set_pair chunks key pointer.value) c.in_ok-copy-in-Some.ensures c.in_ok-made.ensures
    ∙ ap (λ commits. set_pair chunks key commits) c.in_ok-try_clone-in-Some.ensures
    ∙ sym (ap (λ chunk. with_chunk (option_copied chunk) key chunks) c.in-Some.is))
    c.insert.ensures
