use Rattle.std.proofs.Common.{◌≡◌, sym, ap₂, ◌∙◌, subst}
use Rattle.ct_database.specs.Steps.{AreByTable, EndsAt, older_of}
use Rattle.ct_database.proofs.ByTable.{sealed_by_table}
use Rattle.ct_database.proofs.Chunks.{sealed_commits, sealed_keyed}
use Rattle.ct_database.proofs.sealed.seal.Goals as goal

pub returns-in_ok-put-in-Some-clause-keyed : goal.returns-in_ok-put-in-Some-clause-keyed
returns-in_ok-put-in-Some-clause-keyed c =
    let at : EndsAt c.in-Some.key c.args.recent.now = rw c.in-Some.is at c.in_ok-last_key.ensures in
    let is : c.in_ok-chunk-in-Some.chunk.value ≡ c.args.recent.now = c.in_ok-chunk-in-Some.ensures.ok ∙ c.in_ok-share-in-Some.ensures in
    rw c.in_ok-put-in-Some.ensures.ok (sealed_keyed c.args.sealed.now c.args.recent.now c.in-Some.key c.in_ok-chunk-in-Some.chunk c.requires.keyed at c.requires.rising is)

pub returns-in_ok-put-in-Some-clause-same : goal.returns-in_ok-put-in-Some-clause-same
returns-in_ok-put-in-Some-clause-same c =
    let at : EndsAt c.in-Some.key c.args.recent.now = rw c.in-Some.is at c.in_ok-last_key.ensures in
    let is : c.in_ok-chunk-in-Some.chunk.value ≡ c.args.recent.now = c.in_ok-chunk-in-Some.ensures.ok ∙ c.in_ok-share-in-Some.ensures in
    ap₂ older_of c.in_ok-put-in-Some.ensures.ok c.clear.ensures
    ∙ sealed_commits c.args.sealed.now c.args.recent.now c.in-Some.key c.in_ok-chunk-in-Some.chunk c.requires.keyed at c.requires.rising is

pub returns-in_ok-put-in-Some-clause-listed : goal.returns-in_ok-put-in-Some-clause-listed
returns-in_ok-put-in-Some-clause-listed c =
    let at : EndsAt c.in-Some.key c.args.recent.now = rw c.in-Some.is at c.in_ok-last_key.ensures in
    let is : c.in_ok-chunk-in-Some.chunk.value ≡ c.args.recent.now = c.in_ok-chunk-in-Some.ensures.ok ∙ c.in_ok-share-in-Some.ensures in
    let own = c.in_ok-own-in-Some.own in
    subst (λ sealed. AreByTable sealed own) (sym c.in_ok-put-in-Some.ensures.ok)
    (sealed_by_table c.args.sealed.now c.args.by_table.now own c.args.recent.now c.in-Some.key c.in_ok-chunk-in-Some.chunk c.requires.keyed at c.requires.rising is c.requires.listed c.in_ok-own-in-Some.ensures)
