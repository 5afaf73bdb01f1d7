use Rattle.std.proofs.Common.{◌≡◌, ◌∙◌, sym, ap, ℕ, ◌+◌, ◌<◌, true, false, if◌then◌else◌, List, length, get_or, drop, drop-cons, add-one, refl, arith}
use Rattle.std.proofs.Math.ListN.{drop_of_length-le}
use Rattle.ct_grammar.specs.declared.kind.Kind.{Kind}
use Rattle.ct_grammar.specs.declared.kind.Kind.TheVariants as k
use Rattle.ct_grammar.specs.Kinds.{spells, kind_in}
use Rattle.ct_grammar.proofs.kind.kind_in.Goals as goal

step : (kinds : List Kind) (word : List ℕ) (otherwise : Kind) (i : ℕ) → i < length kinds
    → kind_in (drop i kinds) word otherwise ≡ (if spells (get_or kinds i k.Alter) word then get_or kinds i k.Alter else kind_in (drop (i + 1) kinds) word otherwise)
unfolding kind_in
step kinds word otherwise i h = rw (drop-cons kinds i k.Alter, add-one) refl

pub returns-then-spells : goal.returns-then-spells
returns-then-spells c =
    let hit : spells (get_or c.args.kinds.now c.loop-kind.kind-index k.Alter) c.args.word.now ≡ true = cc in
    sym (c.loop-kind.invariant ∙ step _ _ _ _ c.loop-kind-test.true ∙ ap (λ b. if b then get_or c.args.kinds.now c.loop-kind.kind-index k.Alter else kind_in (drop (c.loop-kind.kind-index + 1) c.args.kinds.now) c.args.word.now c.args.otherwise) hit)

pub loop-kind-preserved : goal.loop-kind-preserved
loop-kind-preserved c =
    let miss : spells (get_or c.args.kinds.now c.loop-kind.kind-index k.Alter) c.args.word.now ≡ false = cc in
    c.loop-kind.invariant ∙ step _ _ _ _ c.loop-kind-test.true ∙ ap (λ b. if b then get_or c.args.kinds.now c.loop-kind.kind-index k.Alter else kind_in (drop (c.loop-kind.kind-index + 1) c.args.kinds.now) c.args.word.now c.args.otherwise) miss

pub returns : goal.returns
unfolding kind_in
returns c = sym (c.loop-kind.invariant ∙ ap (λ s. kind_in s c.args.word.now c.args.otherwise) (drop_of_length-le c.args.kinds.now (omega arith)))
