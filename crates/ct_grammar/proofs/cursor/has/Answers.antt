use Rattle.std.proofs.Common.{◌≡◌, ◌∙◌, sym, ap, refl, ◌||◌, ℕ, ◌+◌, ◌<◌, true, false, length, get_or, drop, drop-cons, add-one, arith}
use Rattle.std.proofs.Math.ListN.{drop_of_length-le}
use Rattle.ct_grammar.specs.declared.kind.Kind.{Kind}
use Rattle.ct_grammar.specs.declared.kind.Kind.TheVariants as k
use Rattle.ct_grammar.specs.Kinds.{Set, same, has}
use Rattle.ct_grammar.proofs.cursor.has.Goals as goal

has_step : (s : Set) (kind : Kind) (i : ℕ) → i < length s → has (drop i s) kind ≡ same (get_or s i k.Alter) kind || has (drop (i + 1) s) kind
unfolding has
has_step s kind i h = rw (drop-cons s i k.Alter, add-one) refl

pub returns-then-same : goal.returns-then-same
returns-then-same c =
    let hit : same (get_or c.args.set.now c.loop-x.x-index k.Alter) c.args.kind ≡ true = cc in
    sym (c.loop-x.invariant ∙ has_step _ _ _ c.loop-x-test.true ∙ ap (λ b. b || has (drop (c.loop-x.x-index + 1) c.args.set.now) c.args.kind) hit)

pub loop-x-preserved : goal.loop-x-preserved
loop-x-preserved c =
    let miss : same (get_or c.args.set.now c.loop-x.x-index k.Alter) c.args.kind ≡ false = cc in
    c.loop-x.invariant ∙ has_step _ _ _ c.loop-x-test.true ∙ ap (λ b. b || has (drop (c.loop-x.x-index + 1) c.args.set.now) c.args.kind) miss

pub returns : goal.returns
unfolding has
returns c = sym (c.loop-x.invariant ∙ ap (λ s. has s c.args.kind) (drop_of_length-le c.args.set.now (omega arith)))
