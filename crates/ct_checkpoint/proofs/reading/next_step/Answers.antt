use Rattle.std.proofs.Common.{◌≡◌, ◌+◌, None, drop, sym, subst, arith}
use Rattle.std.proofs.lemmas.Result.{IfOk-weaker}
use Rattle.ct_codec.specs.EntryReaders.{piece_of}
use Rattle.ct_checkpoint.specs.Following.{Follows}
use Rattle.ct_checkpoint.specs.Reading.{BeginsWith, StepsTo, stepped}
use Rattle.ct_checkpoint.proofs.Stepping.{stops_here, none_stands, other_stands, goes_further, long_enough, within, left_of, begins_found}
use Rattle.ct_checkpoint.proofs.reading.next_step.Goals as goal

pub returns-in_default : goal.returns-in_default
returns-in_default c =
    let bytes = c.args.bytes.now in
    let none = subst (λ l. piece_of l ≡ None) (left_of bytes c.args.at) (c.in_ok-piece.ensures.none c.in_default.is) in
    stops_here bytes c.args.db c.args.at c.requires (none_stands (Follows c.args.db) (drop c.args.at bytes) none)

pub returns-then-not-branch : goal.returns-then-not-branch
returns-then-not-branch c =
    let bytes = c.args.bytes.now in
    let begins = subst (λ l. BeginsWith l c.in-Some.piece c.in-Some.size) (left_of bytes c.args.at) (begins_found _ c.in_ok-piece.field-0 c.in-Some.piece c.in-Some.size c.in_ok-piece.ensures.some c.in-Some.is) in
    stops_here bytes c.args.db c.args.at c.requires
    (other_stands (Follows c.args.db) (drop c.args.at bytes) c.in-Some.piece c.in-Some.size begins (λ follows. let yes = c.in_ok-follows.ensures.1 follows in cc (yes, c.if-not-branch.true)))

pub overflow_add-at : goal.overflow_add-at
overflow_add-at c =
    let bytes = c.args.bytes.now in
    let begins = subst (λ l. BeginsWith l c.in-Some.piece c.in-Some.size) (left_of bytes c.args.at) (begins_found _ c.in_ok-piece.field-0 c.in-Some.piece c.in-Some.size c.in_ok-piece.ensures.some c.in-Some.is) in
    let fits = (long_enough (drop c.args.at bytes) c.in-Some.piece c.in-Some.size begins).0 in
    let all = within bytes _ c.args.at c.requires.so_far in
    omega (arith, fits, all)

pub returns : goal.returns
returns c =
    let bytes = c.args.bytes.now in
    let begins = subst (λ l. BeginsWith l c.in-Some.piece c.in-Some.size) (left_of bytes c.args.at) (begins_found _ c.in_ok-piece.field-0 c.in-Some.piece c.in-Some.size c.in_ok-piece.ensures.some c.in-Some.is) in
    let further = goes_further bytes c.args.db c.args.at c.in-Some.piece c.in-Some.size c.requires begins (c.in_ok-follows.ensures.0 c.if-not-branch.false) in
    IfOk-weaker c.step_behind.result (λ step. step ≡ stepped c.args.db c.in-Some.piece (c.args.at + c.in-Some.size)) (StepsTo bytes c.args.at) (λ step is. subst (StepsTo bytes c.args.at) (sym is) further) c.step_behind.ensures
