-- What stands behind writes that a statement came to.
use Rattle.std.proofs.Common.{◌≡◌, ℕ, ◌≤◌, Bool, true, false, nat_le, List, [], ◌∷◌, map, length, Option, Some, None, Ok, Err, refl, sym, subst, if◌then◌else◌, arith}
use Rattle.std.specs.List.{AllByRecursion}
use Rattle.std.proofs.lemmas.Bool.Decides.{nat_tests}
use Rattle.ct_types.specs.declared.bound.BoundExpr.{BoundExpr}
use Rattle.ct_types.specs.declared.bound.BoundWrite.{BoundWrite}
use Rattle.ct_types.specs.declared.catalogue.Catalogued.{Catalogued}
use Rattle.ct_types.specs.declared.entry.Write.{Write}
use Rattle.ct_types.specs.declared.refusal.Refusal.TheVariants.{TooLong}
use Rattle.ct_types.specs.declared.value.Row.{Row}
use Rattle.ct_types.specs.declared.value.Value.{Value}
use Rattle.ct_types.specs.declared.value.Value.TheVariants.{Null, Int, Text, Bytes}
use Rattle.ct_model.specs.Lists.{EachToLater}
use Rattle.ct_model.specs.Valid.{ContextFits}
use Rattle.ct_expr.specs.Meaning.{World, on, value, holds}
use Rattle.ct_types.specs.Answers.{Answer, ◌>>=◌, each}
use Rattle.ct_write.specs.declared.changes.Changed.{Changed}
use Rattle.ct_write.specs.Rows.{no_row, targets, changes_of}
use Rattle.ct_write.specs.Writes.{Context, fit_context, context_of, write_of, fitted, writes_of}

pub record Came {A B : Type 0} (r : Answer A) (f : A → Answer B) (b : B) : Type 0 where
  pub first : A
  pub was : r ≡ Ok first
  pub next : f first ≡ Ok b

pub came : {A B : Type 0} (r : Answer A) (f : A → Answer B) (b : B) → (r >>= f) ≡ Ok b → Came r f b
came (Ok a) f b e = record { first = a; was = refl; next = e }
came (Err x) f b e = cc

abbrev ok : {A : Type 0} → A → Answer A
ok a = Ok a

pub same_ok : {A : Type 0} (a b : A) → ok a ≡ ok b → a ≡ b
same_ok a b e = cc

-- ---- the parts of a statement

pub record Parts (w : World) (table : Catalogued) (bound : BoundWrite) (rows : List Row) (writes : List Write) : Type 0 where
  pub context : Context
  pub changes : List Changed
  pub context_was : context_of w bound.context ≡ Ok context
  pub changes_were : changes_of w table.schema bound.change rows ≡ Ok changes
  pub fit : fitted table.schema changes ≡ Ok tt
  pub writes_are : map (write_of table bound.change context) changes ≡ writes

pub parts_of : (w : World) (table : Catalogued) (bound : BoundWrite) (rows : List Row) (writes : List Write) → writes_of w table bound rows ≡ Ok writes
    → Parts w table bound rows writes
unfolding writes_of
parts_of w table bound rows writes e =
    let c = came (context_of w bound.context) _ writes e in
    let d = came (changes_of w table.schema bound.change rows) _ writes c.next in
    let f = came (fitted table.schema d.first) _ writes d.next in
    record { context = c.first; changes = d.first; context_was = c.was; changes_were = d.was; fit = f.was; writes_are = same_ok _ _ f.next }

-- ---- members

-- what each member came to has a fact where the member has one
pub each_all : {A B : Type 0} (f : A → Answer B) (P : A → Type 0) (Q : B → Type 0) → ((x : A) (y : B) → P x → f x ≡ Ok y → Q y)
    → (xs : List A) (ys : List B) → AllByRecursion P xs → each f xs ≡ Ok ys → AllByRecursion Q ys
each_all f P Q keeps [] ys all e = let none : [] ≡ ys = same_ok _ _ e in subst (AllByRecursion Q) none tt
each_all f P Q keeps (x ∷ xs) ys all e =
    let c = came (f x) _ ys e in
    let d = came (each f xs) _ ys c.next in
    let are : c.first ∷ d.first ≡ ys = same_ok _ _ d.next in
    subst (AllByRecursion Q) are (keeps x c.first all.0 c.was, each_all f P Q keeps xs d.first all.1 d.was)

-- and so of each member and every later one
pub each_pairs : {A B : Type 0} (f : A → Answer B) (R : A → A → Type 0) (S : B → B → Type 0)
    → ((x z : A) (y u : B) → R x z → f x ≡ Ok y → f z ≡ Ok u → S y u)
    → (xs : List A) (ys : List B) → EachToLater R xs → each f xs ≡ Ok ys → EachToLater S ys
each_pairs f R S keeps [] ys all e = let none : [] ≡ ys = same_ok _ _ e in subst (EachToLater S) none tt
each_pairs f R S keeps (x ∷ xs) ys all e =
    let c = came (f x) _ ys e in
    let d = came (each f xs) _ ys c.next in
    let are : c.first ∷ d.first ≡ ys = same_ok _ _ d.next in
    subst (EachToLater S) are
    (each_all f (R x) (S c.first) (λ z u r was. keeps x z c.first u r c.was was) xs d.first all.0 d.was, each_pairs f R S keeps xs d.first all.1 d.was)

-- ---- targets

pub targets_all : (w : World) (filter : Option BoundExpr) (P : Row → Type 0) (rows chosen : List Row) → AllByRecursion P rows
    → targets w filter rows ≡ Ok chosen → AllByRecursion P chosen
targets_all w filter P [] chosen all e = let none : [] ≡ chosen = same_ok _ _ e in subst (AllByRecursion P) none tt
targets_all w filter P (row ∷ rows) chosen all e =
    let c = came (holds w filter row) _ chosen e in
    let d = came (targets w filter rows) _ chosen c.next in
    let more : AllByRecursion P d.first = targets_all w filter P rows d.first all.1 d.was in
    let are : (if c.first then row ∷ d.first else d.first) ≡ chosen = same_ok _ _ d.next in
    subst (AllByRecursion P) are (elim c.first as (λ b. AllByRecursion P (if b then row ∷ d.first else d.first)) [ true ↦ (all.0, more) | false ↦ more ])

pub targets_pairs : (w : World) (filter : Option BoundExpr) (R : Row → Row → Type 0) (rows chosen : List Row) → EachToLater R rows
    → targets w filter rows ≡ Ok chosen → EachToLater R chosen
targets_pairs w filter R [] chosen all e = let none : [] ≡ chosen = same_ok _ _ e in subst (EachToLater R) none tt
targets_pairs w filter R (row ∷ rows) chosen all e =
    let c = came (holds w filter row) _ chosen e in
    let d = came (targets w filter rows) _ chosen c.next in
    let more : EachToLater R d.first = targets_pairs w filter R rows d.first all.1 d.was in
    let first : AllByRecursion (R row) d.first = targets_all w filter (R row) rows d.first all.0 d.was in
    let are : (if c.first then row ∷ d.first else d.first) ≡ chosen = same_ok _ _ d.next in
    subst (EachToLater R) are (elim c.first as (λ b. EachToLater R (if b then row ∷ d.first else d.first)) [ true ↦ (first, more) | false ↦ more ])

-- without WHERE each row is one
pub targets_are_all : (w : World) (rows : List Row) → targets w None rows ≡ Ok rows
targets_are_all w [] = refl
targets_are_all w (row ∷ rows) = rw (targets_are_all w rows) refl

-- ---- the context

within : (n : ℕ) → nat_le n 128 ≡ true → n ≤ 128
within n e = grind (arith, nat_tests)

short_bytes : (b : List ℕ) (name : List ℕ) (context : Context) (told : Bool) → told ≡ nat_le (length b) 128
    → (if told then ok (Some b) else Err (TooLong name)) ≡ ok context → ContextFits context
short_bytes b name context true is e =
    let are : Some b ≡ context = same_ok _ _ e in subst ContextFits are (within (length b) (sym is))
short_bytes b name context false is e = cc

context_short : (v : Value) (context : Context) → fit_context v ≡ Ok context → ContextFits context
context_short (Bytes b) context e = short_bytes b _ context (nat_le (length b) 128) refl e
context_short Null context e = let are : None ≡ context = same_ok _ _ e in subst ContextFits are tt
context_short (Int n) context e = let are : None ≡ context = same_ok _ _ e in subst ContextFits are tt
context_short (Text t) context e = let are : None ≡ context = same_ok _ _ e in subst ContextFits are tt

pub context_fits : (w : World) (expr : Option BoundExpr) (context : Context) → context_of w expr ≡ Ok context → ContextFits context
context_fits w None context e = let are : None ≡ context = same_ok _ _ e in subst ContextFits are tt
context_fits w (Some expr) context e = let c = came (value (on w no_row) expr) fit_context context e in context_short c.first context c.next
