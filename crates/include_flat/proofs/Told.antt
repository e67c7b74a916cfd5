-- What is told where it is known what the files hold, and what a refusal leaves behind a part of a walk.
use Rattle.std.proofs.Common.{◌≡◌, Option, Some, None, refl, subst}
use Rattle.std.specs.Prelude.{Result, Ok, Err, IfSome, IfOk, IfErr}
use Rattle.text_core.specs.Names.{Text}
use Rattle.io_core.specs.Held.{Held}
use Rattle.io_core.specs.Known.{Known}
use Rattle.io_core.specs.Fetched.{Stays}
use Rattle.io_core.proofs.Laws.{stays_on, fails_on}
use Rattle.include_flat.specs.declared.refusal.FlatWhy.{FlatWhy}
use Rattle.include_flat.specs.declared.refusal.FlatWhy.TheVariants.{Lex, Syntax, FileFault, FileTooLong, AllTooLong, IncludeDepth, TooManyFormulas, Memory}
use Rattle.include_flat.specs.Opened.{Leaves}

-- what follows from a result
pub if_ok : {A E : Type 0} (r : Result A E) (P Q : A → Type 0) → ((a : A) → P a → Q a) → IfOk r P → IfOk r Q
if_ok (Ok a) P Q f h = f a h
if_ok (Err e) P Q f h = tt

-- what follows from a refusal
pub if_err : {A E : Type 0} (r : Result A E) (P Q : E → Type 0) → ((e : E) → P e → Q e) → IfErr r P → IfErr r Q
if_err (Ok a) P Q f h = tt
if_err (Err e) P Q f h = f e h

-- what follows where it is told what is held
pub where_told : (told : Option Held) (P Q : Held → Type 0) → ((held : Held) → P held → Q held) → IfSome told P → IfSome told Q
where_told None P Q f h = tt
where_told (Some held) P Q f h = f held h

-- what holds of whatever is held
pub wherever_told : (told : Option Held) (P : Held → Type 0) → ((held : Held) → P held) → IfSome told P
wherever_told None P f = tt
wherever_told (Some held) P f = f held

-- what follows from two facts that are told of the same files, one later
pub both_told : (told later : Option Held) (P Q R : Held → Type 0) → later ≡ told → ((held : Held) → P held → Q held → R held) →
    IfSome told P → IfSome later Q → IfSome told R
both_told None later P Q R same f h k = tt
both_told (Some held) None P Q R same f h k = absurd cc
both_told (Some held) (Some also) P Q R same f h k = let e : also ≡ held = cc in f held h (subst Q e k)

-- what a refusal leaves behind a part of a walk in which no fetch failed
pub leaves_on : (files middle later : Known) (file : Text) (why : FlatWhy) → Stays files middle → Leaves middle later file why → Leaves files later file why
leaves_on files middle later file FileFault a b = fails_on a b
leaves_on files middle later file (Lex refusal) a b = stays_on a b
leaves_on files middle later file (Syntax refusal) a b = stays_on a b
leaves_on files middle later file FileTooLong a b = stays_on a b
leaves_on files middle later file AllTooLong a b = stays_on a b
leaves_on files middle later file IncludeDepth a b = stays_on a b
leaves_on files middle later file TooManyFormulas a b = stays_on a b
leaves_on files middle later file Memory a b = stays_on a b

-- a fetch failed where a refusal tells of a fault
pub leaves-failed : (files later : Known) (file : Text) (why : FlatWhy) → Leaves files later file why → why ≡ FileFault → Leaves files later file FileFault
leaves-failed files later file why h is = subst (Leaves files later file) is h

-- no fetch failed where a refusal tells of none
pub leaves-stays : (files later : Known) (file : Text) (why : FlatWhy) → Leaves files later file why → (why ≡ FileFault → ⊥) → Stays files later
leaves-stays files later file FileFault h other = absurd (other refl)
leaves-stays files later file (Lex refusal) h other = h
leaves-stays files later file (Syntax refusal) h other = h
leaves-stays files later file FileTooLong h other = h
leaves-stays files later file AllTooLong h other = h
leaves-stays files later file IncludeDepth h other = h
leaves-stays files later file TooManyFormulas h other = h
leaves-stays files later file Memory h other = h
