-- The texts of tokens, and what the tokens that they give are to the grammar.
use Rattle.std.specs.Prelude.{◌≡◌, ℕ, ◌+◌, ◌-◌, ◌<◌, ◌≤◌, ◌||◌, true, List, [], ◌∷◌, ◌++◌, length, slice_get, option_map, Some, codes}
use Rattle.std.specs.Fmt.{decimal}
use Rattle.std.proofs.Common.{refl, sym, ◌∙◌, ap, subst, arith}
use Rattle.std.proofs.lemmas.Bool.{lt-ltb, eq-eqb}
use Rattle.std.proofs.lemmas.List.{append-nil}
use Rattle.std.proofs.lemmas.Option.{slice_get-map}
use Rattle.text_core.specs.Names.{Text, is_lower, is_upper, is_word_from}
use Rattle.text_core.specs.NameTexts.{IsNameText}
use Rattle.text_core.specs.Numbered.{text_or_empty}
use Rattle.tptp_lexer.proofs.Laws.{Any, NoWord}
use Rattle.coherent_form.specs.Tasks.{CitedTask}
use Rattle.proof_text.specs.declared.part.Act as Act
use Rattle.proof_text.specs.declared.part.Naming as Naming
use Rattle.proof_text.specs.Marks.{most_number}
use Rattle.proof_text.specs.ScriptOf.{cite_of}
use Rattle.isar_text.specs.declared.fixed.Fixed as Fixed
use Rattle.isar_text.specs.declared.fixed.Fixed.TheVariants as fixed
use Rattle.isar_text.specs.declared.mark.Mark as Mark
use Rattle.isar_text.specs.declared.mark.Mark.TheVariants as mark
use Rattle.isar_text.specs.declared.part.IsarPart.TheVariants.{Taken}
use Rattle.isar_text.specs.declared.part.Taker as Taker
use Rattle.isar_text.specs.declared.part.Taker.TheVariants as taker
use Rattle.isar_text.specs.Fixed.{fixed_text, same_fixed}
use Rattle.isar_text.specs.Grammar.{mark_taken}
use Rattle.isar_text.specs.Heads.{line_label, form_label}
use Rattle.isar_text.specs.Marks.{mark_of}
use Rattle.isar_text.specs.Names.{isar_name, decoded}
use Rattle.isar_text.specs.Tokens.{Token, is_blank}
use Rattle.isar_text.specs.Values.{marked_number, name_in}
use Rattle.isar_text.proofs.TokenLaws.{Gives, IsText, one_blank, seen, followed, fixed_marked, name_marked, name_decoded, line_marked, form_marked, number_marked, word_gives, name_gives, line_gives, form_gives, number_gives}
use Rattle.isar_text.proofs.Standing.{Spells, Meaning, Means, seen_as, token_spelled}

-- a blank behind a piece, which leaves no token
pub gap_after : {may : Text → Type 0} {text : Text} {S : List Token → Type 0} (b : ℕ) → is_blank b ≡ true → ((rest : Text) → may (b ∷ rest)) →
    Gives may text S → Gives Any (text ++ b ∷ []) S
gap_after {S = S} b is follows p = seen
    (λ ts s. subst S (sym (s.4 ∙ ap (λ (us : List Token). s.0 ++ us) s.3 ∙ append-nil s.0)) s.2) (followed p (one_blank b is) (λ rest may. follows rest))

-- a blank (32) behind a piece
pub blank_after : {may : Text → Type 0} {text : Text} {S : List Token → Type 0} → ((rest : Text) → may (32 ∷ rest)) → Gives may text S → Gives Any (text ++ codes " ") S
blank_after follows p = gap_after 32 refl follows p

-- a blank before a piece
pub blank_before : {may : Text → Type 0} {text : Text} {S : List Token → Type 0} → Gives may text S → Gives may (codes " " ++ text) S
blank_before {S = S} p = seen (λ ts s. subst S (sym (s.4 ∙ ap (λ (us : List Token). us ++ s.1) s.2)) s.3) (followed (one_blank 32 refl) p (λ rest may. tt))

-- a text of its own is the same as itself
same_self : (f : Fixed.Fixed) → same_fixed f f ≡ true
same_self fixed.Have = refl
same_self fixed.Obtain = refl
same_self fixed.Where = refl
same_self fixed.Using = refl
same_self fixed.By = refl
same_self fixed.Blast = refl
same_self fixed.Show = refl
same_self fixed.Proof = refl
same_self fixed.Elim = refl
same_self fixed.DisjE = refl
same_self fixed.Assume = refl
same_self fixed.Next = refl
same_self fixed.Qed = refl
same_self fixed.As = refl
same_self fixed.Efq = refl
same_self fixed.True = refl
same_self fixed.False = refl
same_self fixed.Thesis = refl
same_self fixed.Quote = refl
same_self fixed.Colon = refl
same_self fixed.OpenComment = refl
same_self fixed.CloseComment = refl
same_self fixed.OpenParenthesis = refl
same_self fixed.CloseParenthesis = refl
same_self fixed.OpenBracket = refl
same_self fixed.CloseBracket = refl
same_self fixed.Comma = refl
same_self fixed.Ampersand = refl
same_self fixed.Bar = refl
same_self fixed.Tilde = refl
same_self fixed.NotEqual = refl
same_self fixed.Equal = refl

-- the name of a token that stands at a number
name_at : (all : List Token) (forms n : ℕ) (t : Token) → slice_get all n ≡ Some t → name_in all (seen_as forms n t) ≡ decoded t.text
name_at all forms n t at =
    ap (λ (text : Text). decoded text) (ap text_or_empty (slice_get-map (λ (t : Token). t.text) all n ∙ ap (option_map (λ (t : Token). t.text)) at))

-- a token of a text with this mark, where the part takes the mark and it means this
taken_piece : {may : Text → Type 0} (task : CitedTask) (by : Taker.Taker) (m : Meaning (Taken by)) (text : Text) (k : Mark.Mark) →
    mark_of (length task.forms) text ≡ k → mark_taken by k ≡ true →
    ((all : List Token) (n : ℕ) (t : Token) → slice_get all n ≡ Some t → t.text ≡ text → mark_of (length task.forms) t.text ≡ k →
    Means (record { task = task; tokens = all }) (Taken by) (seen_as (length task.forms) n t) m) →
    Gives may text (IsText text) → Gives may text (Spells task (Taken by) m)
taken_piece task by m text k marks takes means p = seen
    (λ ts s.
    let t : Token = s.0 in
    let e : mark_of (length task.forms) t.text ≡ k = ap (mark_of (length task.forms)) s.1 ∙ marks in
    subst (Spells task (Taken by) m) (sym s.2)
    (token_spelled task by m t (ap (mark_taken by) e ∙ takes) (λ all n at. means all n t at s.1 e))) p

-- a token with one text
pub sign_piece : {may : Text → Type 0} (task : CitedTask) (f : Fixed.Fixed) (does : Act.Act) → Gives may (fixed_text f) (IsText (fixed_text f)) →
    Gives may (fixed_text f) (Spells task (Taken (taker.Fixed f does)) tt)
sign_piece task f does p =
    taken_piece task (taker.Fixed f does) tt (fixed_text f) (mark.Fixed f) (fixed_marked (length task.forms) f) (same_self f) (λ all n t at text e. tt) p

-- a word with one text
pub keyword_piece : (task : CitedTask) (f : Fixed.Fixed) (does : Act.Act) → is_word_from (λ b. is_lower b || is_upper b) (fixed_text f) ≡ true →
    Gives NoWord (fixed_text f) (Spells task (Taken (taker.Fixed f does)) tt)
keyword_piece task f does word = sign_piece task f does (word_gives (fixed_text f) word)

-- a word and a blank behind it
pub led_keyword : (task : CitedTask) (f : Fixed.Fixed) (does : Act.Act) → is_word_from (λ b. is_lower b || is_upper b) (fixed_text f) ≡ true →
    Gives Any (fixed_text f ++ codes " ") (Spells task (Taken (taker.Fixed f does)) tt)
led_keyword task f does word = blank_after (λ rest. refl) (keyword_piece task f does word)

-- a name
pub name_piece : (task : CitedTask) (what : Naming.Naming) (x : Text) → IsNameText x → Gives NoWord (isar_name x) (Spells task (Taken (taker.Name what)) x)
name_piece task what x named =
    taken_piece task (taker.Name what) x (isar_name x) mark.Name (name_marked (length task.forms) x named) refl
    (λ all n t at text e. name_at all (length task.forms) n t at ∙ ap decoded text ∙ name_decoded x named) (name_gives x named)

-- the label of a form
pub form_piece : (task : CitedTask) (i : ℕ) → i < length task.forms → i + 1 ≤ most_number → Gives NoWord (form_label i) (Spells task (Taken taker.Form) (cite_of task i))
form_piece task i there fits =
    let back : i + 1 - 1 ≡ i = omega arith in
    taken_piece task taker.Form (cite_of task i) (form_label i) (mark.Form (i + 1)) (form_marked (length task.forms) i there fits) refl
    (λ all n t at text e. ap (λ (k : Mark.Mark). cite_of task (marked_number k - 1)) e ∙ ap (cite_of task) back) (form_gives i fits)

-- the label of the next line
pub next_line_piece : (task : CitedTask) (n : ℕ) → n ≤ most_number → Gives NoWord (line_label n) (Spells task (Taken (taker.NextLine n)) tt)
next_line_piece task n fits =
    taken_piece task (taker.NextLine n) tt (line_label n) (mark.Line n) (line_marked (length task.forms) n fits) (eq-eqb n n refl) (λ all i t at text e. tt)
    (line_gives n fits)

-- the label of an earlier line
pub old_line_piece : (task : CitedTask) (n m : ℕ) → m < n → m ≤ most_number → Gives NoWord (line_label m) (Spells task (Taken (taker.OldLine n)) tt)
old_line_piece task n m below fits =
    taken_piece task (taker.OldLine n) tt (line_label m) (mark.Line m) (line_marked (length task.forms) m fits) (lt-ltb m n below) (λ all i t at text e. tt)
    (line_gives m fits)

-- the label of an earlier line that may be split
pub split_line_piece : (task : CitedTask) (n m : ℕ) → m < n → m ≤ most_number → Gives NoWord (line_label m) (Spells task (Taken (taker.SplitLine n)) m)
split_line_piece task n m below fits =
    taken_piece task (taker.SplitLine n) m (line_label m) (mark.Line m) (line_marked (length task.forms) m fits) (lt-ltb m n below)
    (λ all i t at text e. ap marked_number e) (line_gives m fits)

-- the number of a disjunct
pub disjunct_piece : (task : CitedTask) (n : ℕ) → n ≤ most_number → Gives NoWord (decimal n) (Spells task (Taken taker.Disjunct) n)
disjunct_piece task n fits =
    taken_piece task taker.Disjunct n (decimal n) (mark.Number n) (number_marked (length task.forms) n fits) refl (λ all i t at text e. ap marked_number e)
    (number_gives n fits)
