-- Citations and steps as pieces of a text.
use Rattle.std.specs.Prelude.{◌≡◌, ℕ, suc, zero, ◌≤◌, ◌==◌, Bool, true, false, List, [], ◌∷◌, ◌++◌, map, Option, Some, None, codes}
use Rattle.std.specs.Fmt.{decimal}
use Rattle.std.specs.List.{AllByRecursion}
use Rattle.std.proofs.Common.{refl, sym, ◌∙◌, ap, subst, arith, inl, inr, append_assoc}
use Rattle.std.proofs.lemmas.List.{append-nil}
use Rattle.std.proofs.lemmas.Bool.{cond_both}
use Rattle.std.proofs.lemmas.Fmt.{decimal_digit}
use Rattle.text_core.specs.Names.{Text, is_lower, is_word_from}
use Rattle.text_core.proofs.Laws.{number_same}
use Rattle.tptp_lexer.specs.declared.kind.Kind.TheVariants as kind
use Rattle.tptp_lexer.specs.Tokens.{Token as LexToken}
use Rattle.tptp_lexer.specs.Written.{word_text, name_text}
use Rattle.tptp_lexer.proofs.Laws.{Any, NoWord, Gives, before, led, joined_led, open_parenthesis, close_parenthesis, open_bracket, close_bracket, comma, dot, equals, gap_after, blank_after, blank_before, lower_word, dollar_word}
use Rattle.proof_text.proofs.SignPieces.{TildeEnds, tilde_alone, equal_alone, colon_alone}
use Rattle.coherent_form.specs.declared.citation.Citation as Citation
use Rattle.coherent_form.specs.declared.citation.Citation.TheVariants as citation
use Rattle.coherent_form.specs.declared.citation.Symbol as Symbol
use Rattle.coherent_form.specs.declared.citation.Symbol.TheVariants as symbol
use Rattle.proof_text.specs.declared.body.Shown as Shown
use Rattle.proof_text.specs.declared.body.Binding.{Binding}
use Rattle.proof_text.specs.declared.body.ArgsText as ArgsText
use Rattle.proof_text.specs.declared.body.ArgsText.TheVariants as args
use Rattle.proof_text.specs.declared.body.MpText.{MpText}
use Rattle.proof_text.specs.declared.fixed.Fixed as Fixed
use Rattle.proof_text.specs.declared.fixed.Fixed.TheVariants as fixed
use Rattle.proof_text.specs.declared.mark.Mark.TheVariants as mark
use Rattle.proof_text.specs.declared.part.Edition as Edition
use Rattle.proof_text.specs.declared.part.Edition.TheVariants.{First, Second}
use Rattle.proof_text.specs.declared.part.TextPart.TheVariants.{Taken, Row}
use Rattle.proof_text.specs.declared.part.Taker.TheVariants as taker
use Rattle.proof_text.specs.declared.part.Naming.TheVariants as use_of
use Rattle.proof_text.specs.declared.part.Counting.TheVariants as counting
use Rattle.proof_text.specs.declared.part.Rule.TheVariants as rule
use Rattle.proof_text.specs.declared.part.Act as Act
use Rattle.proof_text.specs.declared.part.Act.TheVariants as act
use Rattle.proof_text.specs.declared.part.Pass.TheVariants as pass
use Rattle.proof_text.specs.Fixed.{fixed_text, dollar_of, is_keyword}
use Rattle.proof_text.specs.Marks.{fixed_or, most_number}
use Rattle.proof_text.specs.Values.{name_in, number_in, listed_step, named_step}
use Rattle.proof_text.specs.declared.wording.Wording.TheVariants.{Signs}
use Rattle.proof_text.specs.Lines.{listed_text, names_text, line_text}
use Rattle.proof_text.specs.Canonical.{rank_text, symbol_text, sign_text, cite_text, bind_text, args_text, given_text, indent, line_end, step_text}
use Rattle.proof_text.specs.Named.{NamesAreNamed, LineIsNamed, SymbolIsNamed, CiteIsNamed, BindIsNamed, ArgsAreNamed, ShownIsNamed, StepIsNamed}
use Rattle.proof_text.specs.Proper.{LineIsProper, IsShownIn, BindIsProper, ArgsAreProper, StepIsProper}
use Rattle.proof_text.proofs.Standing.{Spells}
use Rattle.proof_text.proofs.TokenPieces.{sign_piece, text_piece, word_piece, cited_piece, label_piece, keyword_marked}
use Rattle.proof_text.proofs.NumberPieces.{number_piece, two_piece}
use Rattle.proof_text.proofs.LinePieces.{as_text, none_piece, and_then, and_last, rule_piece, does_piece, same_list, names_piece, line_piece, begins_word}

-- a keyword
pub keyword_piece : (f : Fixed.Fixed) (does : Act.Act) → is_keyword f ≡ true → is_word_from is_lower (fixed_text f) ≡ true →
    Gives NoWord (fixed_text f) (Spells (Taken (taker.Fixed f does)) tt)
keyword_piece f does keyword lower =
    text_piece kind.Lower (fixed_text f) f does (ap (fixed_or mark.Word) (keyword_marked f keyword)) (lower_word (fixed_text f) lower)

-- a keyword and a blank behind it
pub led_keyword : (f : Fixed.Fixed) (does : Act.Act) → is_keyword f ≡ true → is_word_from is_lower (fixed_text f) ≡ true →
    Gives Any (fixed_text f ++ codes " ") (Spells (Taken (taker.Fixed f does)) tt)
led_keyword f does keyword lower = blank_after (λ rest. refl) (keyword_piece f does keyword lower)

-- blanks in front of a piece
pub indented : {may : Text → Type 0} {x : Text} {S : List LexToken → Type 0} (level : ℕ) → Gives may x S → Gives may (indent level ++ x) S
indented zero p = p
indented {S = S} (suc level) p = blank_before (blank_before (indented level p))

-- the dot at the end of a line
pub dot_piece : (does : Act.Act) → Gives Any line_end (Spells (Taken (taker.Fixed fixed.Dot does)) tt)
dot_piece does = gap_after 10 refl (λ rest. tt) (sign_piece kind.Dot fixed.Dot does (λ text. refl) dot)

-- a rank under a name
rank_piece : (rank : ℕ) → rank ≤ most_number → Gives NoWord (rank_text rank) (Spells (Row rule.Rank) rank)
rank_piece rank fits = cond_both (rank == 1) [] (codes ":" ++ decimal rank) (λ t. Gives NoWord t (Spells (Row rule.Rank) rank))
    (λ one. rule_piece rule.Rank (inl tt) tt rank (λ all values mean. sym (number_same rank 1 one)) (before (λ rest may. tt) none_piece))
    (λ more. rule_piece rule.Rank (inr (inl tt)) (tt, (rank, tt)) rank (λ all values mean. mean.1.0)
    (and_then tt (rank, tt) (sign_piece kind.Colon fixed.Colon act.Nothing (λ text. refl) colon_alone)
    (and_last rank (number_piece counting.Rank (λ m e. e) rank fits)) (λ rest may. tt)))

-- a rank follows a word
rank_follows : (rank : ℕ) (rest : Text) → NoWord rest → NoWord (rank_text rank ++ rest)
rank_follows rank rest may = cond_both (rank == 1) [] (codes ":" ++ decimal rank) (λ t. NoWord (t ++ rest)) (λ one. may) (λ more. refl)

-- the symbol `=` with its arity
equality_text : codes "=" ++ (codes "," ++ decimal 2) ≡ codes "=,2"
equality_text = ap (λ (t : Text). 61 ∷ 44 ∷ t) (decimal_digit 2 (omega arith))

-- a symbol with its arity
symbol_piece : (s : Symbol.Symbol) → SymbolIsNamed s → Gives NoWord (symbol_text s) (Spells (Row rule.Symbol) s)
symbol_piece symbol.Equality named =
    as_text equality_text
    (rule_piece rule.Symbol (inr (inl tt)) (tt, (tt, (tt, tt))) symbol.Equality (λ all values mean. refl)
    (and_then tt (tt, (tt, tt)) (sign_piece kind.Equal fixed.Equal act.Nothing (λ text. refl) equal_alone)
    (and_then tt (tt, tt) (sign_piece kind.Comma fixed.Comma act.Nothing (λ text. refl) comma)
    (and_last tt (two_piece act.SetEquality)) (λ rest may. tt)) (λ rest may. refl)))
symbol_piece (symbol.Named name arity) named =
    as_text (sym (append_assoc (word_text name) (codes ",") (decimal arity)))
    (rule_piece rule.Symbol (inl tt) (name, (tt, (arity, tt))) (symbol.Named name arity)
    (λ all values mean. ap (λ (x : Text). symbol.Named x (number_in values.1.1.0)) mean.0 ∙ ap (symbol.Named name) mean.1.1.0)
    (and_then name (tt, (arity, tt)) (word_piece use_of.Symbol (λ m e. e) name named.0)
    (and_then tt (arity, tt) (sign_piece kind.Comma fixed.Comma act.Nothing (λ text. refl) comma)
    (and_last arity (number_piece counting.Arity (λ m e. e) arity named.1)) (λ rest may. tt)) (λ rest may. refl)))

-- a symbol may follow `~`
symbol_begins : (s : Symbol.Symbol) (rest : Text) → TildeEnds (symbol_text s ++ rest)
symbol_begins symbol.Equality rest = (refl, refl)
symbol_begins (symbol.Named name arity) rest =
    let w = begins_word name in
    subst (λ (t : Text). TildeEnds ((t ++ codes "," ++ decimal arity) ++ rest)) (sym w.is) (w.no_bar, w.no_and)

-- a symbol with its sign
signed_piece : (positive : Bool) (s : Symbol.Symbol) → SymbolIsNamed s →
    Gives NoWord (sign_text positive ++ symbol_text s) (Spells (Row rule.SignedSymbol) (positive, s))
signed_piece true s named =
    rule_piece rule.SignedSymbol (inr (inl tt)) (tt, (s, tt)) (true, s) (λ all values mean. ap (λ (x : Symbol.Symbol). (true, x)) mean.1.0)
    (and_then tt (s, tt) (does_piece pass.SetPositive) (and_last s (symbol_piece s named)) (λ rest may. tt))
signed_piece false s named =
    rule_piece rule.SignedSymbol (inl tt) (tt, (s, tt)) (false, s) (λ all values mean. ap (λ (x : Symbol.Symbol). (false, x)) mean.1.0)
    (and_then tt (s, tt) (sign_piece kind.Tilde fixed.Tilde act.SetNegative (λ text. refl) tilde_alone)
    (and_last s (symbol_piece s named)) (λ rest may. symbol_begins s rest))

-- texts one behind the other, in two orders
behind_five : (a b c d e f : Text) → a ++ ((b ++ c) ++ (d ++ (e ++ f))) ≡ a ++ b ++ c ++ d ++ e ++ f
behind_five a b c d e f = simp append_assoc

-- a text in front of two joined ones
behind_two : (a b c : Text) → a ++ (b ++ c) ≡ a ++ b ++ c
behind_two a b c = sym (append_assoc a b c)

-- a citation
cite_piece : (c : Citation.Citation) → CiteIsNamed c → Gives NoWord (cite_text c) (Spells (Row rule.Cite) c)
unfolding dollar_of
cite_piece (citation.Axiom name rank) named =
    as_text (ap (λ (t : Text). name_text name ++ t) (append-nil (rank_text rank)))
    (rule_piece rule.Cite (inl tt) (name, (rank, (tt, tt))) (citation.Axiom name rank)
    (λ all values mean. ap (λ (x : Text). citation.Axiom x values.1.0) mean.0 ∙ ap (citation.Axiom name) mean.1.0)
    (and_then name (rank, (tt, tt)) (cited_piece name named.0)
    (and_then rank (tt, tt) (rank_piece rank named.1) (and_last tt (before (λ rest may. tt) (does_piece pass.CiteName))) (λ rest may. may))
    (λ rest may. subst (λ (t : Text). NoWord (t ++ rest)) (sym (append-nil (rank_text rank))) (rank_follows rank rest may))))
cite_piece citation.Refl named =
    rule_piece rule.Cite (inr (inl tt)) (tt, tt) citation.Refl (λ all values mean. refl)
    (and_last tt (text_piece kind.Dollar (codes "$refl") fixed.Refl act.CiteRefl refl (dollar_word (codes "refl") refl)))
cite_piece citation.Sym named =
    rule_piece rule.Cite (inr (inr (inl tt))) (tt, tt) citation.Sym (λ all values mean. refl)
    (and_last tt (text_piece kind.Dollar (codes "$sym") fixed.Sym act.CiteSym refl (dollar_word (codes "sym") refl)))
cite_piece citation.Trans named =
    rule_piece rule.Cite (inr (inr (inr (inl tt)))) (tt, tt) citation.Trans (λ all values mean. refl)
    (and_last tt (text_piece kind.Dollar (codes "$trans") fixed.Trans act.CiteTrans refl (dollar_word (codes "trans") refl)))
cite_piece (citation.Sub positive s place) named =
    as_text (behind_five (codes "$sub(") (sign_text positive) (symbol_text s) (codes ",") (decimal place) (codes ")"))
    (before (λ rest may. tt)
    (rule_piece rule.Cite (inr (inr (inr (inr (inl tt))))) (tt, (tt, ((positive, s), (tt, (place, (tt, tt)))))) (citation.Sub positive s place)
    (λ all values mean.
    ap (λ (signed : Bool × Symbol.Symbol). citation.Sub signed.0 signed.1 (number_in values.1.1.1.1.0)) mean.1.1.0 ∙
    ap (citation.Sub positive s) mean.1.1.1.1.0)
    (and_then tt (tt, ((positive, s), (tt, (place, (tt, tt)))))
    (text_piece kind.Dollar (codes "$sub") fixed.Sub act.Nothing refl (dollar_word (codes "sub") refl))
    (and_then tt ((positive, s), (tt, (place, (tt, tt)))) (sign_piece kind.OpenParenthesis fixed.OpenParenthesis act.Nothing (λ text. refl) open_parenthesis)
    (and_then (positive, s) (tt, (place, (tt, tt))) (signed_piece positive s named.0)
    (and_then tt (place, (tt, tt)) (sign_piece kind.Comma fixed.Comma act.Nothing (λ text. refl) comma)
    (and_then place (tt, tt) (number_piece counting.Place (λ m e. e) place named.1)
    (and_last tt (sign_piece kind.CloseParenthesis fixed.CloseParenthesis act.Nothing (λ text. refl) close_parenthesis)) (λ rest may. refl))
    (λ rest may. tt)) (λ rest may. refl)) (λ rest may. tt)) (λ rest may. refl))))
cite_piece (citation.No s) named =
    as_text (behind_two (codes "$no(") (symbol_text s) (codes ")"))
    (before (λ rest may. tt)
    (rule_piece rule.Cite (inr (inr (inr (inr (inr (inl tt)))))) (tt, (tt, (s, (tt, tt)))) (citation.No s) (λ all values mean. ap citation.No mean.1.1.0)
    (and_then tt (tt, (s, (tt, tt))) (text_piece kind.Dollar (codes "$no") fixed.No act.Nothing refl (dollar_word (codes "no") refl))
    (and_then tt (s, (tt, tt)) (sign_piece kind.OpenParenthesis fixed.OpenParenthesis act.Nothing (λ text. refl) open_parenthesis)
    (and_then s (tt, tt) (symbol_piece s named)
    (and_last tt (sign_piece kind.CloseParenthesis fixed.CloseParenthesis act.CiteNo (λ text. refl) close_parenthesis)) (λ rest may. refl))
    (λ rest may. tt)) (λ rest may. refl))))
cite_piece (citation.Or s) named =
    as_text (behind_two (codes "$or(") (symbol_text s) (codes ")"))
    (before (λ rest may. tt)
    (rule_piece rule.Cite (inr (inr (inr (inr (inr (inr (inl tt))))))) (tt, (tt, (s, (tt, tt)))) (citation.Or s) (λ all values mean. ap citation.Or mean.1.1.0)
    (and_then tt (tt, (s, (tt, tt))) (text_piece kind.Dollar (codes "$or") fixed.Or act.Nothing refl (dollar_word (codes "or") refl))
    (and_then tt (s, (tt, tt)) (sign_piece kind.OpenParenthesis fixed.OpenParenthesis act.Nothing (λ text. refl) open_parenthesis)
    (and_then s (tt, tt) (symbol_piece s named)
    (and_last tt (sign_piece kind.CloseParenthesis fixed.CloseParenthesis act.CiteOr (λ text. refl) close_parenthesis)) (λ rest may. refl))
    (λ rest may. tt)) (λ rest may. refl))))

-- a value of a variable, by its parts
abbrev bound : Text → ℕ → Text → Binding
bound name rank value = record { label = record { name = name; rank = rank }; value = value }

-- texts of a value
bind_order : (a b c d : Text) → a ++ (b ++ (c ++ d)) ≡ a ++ b ++ c ++ d
bind_order a b c d = simp append_assoc

-- a value of a variable
bind_piece : (b : Binding) → BindIsNamed b → BindIsProper b → Gives NoWord (bind_text b) (Spells (Row rule.Bind) b)
bind_piece b named proper =
    as_text (bind_order b.label.name (rank_text b.label.rank) (codes " = ") (word_text b.value))
    (rule_piece rule.Bind (inl tt) (b.label.name, (b.label.rank, (tt, (b.value, tt)))) b
    (λ all values mean.
    ap (λ (x : Text). bound x values.1.0 (name_in all values.1.1.1.0)) mean.0 ∙
    (ap (λ (n : ℕ). bound b.label.name n (name_in all values.1.1.1.0)) mean.1.0 ∙ ap (bound b.label.name b.label.rank) mean.1.1.1.0))
    (and_then b.label.name (b.label.rank, (tt, (b.value, tt))) (label_piece b.label.name proper)
    (and_then b.label.rank (tt, (b.value, tt)) (rank_piece b.label.rank named.0)
    (and_then tt (b.value, tt) (sign_piece kind.Equal fixed.Equal act.Nothing (λ text. refl) equals)
    (and_last b.value (word_piece use_of.Bound (λ m e. e) b.value named.1)) (λ rest may. tt)) (λ rest may. refl))
    (λ rest may. label_follows b.label.rank (word_text b.value) rest)))
  where
    label_follows : (rank : ℕ) (x rest : Text) → NoWord ((rank_text rank ++ (codes " = " ++ x)) ++ rest)
    label_follows rank x rest =
        cond_both (rank == 1) [] (codes ":" ++ decimal rank) (λ t. NoWord ((t ++ (codes " = " ++ x)) ++ rest)) (λ one. refl) (λ more. refl)

-- further values follow a word
binds_follow : (xs : List Text) (rest : Text) → NoWord rest → NoWord (led (codes ",") (codes ",") xs ++ rest)
binds_follow [] rest may = may
binds_follow (x ∷ xs) rest may = refl

-- further values
more_binds_piece : (bs : List Binding) → AllByRecursion BindIsNamed bs → AllByRecursion BindIsProper bs →
    Gives NoWord (led (codes ",") (codes ",") (map bind_text bs)) (Spells (Row rule.MoreBinds) bs)
more_binds_piece [] named proper = rule_piece rule.MoreBinds (inl tt) tt [] (λ all values mean. refl) (before (λ rest may. tt) none_piece)
more_binds_piece (b ∷ bs) named proper =
    rule_piece rule.MoreBinds (inr (inl tt)) (tt, (b, (bs, tt))) (b ∷ bs)
    (λ all values mean. same_list values.1.0 b values.1.1.0 bs mean.1.0 mean.1.1.0)
    (and_then tt (b, (bs, tt)) (sign_piece kind.Comma fixed.Comma act.Nothing (λ text. refl) comma)
    (and_then b (bs, tt) (bind_piece b named.0 proper.0) (and_last bs (more_binds_piece bs named.1 proper.1))
    (λ rest may. binds_follow (map bind_text bs) rest may)) (λ rest may. tt))

-- values between brackets
listed_binds_piece : (bs : List Binding) → AllByRecursion BindIsNamed bs → AllByRecursion BindIsProper bs →
    Gives NoWord (listed_text (map bind_text bs)) (Spells (Row rule.ListedBinds) bs)
listed_binds_piece [] named proper = rule_piece rule.ListedBinds (inl tt) tt [] (λ all values mean. refl) (before (λ rest may. tt) none_piece)
listed_binds_piece (b ∷ bs) named proper =
    as_text (sym (joined_led (codes ",") (map bind_text (b ∷ bs))))
    (rule_piece rule.ListedBinds (inr (inl tt)) (b, (bs, tt)) (b ∷ bs)
    (λ all values mean. same_list values.0 b values.1.0 bs mean.0 mean.1.0)
    (and_then b (bs, tt) (bind_piece b named.0 proper.0) (and_last bs (more_binds_piece bs named.1 proper.1))
    (λ rest may. binds_follow (map bind_text bs) rest may)))

-- values in brackets
binds_piece : (bs : List Binding) → AllByRecursion BindIsNamed bs → AllByRecursion BindIsProper bs →
    Gives Any (args_text (args.Named bs)) (Spells (Row rule.Binds) bs)
binds_piece bs named proper =
    as_text (behind_two (codes "with [") (listed_text (map bind_text bs)) (codes "]"))
    (rule_piece rule.Binds (inl tt) (tt, (tt, (bs, (tt, tt)))) bs (λ all values mean. mean.1.1.0)
    (and_then tt (tt, (bs, (tt, tt))) (led_keyword fixed.With act.Nothing refl refl)
    (and_then tt (bs, (tt, tt)) (sign_piece kind.OpenBracket fixed.OpenBracket act.BeginBinds (λ text. refl) open_bracket)
    (and_then bs (tt, tt) (listed_binds_piece bs named proper)
    (and_last tt (sign_piece kind.CloseBracket fixed.CloseBracket act.KeepBinds (λ text. refl) close_bracket)) (λ rest may. refl))
    (λ rest may. tt)) (λ rest may. tt)))

-- what a step gives, and its end
given_piece : (e : Edition.Edition) (given : Option Shown.Shown) → ShownIsNamed LineIsNamed given → IsShownIn e LineIsProper given →
    Gives Any (given_text given ++ line_end) (Spells (Row (rule.Given e)) given)
given_piece First None named proper = absurd proper
given_piece Second None named proper =
    rule_piece (rule.Given Second) (inr (inl tt)) (tt, tt) None (λ all values mean. refl) (and_last tt (dot_piece act.EndBareStep))
given_piece First (Some line) named proper =
    as_text (behind_two (codes " gives ") (line_text Signs line) line_end)
    (rule_piece (rule.Given First) (inl tt) (tt, (line, (tt, tt))) (Some line) (λ all values mean. ap Some mean.1.0)
    (and_then tt (line, (tt, tt)) (blank_before (led_keyword fixed.Gives act.KeepFresh refl refl))
    (and_then line (tt, tt) (line_piece line named proper) (and_last tt (dot_piece act.EndStep)) (λ rest may. refl)) (λ rest may. tt)))
given_piece Second (Some line) named proper =
    as_text (behind_two (codes " gives ") (line_text Signs line) line_end)
    (rule_piece (rule.Given Second) (inl tt) (tt, (line, (tt, tt))) (Some line) (λ all values mean. ap Some mean.1.0)
    (and_then tt (line, (tt, tt)) (blank_before (led_keyword fixed.Gives act.KeepFresh refl refl))
    (and_then line (tt, tt) (line_piece line named proper) (and_last tt (dot_piece act.EndStep)) (λ rest may. refl)) (λ rest may. tt)))

-- texts of a step, in two orders
step_order : (a b c d e f g h i : Text) → (a ++ b) ++ ((c ++ d) ++ (e ++ (f ++ (g ++ (h ++ i))))) ≡ a ++ b ++ c ++ d ++ e ++ f ++ g ++ h ++ i
step_order a b c d e f g h i = simp append_assoc

module _ (level : ℕ) (cite : Citation.Citation) (fresh : List Text) (given : Option Shown.Shown) (of : CiteIsNamed cite) (new : NamesAreNamed fresh)
    (shown : ShownIsNamed LineIsNamed given) where
  -- a step of the first version
  listed_piece : (names : List Text) → NamesAreNamed names → IsShownIn First LineIsProper given →
      Gives Any (step_text level (listed_step cite names fresh given)) (Spells (Row (rule.Step First)) (listed_step cite names fresh given))
  listed_piece names named proper =
      as_text (step_order (indent level) (codes "mp ") (cite_text cite) (codes " ") (names_text names) (codes " new ") (names_text fresh) (given_text given) line_end)
      (rule_piece (rule.Step First) (inl tt) (tt, (cite, (names, (tt, (fresh, (given, tt)))))) (listed_step cite names fresh given)
      (λ all values mean.
      ap (λ (c : Citation.Citation). listed_step c values.1.1.0 values.1.1.1.1.0 values.1.1.1.1.1.0) mean.1.0 ∙
      (ap (λ (xs : List Text). listed_step cite xs values.1.1.1.1.0 values.1.1.1.1.1.0) mean.1.1.0 ∙
      (ap (λ (xs : List Text). listed_step cite names xs values.1.1.1.1.1.0) mean.1.1.1.1.0 ∙ ap (listed_step cite names fresh) mean.1.1.1.1.1.0)))
      (and_then tt (cite, (names, (tt, (fresh, (given, tt))))) (indented level (led_keyword fixed.Mp act.Nothing refl refl))
      (and_then cite (names, (tt, (fresh, (given, tt)))) (blank_after (λ rest. refl) (cite_piece cite of))
      (and_then names (tt, (fresh, (given, tt))) (names_piece names named)
      (and_then tt (fresh, (given, tt)) (blank_before (led_keyword fixed.New act.KeepArgs refl refl))
      (and_then fresh (given, tt) (names_piece fresh new) (and_last given (given_piece First given shown proper)) (λ rest may. tt))
      (λ rest may. tt)) (λ rest may. tt)) (λ rest may. tt)) (λ rest may. tt)))

  -- a step of the second version
  named_piece : (binds : List Binding) → AllByRecursion BindIsNamed binds → AllByRecursion BindIsProper binds → IsShownIn Second LineIsProper given →
      Gives Any (step_text level (named_step cite binds fresh given)) (Spells (Row (rule.Step Second)) (named_step cite binds fresh given))
  named_piece binds named good proper =
      as_text (step_order (indent level) (codes "mp ") (cite_text cite) (codes " ") (args_text (args.Named binds)) (codes " new ") (names_text fresh) (given_text given) line_end)
      (rule_piece (rule.Step Second) (inl tt) (tt, (cite, (binds, (tt, (fresh, (given, tt)))))) (named_step cite binds fresh given)
      (λ all values mean.
      ap (λ (c : Citation.Citation). named_step c values.1.1.0 values.1.1.1.1.0 values.1.1.1.1.1.0) mean.1.0 ∙
      (ap (λ (bs : List Binding). named_step cite bs values.1.1.1.1.0 values.1.1.1.1.1.0) mean.1.1.0 ∙
      (ap (λ (xs : List Text). named_step cite binds xs values.1.1.1.1.1.0) mean.1.1.1.1.0 ∙ ap (named_step cite binds fresh) mean.1.1.1.1.1.0)))
      (and_then tt (cite, (binds, (tt, (fresh, (given, tt))))) (indented level (led_keyword fixed.Mp act.Nothing refl refl))
      (and_then cite (binds, (tt, (fresh, (given, tt)))) (blank_after (λ rest. refl) (cite_piece cite of))
      (and_then binds (tt, (fresh, (given, tt))) (binds_piece binds named good)
      (and_then tt (fresh, (given, tt)) (blank_before (led_keyword fixed.New act.Nothing refl refl))
      (and_then fresh (given, tt) (names_piece fresh new) (and_last given (given_piece Second given shown proper)) (λ rest may. tt))
      (λ rest may. tt)) (λ rest may. tt)) (λ rest may. tt)) (λ rest may. tt)))

-- a step, by its instance
by_args : (e : Edition.Edition) (level : ℕ) (cite : Citation.Citation) (instance : ArgsText.ArgsText) (fresh : List Text) (given : Option Shown.Shown) →
    CiteIsNamed cite → ArgsAreNamed instance → NamesAreNamed fresh → ShownIsNamed LineIsNamed given → ArgsAreProper e instance →
    IsShownIn e LineIsProper given →
    Gives Any (step_text level (record { cite = cite; args = instance; fresh = fresh; shown = given }))
    (Spells (Row (rule.Step e)) (record { cite = cite; args = instance; fresh = fresh; shown = given }))
by_args First level cite (args.Listed names) fresh given of named new shown good proper = listed_piece level cite fresh given of new shown names named proper
by_args First level cite (args.Named binds) fresh given of named new shown good proper = absurd good
by_args Second level cite (args.Listed names) fresh given of named new shown good proper = absurd good
by_args Second level cite (args.Named binds) fresh given of named new shown good proper = named_piece level cite fresh given of new shown binds named good proper

-- a step
pub step_piece : (e : Edition.Edition) (level : ℕ) (step : MpText) → StepIsNamed step → StepIsProper e step →
    Gives Any (step_text level step) (Spells (Row (rule.Step e)) step)
step_piece e level step named proper =
    by_args e level step.cite step.args step.fresh step.shown named.0 named.1 named.2 named.3 proper.0 proper.1
