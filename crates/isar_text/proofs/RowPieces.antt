-- Rows of the grammar as pieces of a text, by their members.
use Rattle.std.specs.Prelude.{◌≡◌, List, [], ◌∷◌, ◌++◌}
use Rattle.std.proofs.Common.{refl, sym, ◌∙◌, ap, subst, inl}
use Rattle.std.proofs.lemmas.List.{append-nil}
use Rattle.text_core.specs.Names.{Text}
use Rattle.token_grammar.specs.Making.{Choice, element, RowValues}
use Rattle.token_grammar.specs.Productions.{made_at}
use Rattle.tptp_lexer.proofs.Laws.{Any}
use Rattle.coherent_form.specs.Tasks.{CitedTask}
use Rattle.proof_text.specs.declared.part.Act as Act
use Rattle.proof_text.specs.declared.part.Pass as Pass
use Rattle.isar_text.specs.declared.part.IsarPart as IsarPart
use Rattle.isar_text.specs.declared.part.IsarPart.TheVariants.{Row}
use Rattle.isar_text.specs.declared.part.Rule as Rule
use Rattle.isar_text.specs.declared.part.Rule.TheVariants as rule
use Rattle.isar_text.specs.Grammar.{rows}
use Rattle.isar_text.specs.Tokens.{Token}
use Rattle.isar_text.specs.Values.{Lexed, RuleValue, Value, makers}
use Rattle.isar_text.proofs.TokenLaws.{Gives, nothing, seen, followed}
use Rattle.isar_text.proofs.Standing.{Spells, SpellsRow, Meaning, Meanings, EachMeans, no_members, member_first, rule_spelled}

-- the same piece, as another text that is the same
pub as_text : {may : Text → Type 0} {x y : Text} {S : List Token → Type 0} → x ≡ y → Gives may x S → Gives may y S
as_text {may = may} {S = S} e p = subst (λ t. Gives may t S) e p

-- no members
pub none_piece : (task : CitedTask) → Gives Any [] (SpellsRow task [] tt)
none_piece task = seen (λ ts s. subst (SpellsRow task [] tt) (sym s) (no_members task)) nothing

-- a member and further ones
pub and_then : {may fewer : Text → Type 0} {x y : Text} {task : CitedTask} {p : IsarPart.IsarPart} {row : List IsarPart.IsarPart} (m : Meaning p) (ms : Meanings row) →
    Gives may x (Spells task p m) → Gives fewer y (SpellsRow task row ms) → ((rest : Text) → fewer rest → may (y ++ rest)) →
    Gives fewer (x ++ y) (SpellsRow task (p ∷ row) (m, ms))
and_then {task = task} {p = p} {row = row} m ms first later follows =
    seen (λ ts s. member_first task p row m ms s.0 s.1 ts s.2 s.3 s.4) (followed first later follows)

-- the last member
pub and_last : {may : Text → Type 0} {x : Text} {task : CitedTask} {p : IsarPart.IsarPart} (m : Meaning p) → Gives may x (Spells task p m) →
    Gives may x (SpellsRow task (p ∷ []) (m, tt))
and_last {task = task} {p = p} m last = seen (λ ts s. member_first task p [] m tt ts [] ts s (no_members task) (sym (append-nil ts))) last

-- a rule, by the members of one of its rows
pub rule_piece : {may : Text → Type 0} {x : Text} (task : CitedTask) (r : Rule.Rule) (choice : Choice (rows r)) (ms : Meanings (element (rows r) choice)) (m : RuleValue r) →
    ((lexed : Lexed) (values : RowValues Value (element (rows r) choice)) → EachMeans lexed (element (rows r) choice) values ms →
    made_at Value (rows r) (makers lexed (Row r)) choice values ≡ m) →
    Gives may x (SpellsRow task (element (rows r) choice) ms) → Gives may x (Spells task (Row r) m)
rule_piece task r choice ms m made p = seen (λ ts s. rule_spelled task r choice ms m ts made s) p

-- nothing, where the builder does something
pub does_piece : (task : CitedTask) (does : Pass.Pass) → Gives Any [] (Spells task (Row (rule.Does does)) tt)
does_piece task does = rule_piece task (rule.Does does) (inl tt) tt tt (λ lexed values mean. refl) (none_piece task)

-- nothing, where the builder acts
pub acts_piece : (task : CitedTask) (does : Act.Act) → Gives Any [] (Spells task (Row (rule.Acts does)) tt)
acts_piece task does = rule_piece task (rule.Acts does) (inl tt) tt tt (λ lexed values mean. refl) (none_piece task)

-- equal heads and equal tails make equal lists
pub same_list : {X : Type 0} (x y : X) (xs ys : List X) → x ≡ y → xs ≡ ys → x ∷ xs ≡ y ∷ ys
same_list x y xs ys e f = ap (λ z. z ∷ xs) e ∙ ap (λ zs. y ∷ zs) f
