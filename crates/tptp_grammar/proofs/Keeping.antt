-- The grammar of items over the lexer's tokens, where a part also asks what the watcher looks at: the level, and the role.
use Rattle.std.specs.Prelude.{◌≡◌, ℕ, nat_le, nat_lt, Bool, true, false, ◌&&◌, List, [], ◌∷◌, map, Ok, Err, if◌then◌else◌, IsTrue}
use Rattle.std.proofs.Common.{refl, subst, ◌-◌, arith}
use Rattle.std.proofs.lemmas.Bool.Decides.{nat_tests}
use Rattle.token_grammar.specs.Grammar.{Grammar, Spelled}
use Rattle.token_grammar.specs.Taken.{Taken}
use Rattle.token_grammar.specs.Watch.{Sees}
use Rattle.token_grammar.proofs.Laws.{spelled_taken}
use Rattle.tptp_lexer.specs.Tokens.{Token}
use Rattle.text_core.specs.declared.limits.TheConstants.{MOST_LEVELS}
use Rattle.tptp_grammar.specs.declared.limit.Limit.TheVariants.{TooDeep}
use Rattle.tptp_grammar.specs.declared.mark.Mark.{Mark}
use Rattle.tptp_grammar.specs.declared.mark.Mark.TheVariants.{Role}
use Rattle.tptp_grammar.specs.declared.item_part.ItemPart.{ItemPart}
use Rattle.tptp_grammar.specs.declared.item_part.ItemPart.TheVariants as parts
use Rattle.tptp_grammar.specs.Parts.{is_kind, takes, alternatives, fof_items}
use Rattle.tptp_grammar.specs.Marks.{mark_in, marks_of}
use Rattle.tptp_grammar.specs.Limits.{Bindings, open_at, look, items_watcher}

-- the part takes a token with this mark, at a level that may be opened, and as a role a word that tells one
abbrev pub keeps : ItemPart → Mark → Bool
keeps (parts.Opens level k) m = nat_le level MOST_LEVELS && is_kind k m
keeps parts.RoleWord (Role role) = true
keeps parts.RoleWord m = false
keeps p m = takes p m

-- the grammar of items over the tokens of a text
abbrev pub kept_items : List Token → Grammar ItemPart Token
kept_items all = record { takes = λ p t. keeps p (mark_in all t); alternatives = alternatives }

-- a level that the watcher lets pass is not too deep
level_within : (level : ℕ) (deep : Bool) → nat_lt MOST_LEVELS level ≡ deep → (bindings after : Bindings) →
    (if deep then Err TooDeep else Ok bindings) ≡ Ok after → IsTrue (nat_le level MOST_LEVELS)
level_within level true e bindings after h = absurd (cc)
level_within level false e bindings after h = grind (arith, nat_tests)

-- a part that takes a token in which the watcher finds nothing keeps it
seen_kept : (p : ItemPart) (m : Mark) (before after : Bindings) → IsTrue (takes p m) → look before p m ≡ Ok after → IsTrue (keeps p m)
seen_kept (parts.Opens level k) m before after h seen =
    rw (level_within level (nat_lt MOST_LEVELS level) refl (open_at (level - 1) before) after seen) h
seen_kept parts.RoleWord (Role role) before after h seen = refl
seen_kept parts.RoleWord m before after h seen = absurd (cc)
seen_kept p m before after h seen = h

-- tokens that are taken, and in which the watcher finds nothing, are kept
kept_taken : (all : List Token) {row takers : List ItemPart} {ms : List Mark} → Taken fof_items true row ms takers → (ts : List Token) →
    ms ≡ map (mark_in all) ts → (before after : Bindings) → Sees items_watcher before takers ms after →
    Taken (kept_items all) true row ts takers
kept_taken all (Taken.stop h) [] e before after seen = Taken.stop h
kept_taken all (Taken.stop h) (t ∷ ts) e before after seen = absurd (cc)
kept_taken all (Taken.token h rest) [] e before after seen = absurd (cc)
kept_taken all (Taken.token {p = p} {t = m} {ts = ms} h rest) (t ∷ ts) e before after (between, looked, later) =
    let same : m ≡ mark_in all t = cc in
    let others : ms ≡ map (mark_in all) ts = cc in
    Taken.token (subst (λ x. IsTrue (keeps p x)) same (seen_kept p m before between h looked))
    (kept_taken all rest ts others between after later)
kept_taken all (Taken.part alternative among rest) ts e before after seen =
    Taken.part alternative among (kept_taken all rest ts e before after seen)

-- a text in which the watcher finds nothing is kept
pub kept_text : (ts : List Token) (takers : List ItemPart) (after : Bindings) →
    Taken fof_items true (parts.Items ∷ []) (marks_of ts) takers → Sees items_watcher [] takers (marks_of ts) after →
    Spelled (kept_items ts) (parts.Items ∷ []) ts
kept_text ts takers after text seen = spelled_taken (kept_items ts) (kept_taken ts text ts refl [] after seen)
