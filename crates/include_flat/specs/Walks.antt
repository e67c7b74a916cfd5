-- The walk over a problem's file and the files that it includes, entry by entry in the order in
-- which the items are written. Each file has one walk: it goes on behind a file that is refused.
use Rattle.std.specs.Prelude.{ℕ, zero, suc, ◌≡◌, ◌≤◌, ◌<◌, Bool, List, [], ◌∷◌, ◌++◌, length, Option, Some, None, if◌then◌else◌}
use Rattle.std.specs.List.{list_all, list_any}
use Rattle.std.specs.Str.{bytes_eq}
use Rattle.std.specs.FinMap as finite
use Rattle.text_core.specs.declared.limits.TheConstants.{MOST_FILE_BYTES}
use Rattle.text_core.specs.Names.{Text}
use Rattle.logic_core.specs.declared.problem.Fof.{Fof}
use Rattle.logic_core.specs.declared.problem.Item.{Item}
use Rattle.logic_core.specs.declared.problem.Item.TheVariants.{Fof as ItemFof, Include}
use Rattle.io_core.specs.Held.{Held}
use Rattle.tptp_lexer.specs.declared.refusal.LexRefusal.{LexRefusal}
use Rattle.tptp_lexer.specs.Tokens.{Token, AreTokens}
use Rattle.tptp_lexer.specs.Refused.{LexFault}
use Rattle.tptp_grammar.specs.declared.refusal.SyntaxRefusal.{SyntaxRefusal}
use Rattle.tptp_grammar.specs.Spells.{AreItemsOf}
use Rattle.tptp_grammar.specs.Texts.{SyntaxFault}
use Rattle.include_flat.specs.declared.refusal.FlatWhy.{FlatWhy}
use Rattle.include_flat.specs.declared.refusal.FlatWhy.TheVariants.{Lex, Syntax, FileTooLong, IncludeDepth}

-- what is met on the walk
pub data Entry : Type 0 where
  -- a file was fetched, and has so many bytes
  fetched : Text → ℕ → Entry
  -- a formula of the file is kept
  kept : Text → Fof → Entry
  -- the files hold no such file
  missing : Text → Entry
  -- the file is refused
  stop : Text → FlatWhy → Entry

-- the selections on the way from the first file to this one
abbrev pub Selections : Type 0
Selections = List (List Text)

-- a name is in every selection
abbrev pub is_selected : Selections → Text → Bool
is_selected selections name = list_all (λ names. list_any (bytes_eq name) names) selections

-- the selections with that of an inclusion, if it has one
abbrev pub with_selection : Option (List Text) → Selections → Selections
with_selection None selections = selections
with_selection (Some names) selections = names ∷ selections

-- the entry of a formula, which is kept where its name is in every selection
abbrev pub kept_entries : Text → Selections → Fof → List Entry
kept_entries file selections fof =
    if is_selected selections fof.name then kept file fof ∷ [] else []

module _ (held : Held) where
  mutual
    -- the walk over a file: so many further levels of inclusion are allowed
    pub data WalksFile : ℕ → Selections → Text → List Entry → Type 0 where
      too_deep : {selections : Selections} {file : Text} →
          WalksFile zero selections file (stop file IncludeDepth ∷ [])
      not_held : {left : ℕ} {selections : Selections} {file : Text} → finite.get held file ≡ None →
          WalksFile (suc left) selections file (missing file ∷ [])
      too_long : {left : ℕ} {selections : Selections} {file : Text} (bytes : Text) →
          finite.get held file ≡ Some bytes → MOST_FILE_BYTES < length bytes →
          WalksFile (suc left) selections file (stop file FileTooLong ∷ [])
      read : {left : ℕ} {selections : Selections} {file : Text} {entries : List Entry}
          (bytes : Text) → finite.get held file ≡ Some bytes → length bytes ≤ MOST_FILE_BYTES →
          WalksBytes left selections file bytes entries →
          WalksFile (suc left) selections file (fetched file (length bytes) ∷ entries)

    -- the walk over the bytes of a file
    pub data WalksBytes : ℕ → Selections → Text → Text → List Entry → Type 0 where
      no_tokens : {left : ℕ} {selections : Selections} {file bytes : Text} (refusal : LexRefusal) →
          LexFault bytes refusal →
          WalksBytes left selections file bytes (stop file (Lex refusal) ∷ [])
      no_items : {left : ℕ} {selections : Selections} {file bytes : Text} (ts : List Token)
          (refusal : SyntaxRefusal) → AreTokens bytes ts →
          SyntaxFault (record { source = bytes; tokens = ts }) refusal →
          WalksBytes left selections file bytes (stop file (Syntax refusal) ∷ [])
      with_items : {left : ℕ} {selections : Selections} {file bytes : Text} {entries : List Entry}
          (ts : List Token) (items : List Item) → AreTokens bytes ts → AreItemsOf ts items →
          WalksItems left selections file items entries →
          WalksBytes left selections file bytes entries

    -- the walk over items of a file, in order
    pub data WalksItems : ℕ → Selections → Text → List Item → List Entry → Type 0 where
      end : {left : ℕ} {selections : Selections} {file : Text} →
          WalksItems left selections file [] []
      formula : {left : ℕ} {selections : Selections} {file : Text} {items : List Item}
          {all : List Entry} (fof : Fof) (rest : List Entry) →
          WalksItems left selections file items rest →
          all ≡ kept_entries file selections fof ++ rest →
          WalksItems left selections file (ItemFof fof ∷ items) all
      inclusion : {left : ℕ} {selections : Selections} {file : Text} {items : List Item}
          {all : List Entry} (name : Text) (only : Option (List Text)) (front rest : List Entry) →
          WalksFile left (with_selection only selections) name front →
          WalksItems left selections file items rest → all ≡ front ++ rest →
          WalksItems left selections file (Include name only ∷ items) all
